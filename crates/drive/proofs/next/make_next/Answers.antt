use Rattle.std.proofs.Common.{sym, ◌∙◌}
use Rattle.world_core.specs.History.{core}
use Rattle.drive.proofs.NoEvent.{some_picked}
use Rattle.drive.proofs.OnwardLemmas.{onward-Request, onward-Park, onward-outcome, onward-Resume, onward-Step, on_ok}
use Rattle.drive.proofs.next.make_next.Goals as goal

pub returns-then-is_due-clause-goes : goal.returns-then-is_due-clause-goes
returns-then-is_due-clause-goes c =
    on_ok c.request.result (λ m. onward-Request c.args.world.now c.request.new.self c.args.picker.now c.requires.going c.requires.kept c.requires.low
    (sym c.is_due.ensures.value ∙ c.if-is_due.true) m) c.request.ensures.ok

pub returns-in-Some-clause-goes : goal.returns-in-Some-clause-goes
returns-in-Some-clause-goes c =
    on_ok c.park.result (λ m. onward-Park c.args.world.now c.park.new.self c.args.picker.now c.in-Some.t c.requires.going c.requires.kept c.requires.low
    (sym c.is_due.ensures.value ∙ c.if-is_due.false) (sym c.in-Some.ensures.value) m) c.park.ensures.ok

pub returns-then-may_decide-clause-goes : goal.returns-then-may_decide-clause-goes
returns-then-may_decide-clause-goes c =
    onward-outcome c.args.world.now c.commit.new.self c.args.picker.now c.commit.result c.requires.going c.requires.kept c.requires.low
    (sym c.is_due.ensures.value ∙ c.if-is_due.false) (sym c.next_to_park.ensures.value ∙ c.in_default.is)
    (sym c.may_decide.ensures.value ∙ c.if-may_decide.true) c.commit.ensures.made c.commit.ensures.outcome

pub returns-in-Some-next_to_resume-clause-goes : goal.returns-in-Some-next_to_resume-clause-goes
returns-in-Some-next_to_resume-clause-goes c =
    onward-Resume c.args.world.now c.resume.new.self c.args.picker.now c.in-Some-next_to_resume.t c.requires.going c.requires.kept c.requires.low
    (sym c.is_due.ensures.value ∙ c.if-is_due.false) (sym c.next_to_park.ensures.value ∙ c.in_default.is)
    (sym c.may_decide.ensures.value ∙ c.if-may_decide.false) (sym c.in-Some-next_to_resume.ensures.value) c.resume.ensures

pub unreachable-requires : goal.unreachable-requires
unreachable-requires c =
    some_picked c.args.world.now.settings (core c.args.world.now) c.args.picker.now c.requires.kept c.requires.going
    (sym c.is_due.ensures.value ∙ c.if-is_due.false) (sym c.next_to_park.ensures.value ∙ c.in_default.is)
    (sym c.may_decide.ensures.value ∙ c.if-may_decide.false) (sym c.next_to_resume.ensures.value ∙ c.in_default-next_to_resume.is)
    (sym c.pick.ensures.value ∙ c.in-None.is)

pub returns-clause-goes : goal.returns-clause-goes
returns-clause-goes c =
    onward-Step c.args.world.now c.turn.new.self c.args.picker.now c.after_step.result c.in-Some-pick.t c.requires.going c.requires.kept
    (sym c.is_due.ensures.value ∙ c.if-is_due.false) (sym c.next_to_park.ensures.value ∙ c.in_default.is)
    (sym c.may_decide.ensures.value ∙ c.if-may_decide.false) (sym c.next_to_resume.ensures.value ∙ c.in_default-next_to_resume.is)
    (sym c.in-Some-pick.ensures.value) c.in-Some-pick.ensures.low c.after_step.ensures c.in_ok-turn-in-Some-pick.ensures.made
    c.in_ok-turn-in-Some-pick.ensures.more c.in_ok-turn-in-Some-pick.ensures.within
