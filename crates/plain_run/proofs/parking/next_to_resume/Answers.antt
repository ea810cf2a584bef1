use Rattle.std.proofs.Common.{◌<◌, ◌≡◌, [], length, rules, ap, sym, ◌∙◌, arith}
use Rattle.std.specs.Prelude.{◌==◌}
use Rattle.std.specs.List.{list_any}
use Rattle.c_tree.specs.Run as r
use Rattle.plain_run.specs.CoreAt.{core_at}
use Rattle.plain_run.proofs.FindLemmas.{both_false, no_items, none-pass, find-more, found}
use Rattle.plain_run.proofs.parking.next_to_resume.Goals as goal

pub returns-then-is_empty : goal.returns-then-is_empty
returns-then-is_empty c =
    let d = core_at c.args.program.now c.args.now.now in
    let e : d.parked ≡ [] = no_items d.parked (search rules) in
    sym (none-pass (r.may_resume d) (r.threads d) (λ t. both_false (r.is_after d.phase) _ (ap (λ us. list_any (λ u. u == t) us) e)))

pub returns-then-may_resume : goal.returns-then-may_resume
returns-then-may_resume c =
    let h : c.loop-t.t < length c.args.now.now.state.threads = omega arith in
    let d = core_at c.args.program.now c.args.now.now in
    sym (found (r.may_resume d) (length d.state.threads) c.loop-t.t h c.loop-t.invariant (sym c.may_resume.ensures ∙ c.if-may_resume.true))

pub loop-t-preserved : goal.loop-t-preserved
loop-t-preserved c =
    find-more (r.may_resume (core_at c.args.program.now c.args.now.now)) c.loop-t.t c.loop-t.invariant (sym c.may_resume.ensures ∙ c.if-may_resume.false)
