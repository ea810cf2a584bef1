use Rattle.std.proofs.Common.{◌<◌, length, sym, ◌∙◌, arith}
use Rattle.c_tree.specs.Run as r
use Rattle.plain_run.specs.CoreAt.{core_at}
use Rattle.plain_run.proofs.FindLemmas.{none-pass, not_first, find-more, found}
use Rattle.plain_run.proofs.parking.next_to_park.Goals as goal

pub returns-then-not-is_asked : goal.returns-then-not-is_asked
returns-then-not-is_asked c =
    let d = core_at c.args.program.now c.args.now.now in
    sym (none-pass (r.may_park d) (r.threads d) (λ t. not_first (r.is_asked d.phase) _ _ (sym c.is_asked.ensures ∙ c.if-not-is_asked.true)))

pub returns-then-may_park : goal.returns-then-may_park
returns-then-may_park c =
    let h : c.loop-t.t < length c.args.now.now.state.threads = omega arith in
    let d = core_at c.args.program.now c.args.now.now in
    sym (found (r.may_park d) (length d.state.threads) c.loop-t.t h c.loop-t.invariant (sym c.may_park.ensures ∙ c.if-may_park.true))

pub loop-t-preserved : goal.loop-t-preserved
loop-t-preserved c =
    find-more (r.may_park (core_at c.args.program.now c.args.now.now)) c.loop-t.t c.loop-t.invariant (sym c.may_park.ensures ∙ c.if-may_park.false)
