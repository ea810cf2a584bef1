use Rattle.std.proofs.Common.{◌<◌, length, sym, ◌∙◌, arith}
use Rattle.std.specs.Prelude.{◌==◌}
use Rattle.std.specs.List.{list_any}
use Rattle.c_tree.specs.Run as r
use Rattle.c_tree.specs.Step.{is_live}
use Rattle.plain_run.specs.CoreAt.{core_at}
use Rattle.plain_run.proofs.FindLemmas.{both_false, live-fails, live-more}
use Rattle.plain_run.proofs.parking.may_decide.Goals as goal

pub returns-then-is_loose : goal.returns-then-is_loose
returns-then-is_loose c =
    let h : c.loop-t.t < length c.args.now.now.state.threads = omega arith in
    let d = core_at c.args.program.now c.args.now.now in
    sym (both_false (r.is_asked d.phase) _ (live-fails (is_live d.state) (r.is_parked d) (length d.state.threads) c.loop-t.t h (sym c.is_loose.ensures ∙ c.if-is_loose.true)))

pub loop-t-preserved : goal.loop-t-preserved
loop-t-preserved c =
    live-more (is_live c.args.now.now.state) (λ t. list_any (λ u. u == t) c.args.now.now.parked.items) c.loop-t.t c.loop-t.invariant (sym c.is_loose.ensures ∙ c.if-is_loose.false)
