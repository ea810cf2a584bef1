use Rattle.std.proofs.Common.{sym, subst}
use Rattle.c_tree.specs.declared.event.EventKind.TheVariants as e
use Rattle.c_tree.specs.declared.run.Phase.TheVariants.{Updated}
use Rattle.c_tree.specs.declared.state.State.{State}
use Rattle.plain_run.specs.Made.{Makes}
use Rattle.plain_run.proofs.OutcomeLemmas.{update_makes}
use Rattle.plain_run.proofs.decision.update.Goals as goal

pub returns : goal.returns
returns c k a d =
    subst (λ (s : State). Makes k e.Update c.args.now.now c.args.new (record c.args.now.now { state = s; phase = Updated })) (sym c.put_into.ensures)
    (update_makes c.args.parts c.args.new c.args.now.now k c.args.old.now a d)
