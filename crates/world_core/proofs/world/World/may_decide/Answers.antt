use Rattle.std.proofs.Common.{◌∙◌}
use Rattle.c_tree.specs.Run as r
use Rattle.world_core.specs.History.{core}
use Rattle.world_core.proofs.WorldLemmas.{on_told, test_at}
use Rattle.world_core.proofs.world.World.may_decide.Goals as goal

pub returns-clause-value : goal.returns-clause-value
returns-clause-value c =
    c.may_decide.ensures ∙ test_at (λ k d. r.may_decide d) c.self.inside c.args.self.now c.present.result.now c.self.view_is c.self.invariant c.present.ensures

pub returns-clause-may : goal.returns-clause-may
returns-clause-may c o = let h = c.args.self.now in on_told h c.may_decide.result (r.may_decide (core h)) o (returns-clause-value c)
