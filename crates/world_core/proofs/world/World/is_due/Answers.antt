use Rattle.std.proofs.Common.{◌∙◌}
use Rattle.c_tree.specs.Run as r
use Rattle.world_core.specs.History.{core}
use Rattle.world_core.proofs.WorldLemmas.{on_told, test_at}
use Rattle.world_core.proofs.world.World.is_due.Goals as goal

pub returns-clause-value : goal.returns-clause-value
returns-clause-value c =
    c.is_due.ensures ∙ test_at (λ k d. r.is_due k d) c.self.inside c.args.self.now c.present.result.now c.self.view_is c.self.invariant c.present.ensures

pub returns-clause-may : goal.returns-clause-may
returns-clause-may c o = let h = c.args.self.now in on_told h c.is_due.result (r.is_due h.settings (core h)) o (returns-clause-value c)
