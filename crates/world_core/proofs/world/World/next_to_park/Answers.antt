use Rattle.std.proofs.Common.{◌∙◌}
use Rattle.c_tree.specs.Run as r
use Rattle.world_core.proofs.WorldLemmas.{find_at, found_may}
use Rattle.world_core.proofs.world.World.next_to_park.Goals as goal

pub returns-clause-value : goal.returns-clause-value
returns-clause-value c =
    c.next_to_park.ensures ∙ find_at r.may_park c.self.inside c.args.self.now c.present.result.now c.self.view_is c.self.invariant c.present.ensures

pub returns-clause-may : goal.returns-clause-may
returns-clause-may c = found_may c.args.self.now r.may_park c.next_to_park.result (returns-clause-value c)
