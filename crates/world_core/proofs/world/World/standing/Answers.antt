use Rattle.std.proofs.Common.{◌∙◌}
use Rattle.world_core.proofs.WorldLemmas.{standing_told}
use Rattle.world_core.proofs.world.World.standing.Goals as goal

pub returns : goal.returns
returns c = c.standing.ensures ∙ standing_told c.self.inside c.args.self.now c.present.result.now c.args.t c.self.view_is c.self.invariant c.present.ensures
