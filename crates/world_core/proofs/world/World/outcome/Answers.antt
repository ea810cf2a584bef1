use Rattle.std.proofs.Common.{◌∙◌}
use Rattle.world_core.specs.Outcome.{outcome_in}
use Rattle.world_core.proofs.WorldLemmas.{test_told}
use Rattle.world_core.proofs.world.World.outcome.Goals as goal

pub returns : goal.returns
returns c = c.how_far.ensures ∙ test_told (λ k d. outcome_in k.armed d.phase) c.self.inside c.args.self.now c.self.view_is c.self.invariant
