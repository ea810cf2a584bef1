use Rattle.std.proofs.Common.{◌∙◌}
use Rattle.world_core.proofs.WorldLemmas.{may_turn_told, step_told}
use Rattle.world_core.proofs.world.World.may_step.Goals as goal

pub returns-clause-step : goal.returns-clause-step
returns-clause-step c =
    c.may_step.ensures ∙ step_told c.self.inside c.args.self.now c.present.result.now c.args.t c.self.view_is c.self.invariant c.present.ensures

pub returns-clause-turn : goal.returns-clause-turn
returns-clause-turn c =
    may_turn_told c.self.inside c.args.self.now c.present.result.now c.args.t c.may_step.result c.self.view_is c.self.invariant c.present.ensures c.requires c.may_step.ensures
