use Rattle.world_core.proofs.WorldLemmas.{run_told}
use Rattle.world_core.proofs.world.World.into_events.Goals as goal

pub returns-clause-legal : goal.returns-clause-legal
returns-clause-legal c = run_told c.self.inside c.args.self c.self.view_is c.self.invariant
