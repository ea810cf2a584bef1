use Rattle.world_core.proofs.UpdateLemmas.{commit_asked, decide_told}
use Rattle.world_core.proofs.world.World.decide.Goals as goal

pub decide-requires-clause-ready : goal.decide-requires-clause-ready
decide-requires-clause-ready c = c.self.invariant.ready

pub decide-requires-clause-asked : goal.decide-requires-clause-asked
decide-requires-clause-asked c = commit_asked c.self.inside c.args.self.now c.self.view_is c.self.invariant c.requires

pub returns-clause-decided : goal.returns-clause-decided
returns-clause-decided c = decide_told c.self.inside c.args.self.now c.decide.result c.self.view_is c.self.invariant c.decide.ensures.decided
