use Rattle.world_core.proofs.UpdateLemmas.{made_stays}
use Rattle.world_core.proofs.world.World.commit.Goals as goal

pub returns-clause-stays : goal.returns-clause-stays
returns-clause-stays c =
    made_stays c.args.self.now c.settle.new.self c.args.worker c.match-decide.decision c.committed_by-committed.result c.committed_by-committed.ensures c.settle.ensures
