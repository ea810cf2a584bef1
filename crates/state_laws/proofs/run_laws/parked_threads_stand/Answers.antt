use Rattle.state_laws.proofs.ParkedStand.{parked_stand, live_stand}
use Rattle.state_laws.proofs.run_laws.parked_threads_stand.Goals as goal

pub returns-clause-parked : goal.returns-clause-parked
returns-clause-parked c = parked_stand

pub returns-clause-live : goal.returns-clause-live
returns-clause-live c = live_stand
