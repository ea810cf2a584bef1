use Rattle.target_laws.proofs.Rebuilds.{rebuilding_loads}
use Rattle.target_laws.proofs.laws.a_rebuilding_loads.Goals as goal

pub returns : goal.returns
returns c = rebuilding_loads
