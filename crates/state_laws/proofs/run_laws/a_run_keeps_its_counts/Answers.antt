use Rattle.state_laws.proofs.Counts.{has_few}
use Rattle.state_laws.proofs.run_laws.a_run_keeps_its_counts.Goals as goal

pub returns : goal.returns
returns c = has_few
