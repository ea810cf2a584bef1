use Rattle.state_laws.proofs.WholeRuns.{whole_run_is_valid}
use Rattle.state_laws.proofs.laws.whole_runs_stay_valid.Goals as goal

pub returns : goal.returns
returns c = whole_run_is_valid
