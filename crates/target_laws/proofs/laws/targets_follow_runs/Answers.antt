use Rattle.target_laws.proofs.Following.{targets_follow_runs}
use Rattle.target_laws.proofs.laws.targets_follow_runs.Goals as goal

pub returns : goal.returns
returns c = targets_follow_runs
