use Rattle.state_laws.proofs.Runs.{run_is_valid, run_is_valid_until}
use Rattle.state_laws.proofs.laws.runs_stay_valid.Goals as goal

pub returns-clause-unarmed : goal.returns-clause-unarmed
returns-clause-unarmed c = run_is_valid

pub returns-clause-until_update : goal.returns-clause-until_update
returns-clause-until_update c = run_is_valid_until
