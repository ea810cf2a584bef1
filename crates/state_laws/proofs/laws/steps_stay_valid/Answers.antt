use Rattle.state_laws.proofs.Steps.{step_is_valid}
use Rattle.state_laws.proofs.laws.steps_stay_valid.Goals as goal

pub returns : goal.returns
returns c = step_is_valid
