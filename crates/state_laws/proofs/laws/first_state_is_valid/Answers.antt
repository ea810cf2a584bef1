use Rattle.state_laws.proofs.First.{start_is_valid}
use Rattle.state_laws.proofs.laws.first_state_is_valid.Goals as goal

pub returns : goal.returns
returns c = start_is_valid
