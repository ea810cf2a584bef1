use Rattle.state_laws.proofs.UnchangedPlaces.{update_is_valid}
use Rattle.state_laws.proofs.laws.updates_stay_valid.Goals as goal

pub returns : goal.returns
returns c = update_is_valid
