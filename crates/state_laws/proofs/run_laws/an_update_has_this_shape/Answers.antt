use Rattle.state_laws.proofs.UpdateShape.{update_shape}
use Rattle.state_laws.proofs.run_laws.an_update_has_this_shape.Goals as goal

pub returns : goal.returns
returns c = update_shape
