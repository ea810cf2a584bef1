use Rattle.target_laws.proofs.Unwinds.{unwinding_saves}
use Rattle.target_laws.proofs.laws.an_unwinding_saves.Goals as goal

pub returns : goal.returns
returns c = unwinding_saves
