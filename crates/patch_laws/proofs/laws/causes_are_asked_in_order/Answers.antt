use Rattle.patch_laws.proofs.AskedInOrder.{asked_in_order}
use Rattle.patch_laws.proofs.laws.causes_are_asked_in_order.Goals as goal

pub returns : goal.returns
returns c = asked_in_order
