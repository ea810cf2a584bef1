use Rattle.c_reader.proofs.Formed.{formed}
use Rattle.c_reader.proofs.laws.readings_have_their_form.Goals as goal

pub returns : goal.returns
returns c = formed
