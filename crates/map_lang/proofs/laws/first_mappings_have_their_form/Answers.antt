use Rattle.map_lang.proofs.Formats.{first_formed}
use Rattle.map_lang.proofs.laws.first_mappings_have_their_form.Goals as goal

pub returns : goal.returns
returns c = first_formed
