use Rattle.map_lang.proofs.MapForms.{formed}
use Rattle.map_lang.proofs.laws.mappings_have_their_form.Goals as goal

pub returns : goal.returns
returns c = formed
