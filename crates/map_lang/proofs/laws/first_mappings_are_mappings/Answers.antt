use Rattle.map_lang.proofs.Formats.{first_are_mappings}
use Rattle.map_lang.proofs.laws.first_mappings_are_mappings.Goals as goal

pub returns : goal.returns
returns c = first_are_mappings
