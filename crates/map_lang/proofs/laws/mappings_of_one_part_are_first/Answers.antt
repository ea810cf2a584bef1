use Rattle.map_lang.proofs.Formats.{one_part_is_first}
use Rattle.map_lang.proofs.laws.mappings_of_one_part_are_first.Goals as goal

pub returns : goal.returns
returns c = one_part_is_first
