use Rattle.load_texts.proofs.SizeLemmas.{short_mapping}
use Rattle.load_texts.proofs.laws.mappings_are_short.Goals as goal

pub returns : goal.returns
returns c = short_mapping
