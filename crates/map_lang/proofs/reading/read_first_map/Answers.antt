use Rattle.std.proofs.Common.{inr, refl}
use Rattle.map_lang.proofs.Formats.{answer_formed, answer_single}
use Rattle.map_lang.proofs.reading.read_first_map.Goals as goal

pub read_text-requires-clause-start : goal.read_text-requires-clause-start
read_text-requires-clause-start c = inr refl

pub returns-clause-form : goal.returns-clause-form
returns-clause-form c = answer_formed c.args.bytes.now c.read_text.result c.read_text.ensures

pub returns-clause-parts : goal.returns-clause-parts
returns-clause-parts c = answer_single c.args.bytes.now c.read_text.result c.read_text.ensures
