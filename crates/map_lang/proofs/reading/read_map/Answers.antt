use Rattle.std.proofs.Common.{inl, refl}
use Rattle.map_lang.proofs.MapForms.{answer_formed}
use Rattle.map_lang.proofs.reading.read_map.Goals as goal

pub read_text-requires-clause-start : goal.read_text-requires-clause-start
read_text-requires-clause-start c = inl refl

pub returns-clause-form : goal.returns-clause-form
returns-clause-form c = answer_formed c.args.bytes.now c.read_text.result c.read_text.ensures
