use Rattle.std.proofs.Common.{inl, inr, refl}
use Rattle.c_grammar.specs.Rules.{map_start, first_map_start}
use Rattle.map_lang.proofs.Answered.{answered}
use Rattle.map_lang.proofs.laws.each_mapping_has_one_answer.Goals as goal

pub returns-clause-some : goal.returns-clause-some
returns-clause-some c = answered map_start (inl refl)

pub returns-clause-first_some : goal.returns-clause-first_some
returns-clause-first_some c = answered first_map_start (inr refl)
