use Rattle.c_grammar.specs.Rules.{map_start, first_map_start}
use Rattle.c_grammar.proofs.OneMapAnswer.{one_map_answer}
use Rattle.c_grammar.proofs.laws.a_mapping_has_one_answer.Goals as goal

pub returns-clause-mapping : goal.returns-clause-mapping
returns-clause-mapping c = one_map_answer map_start

pub returns-clause-first : goal.returns-clause-first
returns-clause-first c = one_map_answer first_map_start
