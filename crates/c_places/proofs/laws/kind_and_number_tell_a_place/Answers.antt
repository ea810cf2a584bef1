use Rattle.c_tree.proofs.PointLemmas.{find_number_of, number_found}
use Rattle.c_places.proofs.laws.kind_and_number_tell_a_place.Goals as goal

pub returns-clause-each : goal.returns-clause-each
returns-clause-each c = find_number_of

pub returns-clause-no_other : goal.returns-clause-no_other
returns-clause-no_other c = number_found
