use Rattle.c_reader.proofs.Formed.{tree_spelt}
use Rattle.c_reader.proofs.Spelling.{liftings_spelt}
use Rattle.c_reader.proofs.laws.names_can_be_spelt.Goals as goal

pub returns-clause-tree : goal.returns-clause-tree
returns-clause-tree c = tree_spelt

pub returns-clause-lifted : goal.returns-clause-lifted
returns-clause-lifted c = liftings_spelt
