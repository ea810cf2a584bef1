use Rattle.c_tree.specs.Scope.{names_of}
use Rattle.name_index.proofs.MeaningLemmas.{nearest_is, farther_is}
use Rattle.c_check.proofs.scope.meaning.Goals as goal

pub returns-in-Some : goal.returns-in-Some
returns-in-Some c = nearest_is c.args.name.now c.args.locals.now.names (names_of c.args.file.now) _ c.in-Some.ensures

pub returns-in-None : goal.returns-in-None
returns-in-None c = farther_is c.args.name.now c.args.locals.now.names (names_of c.args.file.now) _ c.in-None.ensures c.meaning.ensures
