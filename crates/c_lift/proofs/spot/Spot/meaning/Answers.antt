use Rattle.std.specs.Prelude.{reverse}
use Rattle.c_tree.specs.Scope.{names_of}
use Rattle.name_index.proofs.MeaningLemmas.{nearest_is, farther_is}
use Rattle.c_lift.proofs.spot.Spot.meaning.Goals as goal

pub returns-in-Some : goal.returns-in-Some
returns-in-Some c =
    nearest_is c.args.name.now (reverse c.args.self.now.locals.now.names.items) (names_of c.args.self.now.setting.now.file.now) _ c.in-Some.ensures

pub returns-in-None : goal.returns-in-None
returns-in-None c =
    farther_is c.args.name.now (reverse c.args.self.now.locals.now.names.items) (names_of c.args.self.now.setting.now.file.now) _ c.in-None.ensures c.meaning.ensures
