use Rattle.name_index.proofs.FoundLemmas.{defined_is}
use Rattle.name_index.proofs.file.File.is_defined.Goals as goal

pub returns : goal.returns
returns c = defined_is c.args.self.now c.self.inside.program.now _ _ _ _ _ c.args.name.now _ _ c.self.view_is c.self.invariant c.number.ensures c.is_some.ensures
