use Rattle.name_index.proofs.FoundLemmas.{fields_are}
use Rattle.name_index.proofs.file.File.fields_of.Goals as goal

pub returns : goal.returns
returns c = fields_are c.args.self.now c.self.inside.program.now _ _ _ _ _ c.args.owner.now c.as_slice.result.now _ c.self.view_is c.self.invariant c.as_slice.ensures.value c.at_number.ensures
