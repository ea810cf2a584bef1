use Rattle.name_index.proofs.FoundLemmas.{struct_is}
use Rattle.name_index.proofs.file.File.struct_named.Goals as goal

pub returns : goal.returns
returns c = struct_is c.args.self.now c.self.inside.program.now _ _ _ _ _ c.args.name.now c.as_slice.result.now _ c.self.view_is c.self.invariant c.as_slice.ensures c.at_number.ensures
