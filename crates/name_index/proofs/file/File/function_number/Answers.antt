use Rattle.name_index.proofs.FoundLemmas.{function_number_is}
use Rattle.name_index.proofs.file.File.function_number.Goals as goal

pub returns : goal.returns
returns c = function_number_is c.args.self.now c.self.inside.program.now _ _ _ _ _ c.args.name.now _ _ c.self.view_is c.self.invariant c.number.ensures c.unwrap_or.ensures
