use Rattle.std.proofs.Common.{◌≡◌, take}
use Rattle.std.specs.Prelude.{filter, is_some}
use Rattle.name_index.specs.Tables.{function_names}
use Rattle.name_index.proofs.file.defined_of.Given as goal

abbrev pub invariant-loop-function : goal.invariant-loop-function
invariant-loop-function l = l.names ≡ function_names (filter (λ f. is_some f.body) (take l.function-index l.functions))
