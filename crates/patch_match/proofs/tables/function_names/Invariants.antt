use Rattle.std.proofs.Common.{◌≡◌, map, take}
use Rattle.patch_match.proofs.tables.function_names.Given as goal

abbrev pub invariant-loop-function : goal.invariant-loop-function
invariant-loop-function l = l.names ≡ map (λ x. x.name) (take l.function-index l.functions)
