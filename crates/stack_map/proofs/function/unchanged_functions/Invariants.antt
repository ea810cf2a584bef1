use Rattle.std.proofs.Common.{◌≡◌, map}
use Rattle.std.specs.List.{range_with_len}
use Rattle.stack_map.specs.Kept.{is_same_function}
use Rattle.stack_map.proofs.function.unchanged_functions.Given as goal

abbrev pub invariant-loop-f : goal.invariant-loop-f
invariant-loop-f l = l.same.items ≡ map (is_same_function l.k) (range_with_len 0 l.f)
