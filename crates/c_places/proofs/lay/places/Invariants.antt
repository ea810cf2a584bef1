use Rattle.std.proofs.Common.{◌≡◌, map, take}
use Rattle.c_tree.specs.Layout as spec
use Rattle.c_places.proofs.lay.places.Given as goal

abbrev pub invariant-loop-function : goal.invariant-loop-function
invariant-loop-function l = l.functions.items ≡ map spec.places (take l.function-index l.function-items)
