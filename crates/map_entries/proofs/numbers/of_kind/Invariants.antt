use Rattle.std.proofs.Common.{◌≡◌, take}
use Rattle.c_tree.specs.Points as points
use Rattle.map_entries.proofs.numbers.of_kind.Given as goal

-- the numbers among the places so far
abbrev pub invariant-places : goal.invariant-places
invariant-places l = l.numbers.items ≡ points.of_kind l.kind (take l.n l.places)
