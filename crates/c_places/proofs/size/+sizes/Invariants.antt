use Rattle.std.proofs.Common.{◌≡◌, ◌+◌, ◌≤◌, min, drop}
use Rattle.c_tree.specs.Layout as spec
use Rattle.c_places.proofs.size.+sizes.Given as goal

abbrev pub invariant-size_of-loop-s : goal.invariant-size_of-loop-s
invariant-size_of-loop-s l = (l.total ≤ 10001) × (min (l.total + spec.size_of (drop l.s-index l.block)) 10001 ≡ min (spec.size_of l.block) 10001)
