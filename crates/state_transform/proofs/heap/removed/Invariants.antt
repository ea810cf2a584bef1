use Rattle.std.proofs.Common.{◌≡◌, ◌+◌, drop}
use Rattle.c_tree.specs.MapHeap as spec
use Rattle.state_transform.proofs.heap.removed.Given as goal

abbrev pub invariant-loop-i : goal.invariant-loop-i
invariant-loop-i l = spec.removed l.k 1 l.objects ≡ spec.removed l.k (l.i + 1) (drop l.i l.objects)
