use Rattle.std.proofs.Common.{◌≡◌, ◌+◌, drop}
use Rattle.c_tree.specs.MapHeap as spec
use Rattle.stack_map.specs.Added.{after}
use Rattle.state_transform.proofs.heap.objects_by.Given as goal

abbrev pub invariant-loop-i : goal.invariant-loop-i
invariant-loop-i l =
    spec.map_objects l.m.link.now l.m.entries.now l.state 1 l.state.heap.objects
    ≡ after l.made.items (spec.map_objects l.m.link.now l.m.entries.now l.state (l.i + 1) (drop l.i l.state.heap.objects))
