use Rattle.std.proofs.Common.{◌≡◌, ◌+◌, drop}
use Rattle.c_tree.specs.Fillings as spec
use Rattle.c_tree.specs.Value as values
use Rattle.stack_map.specs.Filled.{because}
use Rattle.stack_map.specs.Added.{after}
use Rattle.stack_map.proofs.values.filled.Given as goal

abbrev pub invariant-loop-x : goal.invariant-loop-x
invariant-loop-x l =
    (spec.filled (values.view l.slots l.own l.state.globals l.state.heap.objects) (because l.whose) l.first l.fillings
    ≡ after l.made.items (spec.filled (values.view l.slots l.own l.state.globals l.state.heap.objects) (because l.whose) l.i (drop l.x-index l.fillings)))
    × (l.i ≡ l.first + l.x-index)
