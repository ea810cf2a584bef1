use Rattle.std.proofs.Common.{◌≡◌, ◌+◌, ◌++◌, drop}
use Rattle.c_tree.specs.Lifting.{temporary_slots}
use Rattle.c_lift.proofs.names.add_temporaries.Given as goal

abbrev pub invariant-loop-i : goal.invariant-loop-i
invariant-loop-i l = l.slots.items ++ temporary_slots (l.i + 1) (drop l.i l.made) ≡ l.initial.slots.items ++ temporary_slots 1 l.made
