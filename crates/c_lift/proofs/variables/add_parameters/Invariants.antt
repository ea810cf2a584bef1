use Rattle.std.proofs.Common.{◌≡◌, ◌++◌, take}
use Rattle.std.specs.Prelude.{map}
use Rattle.c_tree.specs.declared.lifted.Slot.{Slot}
use Rattle.c_lift.proofs.variables.add_parameters.Given as goal

abbrev pub invariant-loop-param : goal.invariant-loop-param
invariant-loop-param l = l.slots.items ≡ l.initial.slots.items ++ map (λ q. let x : Slot = record { name = q.name.it; ty = q.ty } in x) (take l.param-index l.params)
