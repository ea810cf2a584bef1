use Rattle.std.proofs.Common.{◌≡◌, take}
use Rattle.std.specs.Prelude.{map}
use Rattle.c_tree.specs.declared.lifted.Slot.{Slot}
use Rattle.c_lift.proofs.global.lift_fields.Given as goal

abbrev pub invariant-loop-field : goal.invariant-loop-field
invariant-loop-field l = l.lifted.items ≡ map (λ f. let x : Slot = record { name = f.name.it; ty = f.ty } in x) (take l.field-index l.fields)
