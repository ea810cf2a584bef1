use Rattle.std.proofs.Common.{◌≡◌, ◌++◌, take}
use Rattle.std.specs.Prelude.{codes}
use Rattle.std.specs.List.{flat_map}
use Rattle.frame_transform.specs.Declarations.{declared}
use Rattle.frame_transform.proofs.declarations.append_fields.Given as goal

abbrev pub invariant-fields : goal.invariant-fields
invariant-fields l = l.out.items ≡ l.initial.out.items ++ flat_map (λ field. declared field ++ codes "; ") (take l.i l.fields)
