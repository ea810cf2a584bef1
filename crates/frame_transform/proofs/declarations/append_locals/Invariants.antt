use Rattle.std.proofs.Common.{◌≡◌, ◌++◌, take}
use Rattle.std.specs.Prelude.{codes}
use Rattle.std.specs.List.{flat_map}
use Rattle.frame_transform.specs.Declarations.{declared}
use Rattle.frame_transform.specs.Line.{line}
use Rattle.frame_transform.proofs.declarations.append_locals.Given as goal

abbrev pub invariant-slots : goal.invariant-slots
invariant-slots l = l.out.items ≡ l.initial.out.items ++ flat_map (λ slot. line 1 (declared slot ++ codes ";")) (take l.i l.slots)
