use Rattle.std.proofs.Common.{◌≡◌, ◌++◌, take}
use Rattle.frame_transform.specs.Declarations.{declared}
use Rattle.frame_transform.specs.Line.{each}
use Rattle.frame_transform.proofs.declarations.append_more_parameters.Given as goal

abbrev pub invariant-slots : goal.invariant-slots
invariant-slots l = l.out.items ≡ l.initial.out.items ++ each declared (take l.i l.slots)
