use Rattle.std.proofs.Common.{◌≡◌, take}
use Rattle.std.specs.Prelude.{map}
use Rattle.c_tree.specs.Lifting.{lift_struct}
use Rattle.c_lift.proofs.global.lift_structs.Given as goal

abbrev pub invariant-loop-each : goal.invariant-loop-each
invariant-loop-each l = l.lifted.items ≡ map lift_struct (take l.each-index l.structs)
