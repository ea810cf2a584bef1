use Rattle.std.proofs.Common.{◌≡◌, take}
use Rattle.std.specs.Prelude.{map}
use Rattle.c_tree.specs.Scope.{file_scope}
use Rattle.c_tree.specs.Lifting.{lift_global}
use Rattle.c_lift.proofs.global.lift_globals.Given as goal

abbrev pub invariant-loop-global : goal.invariant-loop-global
invariant-loop-global l = l.lifted.items ≡ map (lift_global (file_scope l.file)) (take l.global-index l.globals)
