-- When a program is refused.
use Rattle.std.specs.Prelude.{◌≡◌, Some}
use Rattle.c_tree.specs.declared.program.Program.{Program}
use Rattle.c_tree.specs.declared.program.Function.{Function}
use Rattle.c_tree.specs.Lifting.{lift_function, passed_limit, lift_limit}
use Rattle.c_lift.specs.declared.refusal.LiftRefused.{LiftRefused}
use Rattle.c_lift.specs.declared.refusal.LiftRefused.TheVariants.{Limit, Memory}

-- a limit is the first that a function of the program passes, at that function's name; want of memory is free
abbrev pub IsDue : Program → LiftRefused → Type 0
IsDue p (Limit at kind) = lift_limit p ≡ Some (at, kind)
IsDue p (Memory e) = Unit {0}

-- the same for one function
abbrev pub IsDueAt : Program → Function → LiftRefused → Type 0
IsDueAt p f (Limit at kind) = (at ≡ f.name.at) × (passed_limit (lift_function p f) ≡ Some kind)
IsDueAt p f (Memory e) = Unit {0}
