-- Where an expression stands, as the definitions see it.
use Rattle.std.specs.Prelude.{ℕ, List, ◌++◌, reverse}
use Rattle.c_tree.specs.declared.ty.Ty.{Ty}
use Rattle.c_tree.specs.declared.program.Program.{Program}
use Rattle.c_tree.specs.declared.scope.Named.{Named}
use Rattle.c_tree.specs.Scope.{Scope, names_of}
use Rattle.c_tree.specs.Lifting as lifting
use Rattle.c_lift.specs.declared.spot.Setting.{Setting}
use Rattle.c_lift.specs.declared.spot.Locals.{Locals}
use Rattle.c_lift.specs.declared.spot.Spot.{Spot}

-- the scope in a function that has declared these names, the nearest last, and these slots
abbrev pub scope_in : Program → List Named → List Ty → Scope
scope_in p names slots = record { names = reverse names ++ names_of p; program = p; slots = slots }

-- the spot in such a scope,
-- with the number of slots before the first temporary and the function's result type
abbrev pub spot_in : Program → List Named → List Ty → ℕ → Ty → lifting.Spot
spot_in p names slots base ret = record { scope = scope_in p names slots; slots = base; ret = ret }

-- the spot where these locals are declared, in a function of this setting
abbrev pub standing : Setting → Locals → lifting.Spot
standing s x = spot_in s.file.now x.names.items x.slots.items s.base s.ret.now

-- the spot of the definitions where the code's spot stands
abbrev pub around : Spot → lifting.Spot
around at = standing at.setting.now at.locals.now
