-- The form `void *f(void *)`: the functions that a thread can be started with.
use Rattle.std.specs.Prelude.{Bool, false, ◌&&◌, IsTrue, List, [], ◌∷◌, take}
use Rattle.c_tree.specs.declared.lifted.LFunction.{LFunction}
use Rattle.c_tree.specs.declared.lifted.Slot.{Slot}
use Rattle.c_tree.specs.Types.{is_any_pointer}

-- a function's parameters are its first slots
abbrev pub parameters_of : LFunction → List Slot
parameters_of f = take f.params f.slots

-- whether some parameters are one `void *`
abbrev pub takes_one_pointer : List Slot → Bool
takes_one_pointer (x ∷ []) = is_any_pointer x.ty
takes_one_pointer _ = false

-- whether a function has the form `void *f(void *)`
abbrev pub is_start : LFunction → Bool
is_start f = is_any_pointer f.ret && takes_one_pointer (parameters_of f)

-- a thread can be started with a function
abbrev pub CanStart : LFunction → Type 0
CanStart f = IsTrue (is_start f)
