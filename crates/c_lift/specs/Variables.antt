-- The parameters and locals of a function as slots, with their names as they are declared.
use Rattle.std.specs.Prelude.{◌+◌, List, [], ◌∷◌, ◌++◌, map, count_by, Option, None, Some}
use Rattle.c_tree.specs.declared.lifted.Slot.{Slot}
use Rattle.c_tree.specs.declared.program.Stmt.{Stmt}
use Rattle.c_tree.specs.declared.program.StmtKind.{StmtKind}
use Rattle.c_tree.specs.Scope.{Variable, is_same_name, locals}
use Rattle.c_tree.specs.Lifting.{slot_name}
use Rattle.c_lift.specs.Lifts.{locals_list, locals_other}

-- a variable as a slot of its name and type
abbrev pub as_slot : Variable → Slot
as_slot x = record { name = x.name; ty = x.ty }

-- the locals that a statement declares, as slots
unfoldable pub slots_of : StmtKind → List Slot
slots_of kind = map as_slot (locals kind)

-- the locals that some statements declare, as slots
unfoldable pub slots_list : List Stmt → List Slot
slots_list xs = map as_slot (locals_list xs)

-- the locals of a statement that may be absent, as slots
unfoldable pub slots_other : Option Stmt → List Slot
slots_other other = map as_slot (locals_other other)

-- the slots under names that differ, after those that were seen
abbrev pub numbered_after : List Slot → List Slot → List Slot
numbered_after seen [] = []
numbered_after seen (x ∷ rest) =
    record { name = slot_name x.name (count_by (λ y. is_same_name y.name x.name) seen + 1); ty = x.ty } ∷ numbered_after (seen ++ x ∷ []) rest
