-- The names of a program's things, and their numbers.
use Rattle.std.specs.Prelude.{ℕ, zero, suc, Bool, false, ◌==◌, List, [], map, slice_index_or, Option, Some, None}
use Rattle.std.specs.List.{position_from}
use Rattle.c_tree.specs.declared.ty.Ty.TheVariants as ty
use Rattle.c_tree.specs.declared.lifted.Lifted.{Lifted}
use Rattle.c_tree.specs.declared.lifted.LStruct.{LStruct}
use Rattle.c_tree.specs.declared.lifted.Slot.{Slot}
use Rattle.c_tree.specs.Scope.{is_same_name}

-- whether there is a number, and it is this one
abbrev pub is_number : Option ℕ → ℕ → Bool
is_number None n = false
is_number (Some m) n = m == n

-- whether both are there and equal
abbrev pub same_number : Option ℕ → Option ℕ → Bool
same_number (Some a) (Some b) = a == b
same_number _ _ = false

-- the number of a name in a list of names
abbrev pub find_name : List ℕ → List (List ℕ) → Option ℕ
find_name name names = position_from (is_same_name name) 0 names

-- the names of one kind: 0 for functions, 1 for structs, 2 for globals, 3 for mutexes
abbrev pub names_in : Lifted → ℕ → List (List ℕ)
names_in p zero = map (λ x. x.name) p.functions
names_in p (suc zero) = map (λ x. x.name) p.structs
names_in p (suc (suc zero)) = map (λ x. x.name) p.globals
names_in p (suc (suc (suc kind))) = p.mutexes

-- the name of a number in one kind
abbrev pub name_at : Lifted → ℕ → ℕ → List ℕ
name_at p kind i = slice_index_or (names_in p kind) i []

-- the names of slots or fields
abbrev pub slot_names : List Slot → List (List ℕ)
slot_names xs = map (λ x. x.name) xs

-- the name of one slot or field
abbrev pub slot_name : List Slot → ℕ → List ℕ
slot_name xs i = (slice_index_or xs i (record { name = []; ty = ty.Void })).name

-- what stands for a struct that is not there
abbrev pub no_struct : LStruct
no_struct = record { name = []; fields = [] }

-- the struct of a number
abbrev pub struct_of : Lifted → ℕ → LStruct
struct_of p i = slice_index_or p.structs i no_struct

-- the name of a field of the struct of a number
abbrev pub field_name : Lifted → ℕ → ℕ → List ℕ
field_name p owner i = slot_name (struct_of p owner).fields i
