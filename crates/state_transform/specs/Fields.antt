-- What the objects of each old struct become.
use Rattle.std.specs.Prelude.{◌≡◌, ℕ, List, Option, Some, Result, Ok, map, length}
use Rattle.std.specs.Option.{option_map}
use Rattle.std.specs.List.{range_with_len}
use Rattle.c_tree.specs.declared.event.Reason.{Reason}
use Rattle.c_tree.specs.declared.event.Reason.TheVariants as why
use Rattle.c_tree.specs.declared.lifted.LExpr.{LExpr}
use Rattle.c_tree.specs.declared.lifted.LExpr.TheVariants as l
use Rattle.c_tree.specs.declared.lifted.Slot.{Slot}
use Rattle.c_tree.specs.declared.mapping.LEntry.{LEntry}
use Rattle.c_tree.specs.declared.state.Object.{Object}
use Rattle.c_tree.specs.declared.state.State.{State}
use Rattle.c_tree.specs.Fillings.{carried, filled, filling}
use Rattle.c_tree.specs.Link.{Link, match_at}
use Rattle.c_tree.specs.MapHeap.{field_fillings, field_for, object_view}
use Rattle.c_tree.specs.Refusal.{first_some, onward}
use Rattle.state_transform.specs.declared.fields.StructMap.{StructMap}

-- what fills the new field of number j of a new struct: what the entries say, else the old field, else 0
abbrev pub filling_of : Link → List LEntry → List Slot → ℕ → ℕ → Slot → LExpr
filling_of k entries olds new j x = filling (first_some (map (field_for new j) entries)) (option_map (λ i. l.Own i) (carried k olds x))

-- objects of an old struct become those of a new one, and this fills their fields
abbrev pub going_to : Link → List LEntry → ℕ → ℕ → StructMap
going_to k entries old new = record { owner = new; fillings = field_fillings k entries old new }

-- what the objects of an old struct become, where it has a match
abbrev pub struct_map : Link → List LEntry → ℕ → Option StructMap
struct_map k entries old = option_map (going_to k entries old) (match_at k.structs old)

-- the answer for each old struct
abbrev pub AreStructMaps : Link → List LEntry → List (Option StructMap) → Type 0
AreStructMaps k entries made = made ≡ map (struct_map k entries) (range_with_len 0 (length k.old.structs))

-- an object whose struct becomes another, in the old state
abbrev pub object_to : StructMap → State → ℕ → Object → Result (Option Object) Reason
object_to m s number o =
    onward (filled (object_view s o) (λ j c. why.Field number j c) 0 m.fillings) (λ vs.
    Ok (Some (record { owner = m.owner; fields = vs })))
