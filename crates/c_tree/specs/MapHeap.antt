-- How the objects of an old state become those of a new one.
use Rattle.std.specs.Prelude.{ℕ, ◌+◌, Bool, false, ◌&&◌, ◌==◌, is_none, if◌then◌else◌, List, [], ◌∷◌, map, Option, Some, None, Result, Ok, Err}
use Rattle.std.specs.Option.{option_map}
use Rattle.std.specs.List.{enumerate_from}
use Rattle.c_tree.specs.declared.lifted.LExpr.{LExpr}
use Rattle.c_tree.specs.declared.lifted.LExpr.TheVariants as l
use Rattle.c_tree.specs.declared.mapping.LEntry.{LEntry}
use Rattle.c_tree.specs.declared.mapping.LEntry.TheVariants as n
use Rattle.c_tree.specs.declared.state.Object.{Object}
use Rattle.c_tree.specs.declared.state.State.{State}
use Rattle.c_tree.specs.declared.event.Reason.{Reason}
use Rattle.c_tree.specs.declared.event.Reason.TheVariants as why
use Rattle.c_tree.specs.Value.{View, view}
use Rattle.c_tree.specs.Refusal.{onward, unless_refused, first_some}
use Rattle.c_tree.specs.Names.{struct_of}
use Rattle.c_tree.specs.Link.{Link, match_at}
use Rattle.c_tree.specs.Fillings.{carried, filling, filled}

-- what an entry fills a field with
abbrev pub field_for : ℕ → ℕ → LEntry → Option LExpr
field_for owner i (n.Field s j x) = if owner == s && i == j then Some x else None
field_for owner i _ = None

-- what fills the fields of an object of the struct `old` that becomes one of the struct `new`
abbrev pub field_fillings : Link → List LEntry → ℕ → ℕ → List LExpr
field_fillings k entries old new =
    map (λ x. filling (first_some (map (field_for new x.0) entries)) (option_map (λ i. l.Own i) (carried k (struct_of k.old old).fields x.1))) (enumerate_from 0 (struct_of k.new new).fields)

-- whether an object lives whose struct has no match
abbrev pub is_removed : Link → Option Object → Bool
is_removed k None = false
is_removed k (Some o) = is_none (match_at k.structs o.owner)

-- the first object that lives and has no struct; the first object has number i
abbrev pub removed : Link → ℕ → List (Option Object) → Option Reason
removed k i [] = None
removed k i (o ∷ rest) = if is_removed k o then Some (why.Removed i) else removed k (i + 1) rest

-- what the expressions of an object read, in the old state
abbrev pub object_view : State → Object → View
object_view s o = view [] o.fields s.globals s.heap.objects

-- an object of a struct that has a match
abbrev pub map_object_to : Link → List LEntry → State → ℕ → Object → Option ℕ → Result (Option Object) Reason
map_object_to k entries s i o None = Err (why.Removed i)
map_object_to k entries s i o (Some owner) =
    onward (filled (object_view s o) (λ j c. why.Field i j c) 0 (field_fillings k entries o.owner owner)) (λ vs.
    Ok (Some (record { owner = owner; fields = vs })))

-- an object; a freed one stays freed
abbrev pub map_object : Link → List LEntry → State → ℕ → Option Object → Result (Option Object) Reason
map_object k entries s i None = Ok None
map_object k entries s i (Some o) = map_object_to k entries s i o (match_at k.structs o.owner)

-- objects, of which the first has number i
abbrev pub map_objects : Link → List LEntry → State → ℕ → List (Option Object) → Result (List (Option Object)) Reason
map_objects k entries s i [] = Ok []
map_objects k entries s i (o ∷ rest) =
    onward (map_object k entries s i o) (λ a. onward (map_objects k entries s (i + 1) rest) (λ bs. Ok (a ∷ bs)))

-- all objects, or the first whose struct has no match, or else the first field that traps
abbrev pub map_heap : Link → List LEntry → State → Result (List (Option Object)) Reason
map_heap k entries s = unless_refused (removed k 1 s.heap.objects) (map_objects k entries s 1 s.heap.objects)
