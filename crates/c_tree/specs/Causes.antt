-- Why an entry of a mapping is unsound: what each cause says, by itself.
use Rattle.std.specs.Prelude.{ℕ, Bool, false, not, ◌&&◌, ◌||◌, ◌==◌, nat_lt, if◌then◌else◌, List, [], ◌∷◌, map, slice_get, is_some, Option, Some, None}
use Rattle.std.specs.Option.{option_and_then}
use Rattle.std.specs.List.{list_any}
use Rattle.c_tree.specs.declared.cause.EntryCause.{EntryCause}
use Rattle.c_tree.specs.declared.cause.EntryCause.TheVariants as c
use Rattle.c_tree.specs.declared.ty.Ty.{Ty}
use Rattle.c_tree.specs.declared.lifted.Lifted.{Lifted}
use Rattle.c_tree.specs.declared.lifted.Slot.{Slot}
use Rattle.c_tree.specs.declared.program.Expr.{Expr}
use Rattle.c_tree.specs.declared.place.PlaceKind.TheVariants as kind
use Rattle.c_tree.specs.declared.mapping.Pt.{Pt}
use Rattle.c_tree.specs.declared.mapping.Part.{Part}
use Rattle.c_tree.specs.declared.mapping.Entry.{Entry}
use Rattle.c_tree.specs.declared.mapping.Entry.TheVariants as n
use Rattle.c_tree.specs.Scope.{is_same_name}
use Rattle.c_tree.specs.Step.{function_of}
use Rattle.c_tree.specs.Names.{is_number, same_number, find_name, names_in, slot_names}
use Rattle.c_tree.specs.Points.{is_kind, place_of, callee_at}
use Rattle.c_tree.specs.StartForm.{is_start}
use Rattle.c_tree.specs.Link.{Link, match_at, origin}
use Rattle.c_tree.specs.MapExpr.{Reads, slots_of, fields_of, reads_of, only_globals, numbered, scalar_type}
use Rattle.c_tree.specs.Suits.{match_of_callee, some_neighbours, last_is, suits, slot_asked, suits_check}

-- exactly one of two holds
abbrev pub exactly_one : Bool → Bool → Bool
exactly_one a b = if a then not b else b

-- a test passes of what is there
abbrev pub some_passes : {A : Type 0} → (A → Bool) → Option A → Bool
some_passes test None = false
some_passes test (Some x) = test x

-- a program has a thing of a kind and a name
abbrev pub has_name : Lifted → ℕ → List ℕ → Bool
has_name p kind name = is_some (find_name name (names_in p kind))

-- a side of a match entry is not there; `none` is no side
abbrev pub lacks_side : Lifted → Lifted → ℕ → List ℕ → Option (List ℕ) → Bool
lacks_side old new kind a None = not (has_name old kind a)
lacks_side old new kind a (Some b) = not (has_name old kind a && has_name new kind b)

-- the number of an old function by its name
abbrev pub old_function : Link → List ℕ → Option ℕ
old_function k name = find_name name (names_in k.old 0)

-- the number of the match of an old function, by the old one's name
abbrev pub new_function : Link → List ℕ → Option ℕ
new_function k name = option_and_then (match_at k.functions) (old_function k name)

-- the number of the function of a part: the new one that it names, or else the match of the old one
abbrev pub function_of_part : Link → List ℕ → Option (List ℕ) → Option ℕ
function_of_part k f None = new_function k f
function_of_part k f (Some name) = find_name name (names_in k.new 0)

-- the same of a part
abbrev pub part_function : Link → List ℕ → Part → Option ℕ
part_function k f p = function_of_part k f p.function

-- a function's name is not there, or a place is mapped of an old function that has no match
abbrev pub lacks_function : Link → Entry → Bool
lacks_function k (n.Match i a b) = i == 0 && lacks_side k.old k.new i a b
lacks_function k (n.Point f from parts) = not (is_some (new_function k f)) || list_any (λ p. not (is_some (part_function k f p))) parts
lacks_function k _ = false

-- a function that is there has a point
abbrev pub has_point : Lifted → Option ℕ → Pt → Bool
has_point p f pt = is_some (option_and_then (λ i. place_of (function_of p i) pt) f)

-- the old point or the new point of a part is not there
abbrev pub lacks_point : Link → Entry → Bool
lacks_point k (n.Point f from parts) = not (has_point k.old (old_function k f) from) || list_any (λ p. not (has_point k.new (part_function k f p) p.point)) parts
lacks_point k _ = false

-- a point is one at which a function is called
abbrev pub is_call : Pt → Bool
is_call pt = is_kind kind.Call pt.kind

-- a part that isn't the last is no call; or of the old point and the last part's one is a call and the other an update point
abbrev pub differs_in_kind : Entry → Bool
differs_in_kind (n.Point f from parts) =
    some_neighbours (λ p next. not (is_call p.point)) parts || last_is (λ p. exactly_one (is_call from) (is_call p.point)) parts
differs_in_kind _ = false

-- the function that is called at a point
abbrev pub called_at : Lifted → Option ℕ → Pt → Option ℕ
called_at p f pt = option_and_then (λ i. option_and_then (callee_at (function_of p i)) (place_of (function_of p i) pt)) f

-- the function that is called at a part's point
abbrev pub part_callee : Link → List ℕ → Part → Option ℕ
part_callee k f p = called_at k.new (part_function k f p) p.point

-- a part is a call of another function than the next part's
abbrev pub calls_another : Link → List ℕ → Part → Part → Bool
calls_another k f p next = is_call p.point && not (same_number (part_callee k f p) (part_function k f next))

-- the old point and a part's are calls, and the latter is not of the match of what the old one calls
abbrev pub misses_callee : Link → List ℕ → Pt → Part → Bool
misses_callee k f from p =
    is_call from && is_call p.point && not (same_number (match_of_callee k (called_at k.old (old_function k f) from)) (part_callee k f p))

-- a part that isn't the last is a call of another function than the next part's, or the last part misses the matched callee
abbrev pub differs_in_callee : Link → Entry → Bool
differs_in_callee k (n.Point f from parts) = some_neighbours (calls_another k f) parts || last_is (misses_callee k f from) parts
differs_in_callee k _ = false

-- a name is that of `main`
abbrev pub is_main : Lifted → List ℕ → Bool
is_main p name = is_number (find_name name (names_in p 0)) p.main

-- a thread can be started with the function of a name
abbrev pub can_start : Lifted → List ℕ → Bool
can_start p name = some_passes (λ f. is_start (function_of p f)) (find_name name (names_in p 0))

-- exactly one side is `main`, or what a thread can be started with goes to what none can be started with; `none` is no function
abbrev pub breaks_start : Lifted → Lifted → ℕ → List ℕ → Option (List ℕ) → Bool
breaks_start old new kind a None = kind == 0 && is_main old a
breaks_start old new kind a (Some b) = kind == 0 && (exactly_one (is_main old a) (is_main new b) || can_start old a && not (can_start new b))

-- a match entry breaks a start
abbrev pub differs_in_start : Link → Entry → Bool
differs_in_start k (n.Match i a b) = breaks_start k.old k.new i a b
differs_in_start k _ = false

-- a struct's name is not there
abbrev pub lacks_struct : Link → Entry → Bool
lacks_struct k (n.Match i a b) = i == 1 && lacks_side k.old k.new i a b
lacks_struct k (n.Field owner name x) = not (has_name k.new 1 owner)
lacks_struct k _ = false

-- a global's or a mutex's name is not there
abbrev pub lacks_global : Link → Entry → Bool
lacks_global k (n.Match i a b) = nat_lt 1 i && lacks_side k.old k.new i a b
lacks_global k (n.Init name x) = not (has_name k.new 2 name)
lacks_global k _ = false

-- an expression has a type in what it may read, and what it fills has the image of that type
abbrev pub can_fill : Link → Reads → Option Ty → Expr → Bool
can_fill k r asked x = some_passes (suits k r asked) (numbered r x.kind)

-- the type of the slot or field of a name
abbrev pub type_named : List Slot → List ℕ → Option Ty
type_named xs name = option_and_then (slot_asked xs) (find_name name (slot_names xs))

-- the number of a new struct by its name
abbrev pub new_struct : Link → List ℕ → Option ℕ
new_struct k owner = find_name owner (names_in k.new 1)

-- the number of the old struct that a new one is the match of, by the new one's name
abbrev pub old_struct : Link → List ℕ → Option ℕ
old_struct k owner = option_and_then (origin k.structs) (new_struct k owner)

-- the type of a new global that is no array
abbrev pub scalar_named : Link → List ℕ → Option Ty
scalar_named k name = option_and_then (λ g. scalar_type (slice_get k.new.globals g)) (find_name name (names_in k.new 2))

-- an expression of a part does not fill its slot
abbrev pub part_fills_badly : Link → List ℕ → Part → Bool
part_fills_badly k f p =
    list_any (λ x. not (can_fill k (reads_of k.old (old_function k f) None) (type_named (slots_of k.new (part_function k f p)) x.slot) x.expr)) p.fills

-- what is filled is not there or is an array, or an expression does not fill it, or a check is no `int`
abbrev pub fills_badly : Link → Entry → Bool
fills_badly k (n.Field owner name x) = not (can_fill k (reads_of k.old None (old_struct k owner)) (type_named (fields_of k.new (new_struct k owner)) name) x)
fills_badly k (n.Init name x) = not (can_fill k (only_globals k.old) (scalar_named k name) x)
fills_badly k (n.Point f from parts) = list_any (part_fills_badly k f) parts
fills_badly k (n.Check x) = not (some_passes (suits_check k) (numbered (only_globals k.old) x.kind))
fills_badly k _ = false

-- a name stands twice in a list
abbrev pub has_name_twice : List (List ℕ) → Bool
has_name_twice [] = false
has_name_twice (x ∷ rest) = list_any (is_same_name x) rest || has_name_twice rest

-- an entry fills one slot of one part twice
abbrev pub fills_twice : Entry → Bool
fills_twice (n.Point f from parts) = list_any (λ p. has_name_twice (map (λ x. x.slot) p.fills)) parts
fills_twice _ = false

-- two new sides are there and have one name
abbrev pub same_side : Option (List ℕ) → Option (List ℕ) → Bool
same_side (Some a) (Some b) = is_same_name a b
same_side _ _ = false

-- two entries name one old side, new side, old place, field or scalar
abbrev pub clash : Entry → Entry → Bool
clash (n.Match i a b) (n.Match j x y) = i == j && (is_same_name a x || same_side b y)
clash (n.Field s a _) (n.Field t b _) = is_same_name s t && is_same_name a b
clash (n.Init a _) (n.Init b _) = is_same_name a b
clash (n.Point f p _) (n.Point g q _) = is_same_name f g && is_kind p.kind q.kind && p.number == q.number
clash _ _ = false

-- what an entry names an earlier one names too, or it fills one slot of one part twice
abbrev pub says_again : List Entry → Entry → Bool
says_again earlier x = list_any (clash x) earlier || fills_twice x

-- a cause holds of an entry after some earlier ones
abbrev pub holds : Link → List Entry → Entry → EntryCause → Bool
holds k earlier x c.UnknownFunction = lacks_function k x
holds k earlier x c.UnknownPoint = lacks_point k x
holds k earlier x c.KindDiffers = differs_in_kind x
holds k earlier x c.CalleeDiffers = differs_in_callee k x
holds k earlier x c.StartDiffers = differs_in_start k x
holds k earlier x c.UnknownStruct = lacks_struct k x
holds k earlier x c.UnknownGlobal = lacks_global k x
holds k earlier x c.BadExpr = fills_badly k x
holds k earlier x c.Twice = says_again earlier x

-- all causes, from the least
abbrev pub all_causes : List EntryCause
all_causes =
    c.UnknownFunction ∷ c.UnknownPoint ∷ c.KindDiffers ∷ c.CalleeDiffers ∷ c.StartDiffers ∷ c.UnknownStruct ∷ c.UnknownGlobal ∷ c.BadExpr ∷ c.Twice ∷ []
