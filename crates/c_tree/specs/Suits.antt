-- The tests that entries by name and entries by number share.
use Rattle.std.specs.Prelude.{ℕ, Bool, false, not, ◌&&◌, ◌||◌, ◌==◌, if◌then◌else◌, List, [], ◌∷◌, slice_get, Option, Some, None}
use Rattle.std.specs.Option.{option_map}
use Rattle.std.specs.List.{list_any}
use Rattle.c_tree.specs.declared.ty.Ty.{Ty}
use Rattle.c_tree.specs.declared.lifted.LExpr.{LExpr}
use Rattle.c_tree.specs.declared.lifted.Lifted.{Lifted}
use Rattle.c_tree.specs.declared.lifted.Slot.{Slot}
use Rattle.c_tree.specs.declared.place.PlaceKind.TheVariants as kind
use Rattle.c_tree.specs.Types.{is_int}
use Rattle.c_tree.specs.Step.{function_of}
use Rattle.c_tree.specs.Names.{is_number, same_number}
use Rattle.c_tree.specs.Points.{is_kind, kind_in, callee_at}
use Rattle.c_tree.specs.StartForm.{is_start}
use Rattle.c_tree.specs.Link.{Link, match_at, origin}
use Rattle.c_tree.specs.MapExpr.{Reads, reads_of, only_globals, type_in, fills_type, passes, scalar_type}

-- a function that can be started goes to one that cannot
abbrev pub loses_start : Lifted → Lifted → ℕ → Option ℕ → Bool
loses_start old new f None = false
loses_start old new f (Some g) = is_start (function_of old f) && not (is_start (function_of new g))

-- exactly one side is `main`, or a start is lost; no function is not `main`
abbrev pub start_differs : Lifted → Lifted → ℕ → Option ℕ → Bool
start_differs old new f g = (if f == old.main then not (is_number g new.main) else is_number g new.main) || loses_start old new f g

-- a function and a place of it
pub record Site : Type 0 where
  pub function : ℕ
  pub place : ℕ

-- the place n of the function f
abbrev pub site : ℕ → ℕ → Site
site f n = record { function = f; place = n }

-- whether a call stands there
abbrev pub is_call_at : Lifted → Site → Bool
is_call_at p s = is_kind kind.Call (kind_in (function_of p s.function) s.place)

-- the function that is called there
abbrev pub callee_of : Lifted → Site → Option ℕ
callee_of p s = callee_at (function_of p s.function) s.place

-- a test holds of two neighbours
abbrev pub some_neighbours : {A : Type 0} → (A → A → Bool) → List A → Bool
some_neighbours test [] = false
some_neighbours test (x ∷ []) = false
some_neighbours test (x ∷ y ∷ rest) = test x y || some_neighbours test (y ∷ rest)

-- a test holds of the last one
abbrev pub last_is : {A : Type 0} → (A → Bool) → List A → Bool
last_is test [] = false
last_is test (x ∷ []) = test x
last_is test (x ∷ y ∷ rest) = last_is test (y ∷ rest)

-- one of two places is a call and the other is not
abbrev pub kind_differs : Link → Site → Site → Bool
kind_differs k from to = if is_call_at k.old from then not (is_call_at k.new to) else is_call_at k.new to

-- a part that isn't the last stands at no call; or of the old place and the last part's one is a call and the other is not
abbrev pub kinds_differ : Link → Site → List Site → Bool
kinds_differ k from parts = some_neighbours (λ s next. not (is_call_at k.new s)) parts || last_is (kind_differs k from) parts

-- the match of a function that is called
abbrev pub match_of_callee : Link → Option ℕ → Option ℕ
match_of_callee k None = None
match_of_callee k (Some f) = match_at k.functions f

-- a part stands at a call of the next part's function
abbrev pub links_to : Lifted → Site → Site → Bool
links_to p s next = is_number (callee_of p s) next.function

-- the old place is a call, and the new one is not one of the matched callee
abbrev pub callee_differs : Link → Site → Site → Bool
callee_differs k from to = is_call_at k.old from && not (same_number (match_of_callee k (callee_of k.old from)) (callee_of k.new to))

-- a part that isn't the last does not call the next one, or the last part does not call the match of what is called at the old place
abbrev pub callees_differ : Link → Site → List Site → Bool
callees_differ k from parts = some_neighbours (λ s next. not (links_to k.new s next)) parts || last_is (callee_differs k from) parts

-- what an expression that fills a slot reads: the old function's slots
abbrev pub reads_slots : Link → ℕ → Reads
reads_slots k f = reads_of k.old (Some f) None

-- what an expression that fills a field of a new struct reads: the fields of the old object, where there is a match
abbrev pub reads_fields : Link → ℕ → Reads
reads_fields k s = reads_of k.old None (origin k.structs s)

-- an expression has the type of what it fills
abbrev pub suits : Link → Reads → Option Ty → LExpr → Bool
suits k r None x = false
suits k r (Some asked) x = fills_type k (type_in r x) asked

-- the type of a slot or field that is filled
abbrev pub slot_asked : List Slot → ℕ → Option Ty
slot_asked xs i = option_map (λ x. x.ty) (slice_get xs i)

-- an expression suits a slot or a field
abbrev pub suits_slot : Link → Reads → List Slot → ℕ → LExpr → Bool
suits_slot k r slots i x = suits k r (slot_asked slots i) x

-- an expression suits a global that is no array
abbrev pub suits_global : Link → ℕ → LExpr → Bool
suits_global k g x = suits k (only_globals k.old) (scalar_type (slice_get k.new.globals g)) x

-- a check is an `int` over the old globals
abbrev pub suits_check : Link → LExpr → Bool
suits_check k x = passes is_int (type_in (only_globals k.old) x)

-- a number stands twice in a list
abbrev pub has_twice : List ℕ → Bool
has_twice [] = false
has_twice (x ∷ rest) = list_any (λ y. x == y) rest || has_twice rest
