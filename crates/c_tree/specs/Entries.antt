-- Entries of a mapping: names as numbers, or the least cause why an entry is unsound.
use Rattle.std.specs.Prelude.{ℕ, ◌+◌, Bool, not, ◌&&◌, ◌==◌, if◌then◌else◌, List, [], ◌∷◌, ◌++◌, map, find, Option, Some, None, Result, Ok, Err}
use Rattle.std.specs.Option.{ok_or, option_map}
use Rattle.std.specs.List.{list_any}
use Rattle.c_tree.specs.declared.cause.EntryCause.{EntryCause}
use Rattle.c_tree.specs.declared.cause.EntryCause.TheVariants as c
use Rattle.c_tree.specs.declared.lifted.Lifted.{Lifted}
use Rattle.c_tree.specs.declared.lifted.Slot.{Slot}
use Rattle.c_tree.specs.declared.mapping.Fill.{Fill}
use Rattle.c_tree.specs.declared.mapping.Part.{Part}
use Rattle.c_tree.specs.declared.mapping.Entry.{Entry}
use Rattle.c_tree.specs.declared.mapping.Entry.TheVariants as n
use Rattle.c_tree.specs.declared.mapping.LFill.{LFill}
use Rattle.c_tree.specs.declared.mapping.LPart.{LPart}
use Rattle.c_tree.specs.declared.mapping.LEntry.{LEntry}
use Rattle.c_tree.specs.declared.mapping.LEntry.TheVariants as l
use Rattle.c_tree.specs.Step.{function_of}
use Rattle.c_tree.specs.Refusal.{onward, unless_refused}
use Rattle.c_tree.specs.Names.{find_name, names_in, slot_names, struct_of}
use Rattle.c_tree.specs.Points.{place_of}
use Rattle.c_tree.specs.Link.{Link, Claim, linked, match_at}
use Rattle.c_tree.specs.MapExpr.{Reads, only_globals, numbered}
use Rattle.c_tree.specs.Suits.{reads_slots, reads_fields}
use Rattle.c_tree.specs.Causes.{lacks_side, breaks_start, clash, holds, all_causes}

-- goes on with what is there
abbrev pub if_there : {A B : Type 0} → Option A → (A → Option B) → Option B
if_there None go = None
if_there (Some x) go = go x

-- a value before others, or none where it or one of them is missing
abbrev pub both : {A : Type 0} → Option A → Option (List A) → Option (List A)
both (Some x) (Some xs) = Some (x ∷ xs)
both _ _ = None

-- all values of a list, or none where one is missing
abbrev pub all_there : {A : Type 0} → List (Option A) → Option (List A)
all_there [] = Some []
all_there (o ∷ rest) = both o (all_there rest)

-- `none`, or the number of a new side
abbrev pub side_by_number : ℕ → Lifted → Option (List ℕ) → Option (Option ℕ)
side_by_number kind new None = Some None
side_by_number kind new (Some name) = option_map (λ j. Some j) (find_name name (names_in new kind))

-- what fills a slot, by numbers
abbrev pub fill_by_numbers : Reads → List Slot → Fill → Option LFill
fill_by_numbers r slots x =
    if_there (find_name x.slot (slot_names slots)) (λ i.
    if_there (numbered r x.expr.kind) (λ y.
    Some (record { slot = i; expr = y })))

-- the number of a part's function: the new one that it names, or else the match of the old one
abbrev pub function_in : Link → ℕ → Option (List ℕ) → Option ℕ
function_in k g None = Some g
function_in k g (Some name) = find_name name (names_in k.new 0)

-- a part by numbers, for a frame of the old function f whose match is g
abbrev pub part_by_numbers : Link → ℕ → ℕ → Part → Option LPart
part_by_numbers k f g p =
    if_there (function_in k g p.function) (λ h.
    if_there (place_of (function_of k.new h) p.point) (λ m.
    if_there (all_there (map (fill_by_numbers (reads_slots k f) (function_of k.new h).slots) p.fills)) (λ xs.
    Some (record { function = h; place = m; fills = xs }))))

-- an entry by numbers; None where a name, a place or a match is not there
abbrev pub by_numbers : Link → Entry → Option LEntry
by_numbers k (n.Match kind a b) =
    if_there (find_name a (names_in k.old kind)) (λ i.
    if_there (side_by_number kind k.new b) (λ j.
    Some (l.Match kind i j)))
by_numbers k (n.Field owner name x) =
    if_there (find_name owner (names_in k.new 1)) (λ s.
    if_there (find_name name (slot_names (struct_of k.new s).fields)) (λ i.
    if_there (numbered (reads_fields k s) x.kind) (λ y.
    Some (l.Field s i y))))
by_numbers k (n.Init name x) =
    if_there (find_name name (names_in k.new 2)) (λ g.
    if_there (numbered (only_globals k.old) x.kind) (λ y.
    Some (l.Init g y)))
by_numbers k (n.Point name from parts) =
    if_there (find_name name (names_in k.old 0)) (λ f.
    if_there (match_at k.functions f) (λ g.
    if_there (place_of (function_of k.old f) from) (λ i.
    if_there (all_there (map (part_by_numbers k f g) parts)) (λ xs.
    Some (l.Point f i xs)))))
by_numbers k (n.Check x) = if_there (numbered (only_globals k.old) x.kind) (λ y. Some (l.Check y))

-- the least cause that holds of an entry after some earlier ones
abbrev pub least_cause : Link → List Entry → Entry → Option EntryCause
least_cause k earlier x = find (holds k earlier x) all_causes

-- an entry is refused for its least cause, and else it is the one by numbers; that it has these then is a law of entries
unfoldable pub sound_entry : Link → List Entry → Entry → Result LEntry EntryCause
sound_entry k earlier x = unless_refused (least_cause k earlier x) (ok_or (by_numbers k x) c.BadExpr)

-- both sides of a match entry are there, and starts are kept
abbrev pub can_match : Lifted → Lifted → ℕ → List ℕ → Option (List ℕ) → Bool
can_match old new kind a b = not (lacks_side old new kind a b) && not (breaks_start old new kind a b)

-- the number of a new side
abbrev pub side_number : ℕ → Lifted → Option (List ℕ) → Option ℕ
side_number kind new None = None
side_number kind new (Some name) = find_name name (names_in new kind)

-- what an entry names in one kind: an unsound match entry makes no match, but names its sides
abbrev pub claims_of : Lifted → Lifted → ℕ → List Entry → Entry → List Claim
claims_of old new kind earlier (n.Match i a b) =
    if i == kind
    then record {
      old = find_name a (names_in old kind);
      new = side_number kind new b;
      stands = can_match old new kind a b && not (list_any (clash (n.Match i a b)) earlier);
    } ∷ []
    else []
claims_of old new kind earlier _ = []

-- what the entries name in one kind
abbrev pub all_claims : Lifted → Lifted → ℕ → List Entry → List Entry → List Claim
all_claims old new kind earlier [] = []
all_claims old new kind earlier (x ∷ rest) = claims_of old new kind earlier x ++ all_claims old new kind (x ∷ earlier) rest

-- the matches of a whole mapping
abbrev pub link_by_names : Lifted → Lifted → List Entry → Link
link_by_names old new entries = linked old new (λ kind. all_claims old new kind [] entries)

-- an unsound entry, counted from 1, and its least cause
pub record Unsound : Type 0 where
  pub entry : ℕ
  pub cause : EntryCause

-- the number of the entry beside its cause
abbrev pub with_number : ℕ → Result LEntry EntryCause → Result LEntry Unsound
with_number i (Ok x) = Ok x
with_number i (Err cause) = Err (record { entry = i; cause = cause })

-- entries from the i-th on, after some earlier ones
abbrev pub all_entries : Link → ℕ → List Entry → List Entry → Result (List LEntry) Unsound
all_entries k i earlier [] = Ok []
all_entries k i earlier (x ∷ rest) =
    onward (with_number i (sound_entry k earlier x)) (λ y. onward (all_entries k (i + 1) (x ∷ earlier) rest) (λ ys. Ok (y ∷ ys)))

-- the entries of a mapping by numbers in their order, or the first unsound one with its least cause
abbrev pub lifted_entries : Lifted → Lifted → List Entry → Result (List LEntry) Unsound
lifted_entries old new entries = all_entries (link_by_names old new entries) 1 [] entries
