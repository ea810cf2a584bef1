-- The canonical order of a patch's entries, and their text.
use Rattle.std.specs.Prelude.{ℕ, zero, suc, Bool, ◌&&◌, ◌||◌, ◌==◌, nat_lt, if◌then◌else◌, List, [], ◌∷◌, ◌++◌, map, codes, Option, Some, None, unwrap_or, Result, Ok}
use Rattle.std.specs.List.{flat_map}
use Rattle.c_tree.specs.declared.lifted.Lifted.{Lifted}
use Rattle.c_tree.specs.declared.lifted.Slot.{Slot}
use Rattle.c_tree.specs.declared.mapping.Pt.{Pt}
use Rattle.c_tree.specs.declared.mapping.LFill.{LFill}
use Rattle.c_tree.specs.declared.mapping.LPart.{LPart}
use Rattle.c_tree.specs.declared.mapping.Entry.{Entry}
use Rattle.c_tree.specs.declared.mapping.LEntry.{LEntry}
use Rattle.c_tree.specs.declared.mapping.LEntry.TheVariants as n
use Rattle.c_tree.specs.Step.{function_of}
use Rattle.c_tree.specs.Refusal.{onward}
use Rattle.c_tree.specs.Names.{name_at, slot_name, field_name}
use Rattle.c_tree.specs.Points.{point, point_of}
use Rattle.c_tree.specs.Link.{Link, link_of}
use Rattle.c_tree.specs.MapExpr.{Reads, only_globals}
use Rattle.c_tree.specs.Suits.{reads_slots, reads_fields}
use Rattle.c_tree.specs.Entries.{Unsound, lifted_entries}
use Rattle.c_tree.specs.Shown.{shown}

-- an item in its place among items in ascending order; of equal ones it is the first
abbrev pub placed_by : {A : Type 0} → (A → A → Bool) → A → List A → List A
placed_by before x [] = x ∷ []
placed_by before x (y ∷ rest) = if before y x then y ∷ placed_by before x rest else x ∷ y ∷ rest

-- items in ascending order, equal ones as they stood
abbrev pub sorted_by : {A : Type 0} → (A → A → Bool) → List A → List A
sorted_by before [] = []
sorted_by before (x ∷ rest) = placed_by before x (sorted_by before rest)

-- entries are ordered by group, and within a group by two numbers
pub record Key : Type 0 where
  pub group : ℕ
  pub first : ℕ
  pub second : ℕ

-- a key of these numbers
abbrev pub key : ℕ → ℕ → ℕ → Key
key group first second = record { group = group; first = first; second = second }

-- matches stand first, kind by kind in old order; then fields and globals in new order, points in old order, and checks
abbrev pub key_of : LEntry → Key
key_of (n.Match i old _) = key i old 0
key_of (n.Field s i _) = key 4 s i
key_of (n.Init g _) = key 5 g 0
key_of (n.Point f p _) = key 6 f p
key_of (n.Check _) = key 7 0 0

-- one key is less than another
abbrev pub is_before : Key → Key → Bool
is_before a b =
    nat_lt a.group b.group
    || a.group == b.group && (nat_lt a.first b.first || a.first == b.first && nat_lt a.second b.second)

-- the slots of a part stand in the order of its function
abbrev pub fills_in_order : List LFill → List LFill
fills_in_order fills = sorted_by (λ a b. nat_lt a.slot b.slot) fills

-- a part with its slots in order
abbrev pub part_in_order : LPart → LPart
part_in_order p = record p { fills = fills_in_order p.fills }

-- an entry with the slots of each part in order
abbrev pub with_fills_in_order : LEntry → LEntry
with_fills_in_order (n.Point f p parts) = n.Point f p (map part_in_order parts)
with_fills_in_order x = x

-- the entries of a patch, in their order
abbrev pub canonical : List LEntry → List LEntry
canonical entries = sorted_by (λ a b. is_before (key_of a) (key_of b)) (map with_fills_in_order entries)

-- the text of a point
abbrev pub point_text : Pt → List ℕ
point_text pt = unwrap_or (point pt.kind pt.number) []

-- the word of a kind of matches
abbrev pub match_word : ℕ → List ℕ
match_word zero = codes "function"
match_word (suc zero) = codes "struct"
match_word (suc (suc zero)) = codes "global"
match_word (suc (suc (suc kind))) = codes "mutex"

-- a new side, or `none`
abbrev pub side_text : Lifted → ℕ → Option ℕ → List ℕ
side_text p kind None = codes "none"
side_text p kind (Some i) = name_at p kind i

-- what fills a slot
abbrev pub fill_text : Reads → List Slot → LFill → List ℕ
fill_text r slots x = slot_name slots x.slot ++ codes " = " ++ shown r x.expr ++ codes "; "

-- what fills the slots, where something does
abbrev pub fills_text : Reads → List Slot → List LFill → List ℕ
fills_text r slots [] = []
fills_text r slots (x ∷ rest) = codes " { " ++ flat_map (fill_text r slots) (x ∷ rest) ++ codes "}"

-- a part of a frame of the function f: its point, and what fills its slots
abbrev pub part_text : Link → ℕ → LPart → List ℕ
part_text k f p =
    let b = function_of k.new p.function in
    point_text (point_of b p.place) ++ fills_text (reads_slots k f) b.slots p.fills

-- an added part also tells its function
abbrev pub added_text : Link → ℕ → LPart → List ℕ
added_text k f p = codes " + " ++ (function_of k.new p.function).name ++ 32 ∷ part_text k f p

-- the parts of a frame of the function f
abbrev pub parts_text : Link → ℕ → List LPart → List ℕ
parts_text k f [] = []
parts_text k f (p ∷ added) = part_text k f p ++ flat_map (added_text k f) added

-- the text of an entry
abbrev pub entry_text : Link → LEntry → List ℕ
entry_text k (n.Match i old new) = match_word i ++ 32 ∷ name_at k.old i old ++ codes " -> " ++ side_text k.new i new
entry_text k (n.Field s i x) = codes "field " ++ name_at k.new 1 s ++ 46 ∷ field_name k.new s i ++ codes " = " ++ shown (reads_fields k s) x
entry_text k (n.Init g x) = codes "init " ++ name_at k.new 2 g ++ codes " = " ++ shown (only_globals k.old) x
entry_text k (n.Point f p parts) =
    let a = function_of k.old f in
    codes "point " ++ a.name ++ 32 ∷ point_text (point_of a p) ++ codes " -> " ++ parts_text k f parts
entry_text k (n.Check x) = codes "check " ++ shown (only_globals k.old) x

-- the text of a patch's entries, one a line
abbrev pub canonical_text : Lifted → Lifted → List LEntry → List ℕ
canonical_text old new entries = flat_map (λ x. entry_text (link_of old new entries) x ++ 59 ∷ 10 ∷ []) entries

-- the canonical entries of a mapping
abbrev pub canonical_entries : Lifted → Lifted → List Entry → Result (List LEntry) Unsound
canonical_entries old new entries = onward (lifted_entries old new entries) (λ xs. Ok (canonical xs))
