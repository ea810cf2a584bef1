-- What is asked of the entries of a patch.
use Rattle.std.specs.Prelude.{ℕ, Bool, true, false, not, ◌&&◌, ◌||◌, ◌==◌, nat_lt, List, [], ◌∷◌, map, length, IsTrue, Option, Some, None}
use Rattle.std.specs.List.{list_any, list_all}
use Rattle.c_tree.specs.declared.lifted.Lifted.{Lifted}
use Rattle.c_tree.specs.declared.lifted.Slot.{Slot}
use Rattle.c_tree.specs.declared.place.PlaceKind.TheVariants as kind
use Rattle.c_tree.specs.declared.mapping.LFill.{LFill}
use Rattle.c_tree.specs.declared.mapping.LPart.{LPart}
use Rattle.c_tree.specs.declared.mapping.LEntry.{LEntry}
use Rattle.c_tree.specs.declared.mapping.LEntry.TheVariants as l
use Rattle.c_tree.specs.Step.{function_of}
use Rattle.c_tree.specs.Names.{is_number, names_in, same_number, struct_of}
use Rattle.c_tree.specs.Points.{is_kind, kind_in}
use Rattle.c_tree.specs.Link.{Link, link_of, match_at}
use Rattle.c_tree.specs.Suits.{Site, site, kinds_differ, callees_differ, start_differs, reads_slots, reads_fields, suits_slot, suits_global, suits_check, has_twice}

-- a number that is there lies inside
abbrev pub below : Option ℕ → ℕ → Bool
below None n = true
below (Some i) n = nat_lt i n

-- both sides of a match lie inside, and `main` and start forms are kept
abbrev pub sound_match : Link → ℕ → ℕ → Option ℕ → Bool
sound_match k kind i j =
    nat_lt kind 4 && nat_lt i (length (names_in k.old kind)) && below j (length (names_in k.new kind))
    && not (kind == 0 && start_differs k.old k.new i j)

-- a place at which a frame may wait for an update: no plain one
abbrev pub is_standing : Lifted → Site → Bool
is_standing p s = not (is_kind kind.Plain (kind_in (function_of p s.function) s.place))

-- what fills slots suits them, each once
abbrev pub sound_fills : Link → ℕ → List Slot → List LFill → Bool
sound_fills k f slots fills = list_all (λ x. suits_slot k (reads_slots k f) slots x.slot x.expr) fills && not (has_twice (map (λ x. x.slot) fills))

-- where a part stands
abbrev pub part_site : LPart → Site
part_site p = site p.function p.place

-- the function of a part is there, its place is no plain one, and what fills its slots suits them
abbrev pub sound_part : Link → ℕ → LPart → Bool
sound_part k f p =
    nat_lt p.function (length k.new.functions) && is_standing k.new (part_site p) && sound_fills k f (function_of k.new p.function).slots p.fills

-- one to four parts, of which the first is of the match
abbrev pub begins_with_match : Link → ℕ → List LPart → Bool
begins_with_match k f [] = false
begins_with_match k f (p ∷ added) = is_number (match_at k.functions f) p.function && nat_lt (length added) 4

-- an update place goes to parts of which the last is at an update place, and a call to parts of which the last is at a call of the
-- matched callee; each part before it calls the next
abbrev pub sound_point : Link → Site → List LPart → Bool
sound_point k from parts =
    is_standing k.old from && begins_with_match k from.function parts && list_all (sound_part k from.function) parts
    && not (kinds_differ k from (map part_site parts)) && not (callees_differ k from (map part_site parts))

-- an entry holds what is asked of it alone
abbrev pub is_sound_entry : Link → LEntry → Bool
is_sound_entry k (l.Match kind i j) = sound_match k kind i j
is_sound_entry k (l.Field s i x) = suits_slot k (reads_fields k s) (struct_of k.new s).fields i x
is_sound_entry k (l.Init g x) = suits_global k g x
is_sound_entry k (l.Point f n parts) = sound_point k (site f n) parts
is_sound_entry k (l.Check x) = suits_check k x

-- two entries name one old side, new side, old place, field or scalar
abbrev pub numbers_clash : LEntry → LEntry → Bool
numbers_clash (l.Match i a b) (l.Match j x y) = i == j && (a == x || same_number b y)
numbers_clash (l.Field s a _) (l.Field t b _) = s == t && a == b
numbers_clash (l.Init a _) (l.Init b _) = a == b
numbers_clash (l.Point f p _) (l.Point g q _) = f == g && p == q
numbers_clash _ _ = false

-- all entries hold what is asked of them, and nothing is declared twice
abbrev pub are_sound : Link → List LEntry → Bool
are_sound k [] = true
are_sound k (x ∷ rest) = is_sound_entry k x && not (list_any (numbers_clash x) rest) && are_sound k rest

-- the same under the link that the entries make
abbrev pub is_sound : Lifted → Lifted → List LEntry → Bool
is_sound old new entries = are_sound (link_of old new entries) entries

-- the entries of a patch are sound
abbrev pub Sound : Lifted → Lifted → List LEntry → Type 0
Sound old new entries = IsTrue (is_sound old new entries)
