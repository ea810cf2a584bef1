-- Entries that all lift are sound in their canonical order.
use Rattle.std.proofs.Common.{◌≡◌, ℕ, ◌≤◌, Bool, true, false, not, List, [], ◌∷◌, Option, Some, None, Ok, refl, sym, ◌∙◌, ap, subst, length, nat_lt, arith}
use Rattle.std.specs.Prelude.{suc, map, ◌==◌, ◌&&◌, ◌||◌, if◌then◌else◌}
use Rattle.std.specs.Option.{option_map}
use Rattle.std.specs.List.{list_any, list_all, AllZip, AllByRecursion}
use Rattle.std.proofs.lemmas.Option.{none-some, same_Some}
use Rattle.std.proofs.lemmas.Bool.{and_from, or_parts, not_from_false, lt-ltb, eq-eqb}
use Rattle.std.proofs.lemmas.List.{length-map}
use Rattle.std.proofs.lemmas.List.Elements.{recursion_from_All}
use Rattle.c_tree.specs.declared.lifted.LExpr.{LExpr}
use Rattle.c_tree.specs.declared.lifted.Lifted.{Lifted}
use Rattle.c_tree.specs.declared.lifted.LFunction.{LFunction}
use Rattle.c_tree.specs.declared.lifted.Slot.{Slot}
use Rattle.c_tree.specs.declared.place.PlaceKind.TheVariants as kind
use Rattle.c_tree.specs.declared.program.Expr.{Expr}
use Rattle.c_tree.specs.declared.mapping.Pt.{Pt}
use Rattle.c_tree.specs.declared.mapping.Fill.{Fill}
use Rattle.c_tree.specs.declared.mapping.Part.{Part}
use Rattle.c_tree.specs.declared.mapping.LFill.{LFill}
use Rattle.c_tree.specs.declared.mapping.LPart.{LPart}
use Rattle.c_tree.specs.declared.mapping.Entry.{Entry}
use Rattle.c_tree.specs.declared.mapping.Entry.TheVariants as n
use Rattle.c_tree.specs.declared.mapping.LEntry.{LEntry}
use Rattle.c_tree.specs.declared.mapping.LEntry.TheVariants as l
use Rattle.c_tree.specs.declared.mapping.Mapping.{Mapping}
use Rattle.c_tree.specs.Layout.{places}
use Rattle.c_tree.specs.Step.{function_of}
use Rattle.c_tree.specs.Names.{is_number, find_name, names_in, slot_names, struct_of}
use Rattle.c_tree.specs.Points.{is_kind, kind_in, place_of}
use Rattle.c_tree.specs.Link.{Link, link_of, match_at}
use Rattle.c_tree.specs.MapExpr.{Reads, only_globals, numbered}
use Rattle.c_tree.specs.Suits.{Site, site, kinds_differ, callees_differ, start_differs, reads_slots, reads_fields, suits_slot, suits_global, suits_check, has_twice}
use Rattle.c_tree.specs.Entries.{all_there, function_in, link_by_names, lifted_entries}
use Rattle.c_tree.specs.Sound.{below, is_standing, sound_fills, part_site, sound_part, begins_with_match, sound_point, is_sound_entry, numbers_clash, are_sound, Sound}
use Rattle.c_tree.specs.Canonical.{fills_in_order, part_in_order, with_fills_in_order, canonical}
use Rattle.c_tree.specs.MapForm.{IsReadPoint, IsAddedPart, AreReadParts, IsReadEntry, HasMapForm}
use Rattle.c_tree.specs.Chain.{new_number, suited, lifted_fill_at, lifted_fill, is_twice_filled, lifted_entry}
use Rattle.patch_laws.proofs.Sorting.{any_pair, sorted_all, sorted_pairs}
use Rattle.patch_laws.proofs.Numbers.{number_within, found_kind}
use Rattle.patch_laws.proofs.Kept.{entry_before}
use Rattle.patch_laws.proofs.LiftedForms.{both_known, there_known, same_ok, MatchForm, PartForm, PointForm, entry_form}
use Rattle.patch_laws.proofs.Clash.{eqb_swapped, AllLift}
use Rattle.patch_laws.proofs.Known.{all_lift, entries_apart}
use Rattle.patch_laws.proofs.LiftedLink.{link_lifted}
use Rattle.patch_laws.proofs.Within.{MatchesWithin, matches_within}
use Rattle.patch_laws.proofs.OrderedLink.{canonical_pairs, link_ordered}

-- what suits passes its test
pub suited_known : (test : LExpr → Bool) (o : Option LExpr) (y : LExpr) → suited test o ≡ Some y → test y ≡ true
suited_known test None y w = absurd (none-some y w)
suited_known test (Some x) y w = pick (test x) refl w where
  pick : (t : Bool) → test x ≡ t → (if t then Some x else None) ≡ Some y → test y ≡ true
  pick false e w = absurd (none-some y w)
  pick true e w = subst (λ z. test z ≡ true) (same_Some x y w) e

-- matches
side_below : (kind : ℕ) (new : Lifted) (b : Option (List ℕ)) (j : Option ℕ) → new_number kind new b ≡ Ok j → below j (length (names_in new kind)) ≡ true
side_below kind new None j e = ap (λ z. below z (length (names_in new kind))) (sym (same_ok None j e))
side_below kind new (Some name) j e =
    let q = there_known _ _ _ j e in
    ap (λ z. below z (length (names_in new kind))) (sym (same_ok (Some q.0) j q.2)) ∙ number_within (names_in new kind) name q.0 q.1

match_sound : (k : Link) (i : ℕ) (a : List ℕ) (b : Option (List ℕ)) (y : LEntry) → nat_lt i 4 ≡ true → MatchForm k.old k.new i a b y → is_sound_entry k y ≡ true
match_sound k i a b y small q =
    ap (λ z. is_sound_entry k z) (sym q.is)
    ∙ and_from (nat_lt i 4 && nat_lt q.from (length (names_in k.old i)) && below q.to (length (names_in k.new i))) (not (i == 0 && start_differs k.old k.new q.from q.to))
    (and_from (nat_lt i 4 && nat_lt q.from (length (names_in k.old i))) (below q.to (length (names_in k.new i)))
    (and_from (nat_lt i 4) (nat_lt q.from (length (names_in k.old i))) small (number_within (names_in k.old i) a q.from q.from_found)) (side_below i k.new b q.to q.to_found))
    (not_from_false (i == 0 && start_differs k.old k.new q.from q.to) q.fits)

-- what fills slots
fill_sound : (k : Link) (r : Reads) (slots : List Slot) (x : Expr) (o : Option ℕ) (y : LFill) → lifted_fill_at k r slots x o ≡ Some y → suits_slot k r slots y.slot y.expr ≡ true
fill_sound k r slots x None y e = absurd (none-some y e)
fill_sound k r slots x (Some i) y e = pick (suited (suits_slot k r slots i) (numbered r x.kind)) refl e where
  pick : (o : Option LExpr) → suited (suits_slot k r slots i) (numbered r x.kind) ≡ o → option_map (λ z. record { slot = i; expr = z }) o ≡ Some y → suits_slot k r slots y.slot y.expr ≡ true
  pick None f e = absurd (none-some y e)
  pick (Some z) f e = ap (λ z. suits_slot k r slots z.slot z.expr) (sym (same_Some (record { slot = i; expr = z }) y e)) ∙ suited_known (suits_slot k r slots i) (numbered r x.kind) z f

fills_sound : (k : Link) (r : Reads) (slots : List Slot) (fills : List Fill) (xs : List LFill) → all_there (map (lifted_fill k r slots) fills) ≡ Some xs →
    list_all (λ x. suits_slot k r slots x.slot x.expr) xs ≡ true
fills_sound k r slots [] xs e = ap (λ z. list_all (λ x. suits_slot k r slots x.slot x.expr) z) (sym (same_Some [] xs e))
fills_sound k r slots (x ∷ rest) xs e =
    let q = both_known (lifted_fill k r slots x) (all_there (map (lifted_fill k r slots) rest)) xs e in
    ap (λ z. list_all (λ x. suits_slot k r slots x.slot x.expr) z) (sym q.4)
    ∙ and_from (suits_slot k r slots q.0.slot q.0.expr) (list_all (λ x. suits_slot k r slots x.slot x.expr) q.1)
    (fill_sound k r slots x.expr (find_name x.slot (slot_names slots)) q.0 q.2) (fills_sound k r slots rest q.1 q.3)

-- points
point_kept : (f : LFunction) (p : Pt) (n : ℕ) → IsReadPoint p → place_of f p ≡ Some n → not (is_kind kind.Plain (kind_in f n)) ≡ true
point_kept f p n r e = ap (λ z. not (is_kind kind.Plain z)) (found_kind (places f) p.kind p.number n e) ∙ r

-- the function of a part is there
function_within : (k : Link) (f g h : ℕ) → MatchesWithin k → match_at k.functions f ≡ Some g → (o : Option (List ℕ)) → function_in k g o ≡ Some h → nat_lt h (length k.new.functions) ≡ true
function_within k f g h within matched None e = within f h (matched ∙ e)
function_within k f g h within matched (Some name) e =
    ap (λ z. nat_lt h z) (sym (length-map k.new.functions (λ x. x.name))) ∙ number_within (names_in k.new 0) name h e

part_sound : (k : Link) (f g : ℕ) → MatchesWithin k → match_at k.functions f ≡ Some g → (p : Part) (x : LPart) → IsReadPoint p.point → PartForm k f g p x → is_twice_filled x ≡ false →
    sound_part k f x ≡ true
part_sound k f g within matched p x r q once =
    and_from (nat_lt x.function (length k.new.functions) && is_standing k.new (part_site x)) (sound_fills k f slots x.fills)
    (and_from (nat_lt x.function (length k.new.functions)) (is_standing k.new (part_site x))
    (function_within k f g x.function within matched p.function q.0.0) (point_kept (function_of k.new x.function) p.point x.place r q.0.1))
    (and_from (list_all (λ z. suits_slot k (reads_slots k f) slots z.slot z.expr) x.fills) (not (has_twice (map (λ z. z.slot) x.fills)))
    (fills_sound k (reads_slots k f) slots p.fills x.fills q.1) (not_from_false (has_twice (map (λ z. z.slot) x.fills)) once))
  where
    slots : List Slot
    slots = (function_of k.new x.function).slots

parts_sound : (k : Link) (f g : ℕ) → MatchesWithin k → match_at k.functions f ≡ Some g → (parts : List Part) (xs : List LPart) →
    AllByRecursion (λ p. IsReadPoint p.point) parts → AllZip (PartForm k f g) parts xs → list_any is_twice_filled xs ≡ false → list_all (sound_part k f) xs ≡ true
parts_sound k f g within matched [] [] a r once = refl
parts_sound k f g within matched [] (x ∷ xs) a r once = absurd r
parts_sound k f g within matched (p ∷ parts) [] a r once = absurd r
parts_sound k f g within matched (p ∷ parts) (x ∷ xs) a r once =
    let q = or_parts (is_twice_filled x) (list_any is_twice_filled xs) once in
    and_from (sound_part k f x) (list_all (sound_part k f) xs) (part_sound k f g within matched p x a.0 r.0 q.0) (parts_sound k f g within matched parts xs a.1 r.1 q.1)

-- one to four parts that were read, of which the first is of the match
added_points : (parts : List Part) → AllByRecursion IsAddedPart parts → AllByRecursion (λ p. IsReadPoint p.point) parts
added_points [] a = tt
added_points (p ∷ parts) a = (a.0.1, added_points parts a.1)

read_points : (parts : List Part) → AreReadParts parts → AllByRecursion (λ p. IsReadPoint p.point) parts
read_points [] a = absurd a
read_points (p ∷ added) a = (a.1, added_points added (recursion_from_All IsAddedPart added a.3))

as_many : {A B : Type 0} (R : A → B → Type 0) (xs : List A) (ys : List B) → AllZip R xs ys → length xs ≡ length ys
as_many R [] [] r = refl
as_many R [] (y ∷ ys) r = absurd r
as_many R (x ∷ xs) [] r = absurd r
as_many R (x ∷ xs) (y ∷ ys) r = ap suc (as_many R xs ys r.1)

few : (a b : ℕ) → a ≡ b → a ≤ 3 → nat_lt b 4 ≡ true
few a b e l = lt-ltb b 4 (omega (arith, e, l))

begins_well : (k : Link) (f g : ℕ) → match_at k.functions f ≡ Some g → (parts : List Part) (xs : List LPart) → AreReadParts parts → AllZip (PartForm k f g) parts xs → begins_with_match k f xs ≡ true
begins_well k f g matched [] xs a r = absurd a
begins_well k f g matched (p ∷ added) [] a r = absurd r
begins_well k f g matched (p ∷ added) (x ∷ xs) a r =
    and_from (is_number (match_at k.functions f) x.function) (nat_lt (length xs) 4)
    (ap (λ o. is_number o x.function) matched ∙ eq-eqb g x.function (same_Some g x.function (sym (ap (λ o. function_in k g o) a.0) ∙ r.0.0.0)))
    (few (length added) (length xs) (as_many (PartForm k f g) added xs r.1) a.2)

point_sound : (k : Link) (name : List ℕ) (from : Pt) (parts : List Part) (y : LEntry) → MatchesWithin k → IsReadPoint from → AreReadParts parts → PointForm k name from parts y →
    is_sound_entry k y ≡ true
point_sound k name from parts y within a b q =
    ap (λ z. is_sound_entry k z) (sym q.is)
    ∙ and_from (stands && begins && suit && not differ) (not (callees_differ k here sites))
    (and_from (stands && begins && suit) (not differ)
    (and_from (stands && begins) suit
    (and_from stands begins (point_kept (function_of k.old q.function) from q.old_place a q.old_found) (begins_well k q.function q.match q.matched parts q.values b q.parts_found))
    (parts_sound k q.function q.match within q.matched parts q.values (read_points parts b) q.parts_found q.once))
    (not_from_false differ q.kind_kept))
    (not_from_false (callees_differ k here sites) q.callee_kept)
  where
    here : Site
    here = site q.function q.old_place

    sites : List Site
    sites = map part_site q.values

    stands : Bool
    stands = is_standing k.old here

    begins : Bool
    begins = begins_with_match k q.function q.values

    suit : Bool
    suit = list_all (sound_part k q.function) q.values

    differ : Bool
    differ = kinds_differ k here sites

-- an entry that was read and lifts is sound
pub lifted_sound : (k : Link) (x : Entry) (y : LEntry) → MatchesWithin k → IsReadEntry x → lifted_entry k x ≡ Ok y → is_sound_entry k y ≡ true
lifted_sound k (n.Match i a b) y within r w = match_sound k i a b y r (entry_form k (n.Match i a b) y w)
lifted_sound k (n.Field owner name x) y within r w =
    let q = entry_form k (n.Field owner name x) y w in
    ap (λ z. is_sound_entry k z) (sym q.is)
    ∙ suited_known (suits_slot k (reads_fields k q.struct) (struct_of k.new q.struct).fields q.field) (numbered (reads_fields k q.struct) x.kind) q.value q.filled
lifted_sound k (n.Init name x) y within r w =
    let q = entry_form k (n.Init name x) y w in
    ap (λ z. is_sound_entry k z) (sym q.is) ∙ suited_known (suits_global k q.global) (numbered (only_globals k.old) x.kind) q.value q.filled
lifted_sound k (n.Point f from parts) y within r w = point_sound k f from parts y within r.0 r.1 (entry_form k (n.Point f from parts) y w)
lifted_sound k (n.Check x) y within r w =
    let q = entry_form k (n.Check x) y w in
    ap (λ z. is_sound_entry k z) (sym q.is) ∙ suited_known (suits_check k) (numbered (only_globals k.old) x.kind) q.value q.filled

pub each_sound : (k : Link) (xs : List Entry) (es : List LEntry) → MatchesWithin k → AllByRecursion IsReadEntry xs → AllLift k xs es → list_all (is_sound_entry k) es ≡ true
each_sound k [] [] within a w = refl
each_sound k [] (y ∷ es) within a w = absurd w
each_sound k (x ∷ rest) [] within a w = absurd w
each_sound k (x ∷ rest) (y ∷ es) within a w =
    and_from (is_sound_entry k y) (list_all (is_sound_entry k) es) (lifted_sound k x y within a.0 w.0) (each_sound k rest es within a.1 w.1)

-- slots in order are filled as before
pairs_of_map : {A : Type 0} (f : A → ℕ) (xs : List A) → has_twice (map f xs) ≡ any_pair (λ x y. f x == f y) xs
pairs_of_map f [] = refl
pairs_of_map {A} f (x ∷ rest) = ap (λ z. z || has_twice (map f rest)) (any f rest) ∙ ap (λ z. list_any (λ y. f x == f y) rest || z) (pairs_of_map f rest) where
  any : (f : A → ℕ) (ys : List A) → list_any (λ y. f x == y) (map f ys) ≡ list_any (λ y. f x == f y) ys
  any f [] = refl
  any f (y ∷ ys) = ap (λ z. f x == f y || z) (any f ys)

pub twice_kept : (fills : List LFill) → has_twice (map (λ x. x.slot) (fills_in_order fills)) ≡ has_twice (map (λ x. x.slot) fills)
twice_kept fills =
    pairs_of_map (λ x. x.slot) (fills_in_order fills)
    ∙ (sorted_pairs (λ a b. nat_lt a.slot b.slot) (λ x y. x.slot == y.slot) (λ x y. eqb_swapped x.slot y.slot) fills ∙ sym (pairs_of_map (λ x. x.slot) fills))

part_kept : (k : Link) (f : ℕ) (p : LPart) → sound_part k f (part_in_order p) ≡ sound_part k f p
part_kept k f p =
    let slots = (function_of k.new p.function).slots in
    let there = nat_lt p.function (length k.new.functions) && is_standing k.new (part_site p) in
    ap (λ z. there && (z && not (has_twice (map (λ x. x.slot) (fills_in_order p.fills)))))
    (sorted_all (λ a b. nat_lt a.slot b.slot) (λ x. suits_slot k (reads_slots k f) slots x.slot x.expr) p.fills)
    ∙ ap (λ z. there && (list_all (λ x. suits_slot k (reads_slots k f) slots x.slot x.expr) p.fills && not z)) (twice_kept p.fills)

parts_kept : (k : Link) (f : ℕ) (parts : List LPart) → list_all (sound_part k f) (map part_in_order parts) ≡ list_all (sound_part k f) parts
parts_kept k f [] = refl
parts_kept k f (p ∷ rest) = ap (λ z. z && list_all (sound_part k f) (map part_in_order rest)) (part_kept k f p) ∙ ap (λ z. sound_part k f p && z) (parts_kept k f rest)

sites_kept : (parts : List LPart) → map part_site (map part_in_order parts) ≡ map part_site parts
sites_kept [] = refl
sites_kept (p ∷ rest) = ap (λ z. part_site p ∷ z) (sites_kept rest)

begins_kept : (k : Link) (f : ℕ) (parts : List LPart) → begins_with_match k f (map part_in_order parts) ≡ begins_with_match k f parts
begins_kept k f [] = refl
begins_kept k f (p ∷ added) = ap (λ z. is_number (match_at k.functions f) p.function && nat_lt z 4) (length-map added part_in_order)

point_in_order : (k : Link) (from : Site) (parts : List LPart) → sound_point k from (map part_in_order parts) ≡ sound_point k from parts
point_in_order k from parts =
    ap (λ z. is_standing k.old from && z && list_all (sound_part k from.function) ordered && not (kinds_differ k from (map part_site ordered)) && not (callees_differ k from (map part_site ordered)))
    (begins_kept k from.function parts)
    ∙ (ap (λ z. is_standing k.old from && begins_with_match k from.function parts && z && not (kinds_differ k from (map part_site ordered)) && not (callees_differ k from (map part_site ordered)))
    (parts_kept k from.function parts)
    ∙ ap (λ z. is_standing k.old from && begins_with_match k from.function parts && list_all (sound_part k from.function) parts && not (kinds_differ k from z) && not (callees_differ k from z))
    (sites_kept parts))
  where
    ordered : List LPart
    ordered = map part_in_order parts

sound_kept : (k : Link) (x : LEntry) → is_sound_entry k (with_fills_in_order x) ≡ is_sound_entry k x
sound_kept k (l.Match i a b) = refl
sound_kept k (l.Field s i x) = refl
sound_kept k (l.Init g x) = refl
sound_kept k (l.Check x) = refl
sound_kept k (l.Point f p parts) = point_in_order k (site f p) parts

all_sound_kept : (k : Link) (es : List LEntry) → list_all (is_sound_entry k) (map with_fills_in_order es) ≡ list_all (is_sound_entry k) es
all_sound_kept k [] = refl
all_sound_kept k (x ∷ rest) = ap (λ z. z && list_all (is_sound_entry k) (map with_fills_in_order rest)) (sound_kept k x) ∙ ap (λ z. is_sound_entry k x && z) (all_sound_kept k rest)

pub canonical_all_sound : (k : Link) (es : List LEntry) → list_all (is_sound_entry k) (canonical es) ≡ list_all (is_sound_entry k) es
canonical_all_sound k es = sorted_all entry_before (is_sound_entry k) (map with_fills_in_order es) ∙ all_sound_kept k es

-- entries are sound where each is, and no two clash
and_moved : (a b c d : Bool) → (a && not b && (c && not d)) ≡ ((a && c) && not (b || d))
and_moved false b c d = refl
and_moved true true false d = refl
and_moved true true true d = refl
and_moved true false c d = refl

pub sound_parts : (k : Link) (es : List LEntry) → are_sound k es ≡ (list_all (is_sound_entry k) es && not (any_pair numbers_clash es))
sound_parts k [] = refl
sound_parts k (x ∷ rest) =
    ap (λ z. is_sound_entry k x && not (list_any (numbers_clash x) rest) && z) (sound_parts k rest)
    ∙ and_moved (is_sound_entry k x) (list_any (numbers_clash x) rest) (list_all (is_sound_entry k) rest) (any_pair numbers_clash rest)

-- canonical entries are sound exactly where the entries are, under one link
pub canonical_sound : (k : Link) (es : List LEntry) → are_sound k (canonical es) ≡ are_sound k es
canonical_sound k es =
    sound_parts k (canonical es)
    ∙ (ap (λ z. z && not (any_pair numbers_clash (canonical es))) (canonical_all_sound k es)
    ∙ (ap (λ z. list_all (is_sound_entry k) es && not z) (canonical_pairs es) ∙ sym (sound_parts k es)))

-- entries that were read and all lift do not clash, and are sound, in their own order and in the canonical one
pub lifted_apart : (old new : Lifted) (xs : List Entry) (es : List LEntry) → lifted_entries old new xs ≡ Ok es → any_pair numbers_clash es ≡ false
lifted_apart old new xs es w = (entries_apart (link_by_names old new xs) 1 [] xs [] es tt w).1

pub lifted_are_sound : (old new : Lifted) (xs : List Entry) (es : List LEntry) → AllByRecursion IsReadEntry xs → lifted_entries old new xs ≡ Ok es → Sound old new es
lifted_are_sound old new xs es a w =
    sound_parts (link_of old new es) es
    ∙ and_from (list_all (is_sound_entry (link_of old new es)) es) (not (any_pair numbers_clash es))
    (subst (λ k. list_all (is_sound_entry k) es ≡ true) (link_lifted old new xs es w) (each_sound (link_by_names old new xs) xs es (matches_within old new xs) a (all_lift (link_by_names old new xs) 1 [] xs es w)))
    (not_from_false (any_pair numbers_clash es) (lifted_apart old new xs es w))

pub canonical_are_sound : (old new : Lifted) (xs : List Entry) (es : List LEntry) → AllByRecursion IsReadEntry xs → lifted_entries old new xs ≡ Ok es → Sound old new (canonical es)
canonical_are_sound old new xs es a w =
    ap (λ k. are_sound k (canonical es)) (link_ordered old new es (lifted_apart old new xs es w))
    ∙ (canonical_sound (link_of old new es) es ∙ lifted_are_sound old new xs es a w)

-- the entries of a mapping that was read
all_of_map : {A B : Type 0} (P : B → Type 0) (f : A → B) (xs : List A) → AllByRecursion (λ x. P (f x)) xs → AllByRecursion P (map f xs)
all_of_map P f [] a = tt
all_of_map P f (x ∷ rest) a = (a.0, all_of_map P f rest a.1)

pub lifted_entries_sound : (old new : Lifted) (m : Mapping) (es : List LEntry) → HasMapForm m → lifted_entries old new (map (λ x. x.it) m.entries) ≡ Ok es → Sound old new (canonical es)
lifted_entries_sound old new m es a w =
    canonical_are_sound old new (map (λ x. x.it) m.entries) es (all_of_map IsReadEntry (λ x. x.it) m.entries (recursion_from_All (λ x. IsReadEntry x.it) m.entries a)) w
