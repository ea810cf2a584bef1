-- Entries in canonical order stay in it.
use Rattle.std.proofs.Common.{◌≡◌, ℕ, Bool, true, false, List, [], ◌∷◌, refl, ◌∙◌, ap, arith}
use Rattle.std.specs.Prelude.{map, ◌==◌, ◌&&◌, ◌||◌, nat_lt}
use Rattle.std.proofs.lemmas.Bool.Decides.{nat_tests}
use Rattle.c_tree.specs.declared.mapping.LFill.{LFill}
use Rattle.c_tree.specs.declared.mapping.LPart.{LPart}
use Rattle.c_tree.specs.declared.mapping.LEntry.{LEntry}
use Rattle.c_tree.specs.declared.mapping.LEntry.TheVariants as l
use Rattle.c_tree.specs.Canonical.{sorted_by, Key, key_of, is_before, fills_in_order, part_in_order, with_fills_in_order, canonical}
use Rattle.patch_laws.proofs.Sorting.{InOrder, sorted_in_order, sorted_twice, sorted_map}

-- of two keys one at most is less
lexical_once : (a b c x y z : ℕ) →
    (nat_lt a x || a == x && (nat_lt b y || b == y && nat_lt c z)) ≡ true → (nat_lt x a || x == a && (nat_lt y b || y == b && nat_lt z c)) ≡ false
lexical_once a b c x y z e = grind (arith, nat_tests)

pub before_once : (a b : Key) → is_before a b ≡ true → is_before b a ≡ false
before_once a b e = lexical_once a.group a.first a.second b.group b.first b.second e

slot_once : (a b : LFill) → nat_lt a.slot b.slot ≡ true → nat_lt b.slot a.slot ≡ false
slot_once a b e = grind (arith, nat_tests)

-- slots in order stay in order
pub fills_kept : (fills : List LFill) → fills_in_order (fills_in_order fills) ≡ fills_in_order fills
fills_kept fills = sorted_twice (λ a b. nat_lt a.slot b.slot) slot_once fills

pub parts_kept : (parts : List LPart) → map part_in_order (map part_in_order parts) ≡ map part_in_order parts
parts_kept [] = refl
parts_kept (p ∷ rest) =
    ap (λ z. record p { fills = z } ∷ map part_in_order (map part_in_order rest)) (fills_kept p.fills)
    ∙ ap (λ z. part_in_order p ∷ z) (parts_kept rest)

pub entry_kept : (x : LEntry) → with_fills_in_order (with_fills_in_order x) ≡ with_fills_in_order x
entry_kept (l.Match i a b) = refl
entry_kept (l.Field s i x) = refl
entry_kept (l.Init g x) = refl
entry_kept (l.Point f p parts) = ap (λ z. l.Point f p z) (parts_kept parts)
entry_kept (l.Check x) = refl

pub key_kept : (x : LEntry) → key_of (with_fills_in_order x) ≡ key_of x
key_kept (l.Match i a b) = refl
key_kept (l.Field s i x) = refl
key_kept (l.Init g x) = refl
key_kept (l.Point f p parts) = refl
key_kept (l.Check x) = refl

entries_kept : (xs : List LEntry) → map with_fills_in_order (map with_fills_in_order xs) ≡ map with_fills_in_order xs
entries_kept [] = refl
entries_kept (x ∷ rest) = ap (λ z. z ∷ map with_fills_in_order (map with_fills_in_order rest)) (entry_kept x) ∙ ap (λ z. with_fills_in_order x ∷ z) (entries_kept rest)

-- the test that orders entries
abbrev pub entry_before : LEntry → LEntry → Bool
entry_before a b = is_before (key_of a) (key_of b)

pub entry_once : (a b : LEntry) → entry_before a b ≡ true → entry_before b a ≡ false
entry_once a b e = before_once (key_of a) (key_of b) e

same_before : (a b : LEntry) → entry_before (with_fills_in_order a) (with_fills_in_order b) ≡ entry_before a b
same_before a b = ap (λ k. is_before k (key_of (with_fills_in_order b))) (key_kept a) ∙ ap (λ k. is_before (key_of a) k) (key_kept b)

-- canonical entries are in order, and their slots too
pub canonical_in_order : (es : List LEntry) → InOrder entry_before (canonical es)
canonical_in_order es = sorted_in_order entry_before entry_once (map with_fills_in_order es)

pub canonical_fills : (es : List LEntry) → map with_fills_in_order (canonical es) ≡ canonical es
canonical_fills es =
    sorted_map entry_before entry_before with_fills_in_order same_before (map with_fills_in_order es)
    ∙ ap (λ z. sorted_by entry_before z) (entries_kept es)

pub canonical_kept : (es : List LEntry) → canonical (canonical es) ≡ canonical es
canonical_kept es = ap (λ z. sorted_by entry_before z) (canonical_fills es) ∙ sorted_twice entry_before entry_once (map with_fills_in_order es)
