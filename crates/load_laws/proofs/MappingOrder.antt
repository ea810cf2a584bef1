-- The entries of the mapping stand in their canonical order, and no two are of one place.
use Rattle.std.proofs.Common.{◌≡◌, ℕ, zero, suc, ◌+◌, ◌-◌, ◌*◌, ◌<◌, ◌≤◌, Bool, false, List, [], ◌∷◌, ◌++◌, refl, ap, ◌∙◌, arith, map}
use Rattle.std.specs.Prelude.{◌&&◌, ◌||◌, ◌==◌, nat_lt}
use Rattle.std.specs.List.{list_any, flat_map, range_with_len}
use Rattle.std.proofs.lemmas.Bool.Decides.{nat_tests}
use Rattle.c_tree.specs.declared.mapping.LPart.{LPart}
use Rattle.c_tree.specs.declared.mapping.LEntry.{LEntry}
use Rattle.c_tree.specs.declared.mapping.LEntry.TheVariants as by_number
use Rattle.c_tree.specs.Canonical.{key_of, is_before, part_in_order, with_fills_in_order, canonical, sorted_by}
use Rattle.c_tree.specs.Sound.{numbers_clash}
use Rattle.patch_laws.proofs.LiftedLink.{claims}
use Rattle.patch_laws.proofs.Sorting.{any_pair, IsAhead, InOrder, in_order_kept}
use Rattle.load_laws.proofs.MappingEntries.{next_numbered, main_numbered, load_entries}

-- All are points of fewer than 16 places of a function; the places ascend, and stand at m or behind it.
abbrev pub Ascend : ℕ → List LEntry → Type 0
Ascend m [] = Unit {0}
Ascend m (by_number.Point f p parts ∷ rest) = (m ≤ 16 * f + p) × (p < 16) × (map part_in_order parts ≡ parts) × Ascend (16 * f + p + 1) rest
Ascend m (x ∷ rest) = ⊥

lower : (m n : ℕ) (es : List LEntry) → m ≤ n → Ascend n es → Ascend m es
lower m n [] le h = tt
lower m n (by_number.Point f p parts ∷ rest) le h = (omega (arith, le, h.0), h.1, h.2, h.3)
lower m n (by_number.Match i a b ∷ rest) le h = absurd h
lower m n (by_number.Field s i x ∷ rest) le h = absurd h
lower m n (by_number.Init g x ∷ rest) le h = absurd h
lower m n (by_number.Check x ∷ rest) le h = absurd h

-- one place stands before another
other_place : (f p g r : ℕ) → p < 16 → r < 16 → 16 * f + p < 16 * g + r → (f == g && p == r) ≡ false
other_place f p g r a b less = grind (arith, nat_tests, a, b, less)

not_before : (f p g r : ℕ) → p < 16 → r < 16 → 16 * f + p < 16 * g + r → (nat_lt g f || g == f && nat_lt r p) ≡ false
not_before f p g r a b less = grind (arith, nat_tests, a, b, less)

no_clash : (m f p : ℕ) (parts : List LPart) (es : List LEntry) → p < 16 → 16 * f + p < m → Ascend m es → list_any (numbers_clash (by_number.Point f p parts)) es ≡ false
no_clash m f p parts [] a less h = refl
no_clash m f p parts (by_number.Point g r others ∷ rest) a less h =
    ap (λ t. t || list_any (numbers_clash (by_number.Point f p parts)) rest) (other_place f p g r a h.1 (omega (arith, less, h.0)))
    ∙ no_clash (16 * g + r + 1) f p parts rest a (omega (arith, less, h.0)) h.3
no_clash m f p parts (by_number.Match i x y ∷ rest) a less h = absurd h
no_clash m f p parts (by_number.Field s i x ∷ rest) a less h = absurd h
no_clash m f p parts (by_number.Init g x ∷ rest) a less h = absurd h
no_clash m f p parts (by_number.Check x ∷ rest) a less h = absurd h

no_pair : (m : ℕ) (es : List LEntry) → Ascend m es → any_pair numbers_clash es ≡ false
no_pair m [] h = refl
no_pair m (by_number.Point f p parts ∷ rest) h =
    ap (λ t. t || any_pair numbers_clash rest) (no_clash (16 * f + p + 1) f p parts rest h.1 (omega arith) h.3) ∙ no_pair (16 * f + p + 1) rest h.3
no_pair m (by_number.Match i x y ∷ rest) h = absurd h
no_pair m (by_number.Field s i x ∷ rest) h = absurd h
no_pair m (by_number.Init g x ∷ rest) h = absurd h
no_pair m (by_number.Check x ∷ rest) h = absurd h

abbrev before : LEntry → LEntry → Bool
before a b = is_before (key_of a) (key_of b)

ahead : (m f p : ℕ) (parts : List LPart) (es : List LEntry) → p < 16 → 16 * f + p < m → Ascend m es → IsAhead before (by_number.Point f p parts) es
ahead m f p parts [] a less h = tt
ahead m f p parts (by_number.Point g r others ∷ rest) a less h = not_before f p g r a h.1 (omega (arith, less, h.0))
ahead m f p parts (by_number.Match i x y ∷ rest) a less h = absurd h
ahead m f p parts (by_number.Field s i x ∷ rest) a less h = absurd h
ahead m f p parts (by_number.Init g x ∷ rest) a less h = absurd h
ahead m f p parts (by_number.Check x ∷ rest) a less h = absurd h

in_order : (m : ℕ) (es : List LEntry) → Ascend m es → InOrder before es
in_order m [] h = tt
in_order m (by_number.Point f p parts ∷ rest) h = (ahead (16 * f + p + 1) f p parts rest h.1 (omega arith) h.3, in_order (16 * f + p + 1) rest h.3)
in_order m (by_number.Match i x y ∷ rest) h = absurd h
in_order m (by_number.Field s i x ∷ rest) h = absurd h
in_order m (by_number.Init g x ∷ rest) h = absurd h
in_order m (by_number.Check x ∷ rest) h = absurd h

fills_kept : (m : ℕ) (es : List LEntry) → Ascend m es → map with_fills_in_order es ≡ es
fills_kept m [] h = refl
fills_kept m (by_number.Point f p parts ∷ rest) h =
    ap (λ ps. by_number.Point f p ps ∷ map with_fills_in_order rest) h.2 ∙ ap (λ xs. by_number.Point f p parts ∷ xs) (fills_kept (16 * f + p + 1) rest h.3)
fills_kept m (by_number.Match i x y ∷ rest) h = absurd h
fills_kept m (by_number.Field s i x ∷ rest) h = absurd h
fills_kept m (by_number.Init g x ∷ rest) h = absurd h
fills_kept m (by_number.Check x ∷ rest) h = absurd h

no_claims : (kind m : ℕ) (es : List LEntry) → Ascend m es → claims kind es ≡ []
no_claims kind m [] h = refl
no_claims kind m (by_number.Point f p parts ∷ rest) h = no_claims kind (16 * f + p + 1) rest h.3
no_claims kind m (by_number.Match i x y ∷ rest) h = absurd h
no_claims kind m (by_number.Field s i x ∷ rest) h = absurd h
no_claims kind m (by_number.Init g x ∷ rest) h = absurd h
no_claims kind m (by_number.Check x ∷ rest) h = absurd h

-- The entries of a load.
range_ascends : (a m : ℕ) (rest : List LEntry) → 1 ≤ a → Ascend (16 * (a + m - 1)) rest → Ascend (16 * (a - 1)) (flat_map next_numbered (range_with_len a m) ++ rest)
range_ascends a zero rest le h = lower (16 * (a - 1)) (16 * (a + 0 - 1)) rest (omega arith) h
range_ascends a (suc m) rest le h =
    let more = flat_map next_numbered (range_with_len (a + 1) m) ++ rest in
    let next : Ascend (16 * (a + 1 - 1)) more = range_ascends (a + 1) m rest (omega arith) (lower (16 * (a + 1 + m - 1)) (16 * (a + suc m - 1)) rest (omega arith) h) in (
      omega arith,
      omega arith,
      refl,
      (
        omega arith,
        omega arith,
        refl,
        (omega arith, omega arith, refl, lower (16 * (a - 1) + 6 + 1) (16 * (a + 1 - 1)) more (omega (arith, le)) next),
      ),
    )

main_ascends : (n : ℕ) → Ascend (16 * (n + 1)) (main_numbered (n + 1))
main_ascends n = (
  omega arith,
  omega arith,
  refl,
  (
    omega arith,
    omega arith,
    refl,
    (
      omega arith,
      omega arith,
      refl,
      (
        omega arith,
        omega arith,
        refl,
        (omega arith, omega arith, refl, tt),
      ),
    ),
  ),
)

all_ascend : (n : ℕ) → 1 ≤ n → Ascend 0 (load_entries n)
all_ascend n some =
    let m = n - 1 in
    let rest = flat_map next_numbered (range_with_len 2 m) ++ main_numbered (n + 1) in
    let main : Ascend (16 * (2 + m - 1)) (main_numbered (n + 1)) = lower (16 * (2 + m - 1)) (16 * (n + 1)) (main_numbered (n + 1)) (omega (arith, some)) (main_ascends n) in (
      omega arith,
      omega arith,
      refl,
      (omega arith, omega arith, refl, lower (16 * 0 + 5 + 1) (16 * (2 - 1)) rest (omega arith) (range_ascends 2 m (main_numbered (n + 1)) (omega arith) main)),
    )

pub apart : (n : ℕ) → 1 ≤ n → any_pair numbers_clash (load_entries n) ≡ false
apart n some = no_pair 0 (load_entries n) (all_ascend n some)

pub nothing_claimed : (kind n : ℕ) → 1 ≤ n → claims kind (load_entries n) ≡ []
nothing_claimed kind n some = no_claims kind 0 (load_entries n) (all_ascend n some)

pub canonical_is : (n : ℕ) → 1 ≤ n → canonical (load_entries n) ≡ load_entries n
canonical_is n some =
    let h = all_ascend n some in
    ap (sorted_by before) (fills_kept 0 (load_entries n) h) ∙ in_order_kept before (load_entries n) (in_order 0 (load_entries n) h)
