-- The lines of points, one place after another.
use Rattle.std.proofs.Common.{◌≡◌, ◌∙◌, ℕ, zero, suc, ◌+◌, ◌<◌, ◌≤◌, Bool, true, false, List, [], ◌∷◌, ◌++◌, cond, length, get_or, take, map, refl, sym, ap, arith, add-one}
use Rattle.std.proofs.lemmas.List.{flat_map_more, length-take}
use Rattle.std.specs.Prelude.{All}
use Rattle.std.specs.List.{flat_map, range_with_len}
use Rattle.std.proofs.lemmas.List.Sums.{count_by_more_yes, count_by_more_no, count_by-le-length}
use Rattle.c_tree.specs.declared.lifted.LFunction.{LFunction}
use Rattle.c_tree.specs.declared.place.Place.{Place}
use Rattle.c_tree.specs.declared.place.PlaceKind.{PlaceKind}
use Rattle.c_tree.specs.declared.place.PlaceKind.TheVariants as kind
use Rattle.c_tree.specs.Points.{kind_of, kind_at, is_kind, before, number_of, point, line}
use Rattle.c_tree.specs.Layout.{places, size_of}
use Rattle.c_tree.proofs.PointLemmas.{place_of}
use Rattle.c_places.specs.Limit.{IsWithin}
use Rattle.c_places.proofs.FlowLemmas.{length-places}
use Rattle.c_places.specs.declared.tally.Tally.{Tally}
use Rattle.c_places.specs.Tally.{of_first, seen, counted}

before-more : (x : PlaceKind) (ps : List Place) (n : ℕ) (p : Place) → n < length ps → p ≡ get_or ps n p → before x ps (n + 1) ≡ before x ps n + cond (is_kind x (kind_of p.act)) 1 0
before-more x ps n p l is = pick (is_kind x (kind_of p.act)) refl where
  pick : (b : Bool) → is_kind x (kind_of p.act) ≡ b → before x ps (n + 1) ≡ before x ps n + cond b 1 0
  pick true e = count_by_more_yes (λ q. is_kind x (kind_of q.act)) ps n p l (ap (λ q. is_kind x (kind_of q.act)) (sym is) ∙ e)
  pick false e = count_by_more_no (λ q. is_kind x (kind_of q.act)) ps n p l (ap (λ q. is_kind x (kind_of q.act)) (sym is) ∙ e) ∙ omega arith

pub before-le : (x : PlaceKind) (ps : List Place) (n : ℕ) → before x ps n ≤ n
before-le x ps n = omega (arith, count_by-le-length (λ q. is_kind x (kind_of q.act)) (take n ps), length-take n ps)

abbrev tally_of : ℕ → ℕ → ℕ → ℕ → ℕ → Tally
tally_of a b c d e = record { entries = a; loops = b; blocks = c; calls = d; plain = e }

same_tally : (a b c d e i j k l m : ℕ) → a ≡ i → b ≡ j → c ≡ k → d ≡ l → e ≡ m → tally_of a b c d e ≡ tally_of i j k l m
same_tally a b c d e i j k l m p q r s t = cc

-- how many there are of a kind after one place more, from that place's kind
abbrev More : List Place → ℕ → PlaceKind → PlaceKind → Type 0
More ps n k x = before x ps (n + 1) ≡ before x ps n + cond (is_kind x k) 1 0

counted-first : (ps : List Place) (n : ℕ) (k : PlaceKind) → More ps n k kind.Entry → More ps n k kind.LoopEnd → More ps n k kind.Block → More ps n k kind.Call → More ps n k kind.Plain →
    counted (of_first ps n) k ≡ of_first ps (n + 1)
counted-first ps n kind.Entry a b c d e = same_tally _ _ _ _ _ _ _ _ _ _ (omega (arith, a)) (omega (arith, b)) (omega (arith, c)) (omega (arith, d)) (omega (arith, e))
counted-first ps n kind.LoopEnd a b c d e = same_tally _ _ _ _ _ _ _ _ _ _ (omega (arith, a)) (omega (arith, b)) (omega (arith, c)) (omega (arith, d)) (omega (arith, e))
counted-first ps n kind.Block a b c d e = same_tally _ _ _ _ _ _ _ _ _ _ (omega (arith, a)) (omega (arith, b)) (omega (arith, c)) (omega (arith, d)) (omega (arith, e))
counted-first ps n kind.Call a b c d e = same_tally _ _ _ _ _ _ _ _ _ _ (omega (arith, a)) (omega (arith, b)) (omega (arith, c)) (omega (arith, d)) (omega (arith, e))
counted-first ps n kind.Plain a b c d e = same_tally _ _ _ _ _ _ _ _ _ _ (omega (arith, a)) (omega (arith, b)) (omega (arith, c)) (omega (arith, d)) (omega (arith, e))

pub seen-first : (ps : List Place) (n : ℕ) (k : PlaceKind) → seen (of_first ps n) k ≡ before k ps n
seen-first ps n kind.Entry = refl
seen-first ps n kind.LoopEnd = refl
seen-first ps n kind.Block = refl
seen-first ps n kind.Call = refl
seen-first ps n kind.Plain = refl

-- no more places are seen than there were
pub seen-le : (t : Tally) (ps : List Place) (n : ℕ) (k : PlaceKind) → t ≡ of_first ps n → seen t k ≤ n
seen-le t ps n k e = omega (arith, ap (λ u. seen u k) e, seen-first ps n k, before-le k ps n)

-- the place of a number, which the tally counts
pub counted_more : (t : Tally) (ps : List Place) (n : ℕ) (p : Place) (k : PlaceKind) → n < length ps → p ≡ get_or ps n p → k ≡ kind_of (get_or ps n p).act → t ≡ of_first ps n → counted t k ≡ of_first ps (n + 1)
counted_more t ps n p k l is same e =
    ap (λ u. counted u k) e
    ∙ (ap (λ x. counted (of_first ps n) x) (same ∙ ap (λ q. kind_of q.act) (sym is))
    ∙ counted-first ps n (kind_of p.act) (before-more kind.Entry ps n p l is) (before-more kind.LoopEnd ps n p l is) (before-more kind.Block ps n p l is) (before-more kind.Call ps n p l is) (before-more kind.Plain ps n p l is))

range_more : (a n : ℕ) → range_with_len a (n + 1) ≡ range_with_len a n ++ (a + n) ∷ []
range_more a zero = ap (λ k. k ∷ []) (omega arith)
range_more a (suc n) = rw add-one (ap (λ ks. a ∷ ks) (ap (λ m. range_with_len (a + 1) m) (sym (add-one n)) ∙ (range_more (a + 1) n ∙ ap (λ k. range_with_len (a + 1) n ++ k ∷ []) (omega arith))))

-- the line of one place more
pub line_more : (name : List ℕ) (ps : List Place) (n : ℕ) (p : Place) (k : PlaceKind) (t : Tally) (i : ℕ) (out o1 o2 : List ℕ) → n < length ps → p ≡ get_or ps n p → k ≡ kind_of (get_or ps n p).act →
    t ≡ of_first ps n → i ≡ seen t k + 1 → o1 ≡ out ++ flat_map (λ m. line name m (point (kind_at ps m) (number_of ps m))) (range_with_len 0 n) → o2 ≡ o1 ++ line name n (point k i) →
    o2 ≡ out ++ flat_map (λ m. line name m (point (kind_at ps m) (number_of ps m))) (range_with_len 0 (n + 1))
line_more name ps n p k t i out o1 o2 l is same e number_is so_far more =
    let at : k ≡ kind_at ps n = same ∙ ap (λ q. kind_of q.act) (sym is ∙ sym (place_of ps n p l is)) in
    let said : point k i ≡ point (kind_at ps n) (number_of ps n) =
    ap (λ x. point k x) (number_is ∙ (ap (λ u. seen u k + 1) e ∙ ap (λ x. x + 1) (seen-first ps n k))) ∙ ap (λ x. point x (before x ps n + 1)) at in
    more ∙ (ap (λ z. z ++ line name n (point k i)) so_far
    ∙ (ap (λ z. (out ++ flat_map (λ m. line name m (point (kind_at ps m) (number_of ps m))) (range_with_len 0 n)) ++ line name n z) said
    ∙ (flat_map_more (λ m. line name m (point (kind_at ps m) (number_of ps m))) out (range_with_len 0 n) n
    ∙ ap (λ ks. out ++ flat_map (λ m. line name m (point (kind_at ps m) (number_of ps m))) ks) (ap (λ x. range_with_len 0 n ++ x ∷ []) (omega arith) ∙ sym (range_more 0 n)))))

-- no function has more places than are allowed
pub short_rows : (fs : List LFunction) → All (λ f. IsWithin f) fs → (i : ℕ) → length (get_or (map places fs) i []) ≤ 10000
short_rows [] h i = omega arith
short_rows (f ∷ fs) h zero = let within : size_of f.body + 2 ≤ 10000 = h 0 f (omega arith) in omega (arith, within, length-places f)
short_rows (f ∷ fs) h (suc i) = short_rows fs (λ k d l. h (suc k) d (omega (arith, l))) i
