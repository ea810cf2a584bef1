-- The items in ascending order are the only ascending list that keeps the order of equal ones.
use Rattle.std.proofs.Common.{◌≡◌, ℕ, suc, ◌+◌, Bool, true, false, cond, not, List, [], ◌∷◌, refl, sym, ◌∙◌, ap, arith}
use Rattle.std.specs.Prelude.{◌&&◌, filter, if◌then◌else◌, slice_index_or}
use Rattle.std.specs.Cmp.{IsStrictWeakOrder}
use Rattle.std.specs.List.Sorted.{ties, IsSortedBy, IsStableBy}
use Rattle.c_tree.specs.Canonical.{placed_by, sorted_by}

-- two tests that agree order items alike
placed_alike : {X : Type 0} (p q : X → X → Bool) (e : (x y : X) → p x y ≡ q x y) (x : X) (xs : List X) → placed_by p x xs ≡ placed_by q x xs
placed_alike p q e x [] = refl
placed_alike p q e x (y ∷ rest) =
    ap (λ b. if b then y ∷ placed_by p x rest else x ∷ y ∷ rest) (e y x) ∙ ap (λ zs. if q y x then y ∷ zs else x ∷ y ∷ rest) (placed_alike p q e x rest)

pub sorted_alike : {X : Type 0} (p q : X → X → Bool) (e : (x y : X) → p x y ≡ q x y) (xs : List X) → sorted_by p xs ≡ sorted_by q xs
sorted_alike p q e [] = refl
sorted_alike p q e (x ∷ rest) = placed_alike p q e x (sorted_by p rest) ∙ ap (placed_by q x) (sorted_alike p q e rest)

heads : {X : Type 0} (x y : X) (xs ys : List X) → x ∷ xs ≡ y ∷ ys → x ≡ y
heads x y xs ys e = cc

tails : {X : Type 0} (x y : X) (xs ys : List X) → x ∷ xs ≡ y ∷ ys → xs ≡ ys
tails x y xs ys e = cc

past_head : {X : Type 0} (x : X) (xs : List X) (k : ℕ) (d : X) → slice_index_or (x ∷ xs) (k + 1) d ≡ slice_index_or xs k d
past_head x xs k d = let e : k + 1 ≡ suc k = omega arith in ap (λ n. slice_index_or (x ∷ xs) n d) e

module _ {X : Type 0} (lt : X → X → Bool) (o : IsStrictWeakOrder lt) where
  -- no item is less than x
  abbrev NoneBelow : X → List X → Type 0
  NoneBelow x [] = Unit {0}
  NoneBelow x (y ∷ rest) = (lt y x ≡ false) × NoneBelow x rest

  abbrev Ascend : List X → Type 0
  Ascend [] = Unit {0}
  Ascend (x ∷ rest) = NoneBelow x rest × Ascend rest

  -- the items that are neither less nor greater than x
  abbrev alike : X → List X → List X
  alike x xs = filter (ties lt x) xs

  not_itself : (x : X) → lt x x ≡ false
  not_itself x = pick (lt x x) refl where
    pick : (b : Bool) → lt x x ≡ b → lt x x ≡ false
    pick true e = o.one_way x x e
    pick false e = e

  from_lower : (x y : X) (zs : List X) → lt y x ≡ false → NoneBelow y zs → NoneBelow x zs
  from_lower x y [] e s = tt
  from_lower x y (z ∷ rest) e s = (o.chain z y x s.0 e, from_lower x y rest e s.1)

  placed_from : (n x : X) (xs : List X) → lt x n ≡ false → NoneBelow n xs → NoneBelow n (placed_by lt x xs)
  placed_from n x [] e s = (e, tt)
  placed_from n x (y ∷ rest) e s = pick (lt y x) (placed_from n x rest e s.1) where
    pick : (b : Bool) → NoneBelow n (placed_by lt x rest) → NoneBelow n (if b then y ∷ placed_by lt x rest else x ∷ y ∷ rest)
    pick true r = (s.0, r)
    pick false r = (e, s)

  placed_ascend : (x : X) (xs : List X) → Ascend xs → Ascend (placed_by lt x xs)
  placed_ascend x [] s = (tt, tt)
  placed_ascend x (y ∷ rest) s = pick (lt y x) refl (placed_ascend x rest s.1) where
    pick : (b : Bool) → lt y x ≡ b → Ascend (placed_by lt x rest) → Ascend (if b then y ∷ placed_by lt x rest else x ∷ y ∷ rest)
    pick true e r = (placed_from y x rest (o.one_way y x e) s.0, r)
    pick false e r = ((e, from_lower x y rest e s.0), s)

  order_ascends : (xs : List X) → Ascend (sorted_by lt xs)
  order_ascends [] = tt
  order_ascends (x ∷ rest) = placed_ascend x (sorted_by lt rest) (order_ascends rest)

  both_false : (a b : Bool) → not a && not b ≡ true → (a ≡ false) × (b ≡ false)
  both_false false false e = (refl, refl)
  both_false false true e = absurd (let no : ⊥ = cc in no)
  both_false true b e = absurd (let no : ⊥ = cc in no)

  ties_are : (q x : X) → ties lt q x ≡ true → (lt q x ≡ false) × (lt x q ≡ false)
  ties_are q x e = both_false (lt q x) (lt x q) e

  ties_itself : (x : X) → ties lt x x ≡ true
  ties_itself x = ap (λ b. not b && not b) (not_itself x)

  placed_keeps : (q x : X) (xs : List X) → alike q (placed_by lt x xs) ≡ alike q (x ∷ xs)
  placed_keeps q x [] = refl
  placed_keeps q x (y ∷ rest) = pick (lt y x) refl (placed_keeps q x rest) where
    swap : (b d : Bool) → ties lt q x ≡ b → ties lt q y ≡ d → lt y x ≡ true → (r : List X) →
        cond d (y ∷ cond b (x ∷ r) r) (cond b (x ∷ r) r) ≡ cond b (x ∷ cond d (y ∷ r) r) (cond d (y ∷ r) r)
    swap false d e f l r = refl
    swap true false e f l r = refl
    swap true true e f l r =
        absurd (let no : lt y x ≡ false = o.chain y q x (ties_are q y f).1 (ties_are q x e).0 in let end : ⊥ = cc in end)

    pick : (b : Bool) → lt y x ≡ b → alike q (placed_by lt x rest) ≡ alike q (x ∷ rest) →
        alike q (if b then y ∷ placed_by lt x rest else x ∷ y ∷ rest) ≡ alike q (x ∷ y ∷ rest)
    pick true e r = ap (λ z. cond (ties lt q y) (y ∷ z) z) r ∙ swap (ties lt q x) (ties lt q y) refl refl e (alike q rest)
    pick false e r = refl

  order_keeps : (q : X) (xs : List X) → alike q (sorted_by lt xs) ≡ alike q xs
  order_keeps q [] = refl
  order_keeps q (x ∷ rest) = placed_keeps q x (sorted_by lt rest) ∙ ap (λ z. cond (ties lt q x) (x ∷ z) z) (order_keeps q rest)

  found_from : (n k : X) (ys : List X) (z : X) (r : List X) → NoneBelow n ys → z ∷ r ≡ alike k ys → lt k n ≡ false
  found_from n k [] z r s e = absurd (let no : ⊥ = cc in no)
  found_from n k (y ∷ ys) z r s e = pick (ties lt k y) refl e (found_from n k ys z r s.1) where
    pick : (b : Bool) → ties lt k y ≡ b → z ∷ r ≡ cond b (y ∷ alike k ys) (alike k ys) → (z ∷ r ≡ alike k ys → lt k n ≡ false) → lt k n ≡ false
    pick true b e go = o.chain k y n (ties_are k y b).0 s.0
    pick false b e go = go e

  head_here : (q x : X) (xs : List X) → ties lt q x ≡ true → alike q (x ∷ xs) ≡ x ∷ alike q xs
  head_here q x xs e = ap (λ b. cond b (x ∷ alike q xs) (alike q xs)) e

  same_rest : (x : X) (xs ys : List X) → ((q : X) → alike q (x ∷ xs) ≡ alike q (x ∷ ys)) → (q : X) → alike q xs ≡ alike q ys
  same_rest x xs ys h q = pick (ties lt q x) (h q) where
    pick : (b : Bool) → cond b (x ∷ alike q xs) (alike q xs) ≡ cond b (x ∷ alike q ys) (alike q ys) → alike q xs ≡ alike q ys
    pick true e = tails x x _ _ e
    pick false e = e

  same_order : (xs ys : List X) → Ascend xs → Ascend ys → ((q : X) → alike q xs ≡ alike q ys) → xs ≡ ys
  same_order [] [] a b h = refl
  same_order [] (y ∷ ys) a b h = absurd (let e : [] ≡ y ∷ alike y ys = h y ∙ head_here y y ys (ties_itself y) in let no : ⊥ = cc in no)
  same_order (x ∷ xs) [] a b h = absurd (let e : x ∷ alike x xs ≡ [] = sym (head_here x x xs (ties_itself x)) ∙ h x in let no : ⊥ = cc in no)
  same_order (x ∷ xs) (y ∷ ys) a b h =
      ap (λ z. z ∷ xs) here ∙ ap (λ t. y ∷ t) (same_order xs ys a.1 b.1 (same_rest y xs ys (λ q. ap (λ z. alike q (z ∷ xs)) (sym here) ∙ h q))) where
        below : lt x y ≡ false
        below = found_from y x (y ∷ ys) x (alike x xs) (not_itself y, b.0) (sym (head_here x x xs (ties_itself x)) ∙ h x)

        above : lt y x ≡ false
        above = found_from x y (x ∷ xs) y (alike y ys) (not_itself x, a.0) (sym (head_here y y ys (ties_itself y)) ∙ sym (h y))

        here : x ≡ y
        here = heads x y (alike x xs) (alike x ys)
            (sym (head_here x x xs (ties_itself x)) ∙ (h x ∙ head_here x y ys (ap (λ b. not b && not (lt y x)) below ∙ ap (λ b. not false && not b) above)))

  sorted_ascends : (ys : List X) → IsSortedBy lt ys → Ascend ys
  sorted_ascends [] s = tt
  sorted_ascends (x ∷ []) s = (tt, tt)
  sorted_ascends (x ∷ y ∷ rest) s =
      let tail = sorted_ascends (y ∷ rest) (λ k d low high.
      ap (λ z. lt z (slice_index_or (y ∷ rest) k d)) (sym (past_head x (y ∷ rest) (k + 1) d))
      ∙ (ap (λ z. lt (slice_index_or (x ∷ y ∷ rest) (k + 1 + 1) d) z) (sym (past_head x (y ∷ rest) k d))
      ∙ s (k + 1) d (omega arith) (omega (arith, high)))) in
      let e : lt y x ≡ false = s 0 x (omega arith) (omega arith) in
      ((e, from_lower x y rest e tail.0), tail)

  -- a stable sort gives the items in ascending order
  pub sort_gives : (xs ys : List X) → IsSortedBy lt ys → IsStableBy lt xs ys → ys ≡ sorted_by lt xs
  sort_gives xs ys sorted stable = same_order ys (sorted_by lt xs) (sorted_ascends ys sorted) (order_ascends xs) (λ q. stable q ∙ sym (order_keeps q xs))
