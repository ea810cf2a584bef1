-- The numbers that pass a test.
use Rattle.std.proofs.Common.{◌≡◌, ℕ, zero, suc, ◌+◌, ◌<◌, ◌≤◌, Bool, true, false, List, [], ◌∷◌, ◌++◌, length, Option, Some, None, refl, ap, subst, sym, ◌∙◌, arith, add-one}
use Rattle.std.specs.Prelude.{filter, find, cond, slice_get}
use Rattle.std.specs.List.{range_with_len}
use Rattle.std.proofs.lemmas.Option.{slice_get_past}
use Rattle.c_meaning.proofs.RangeLemmas.{range-more}

cons_last : (b : Bool) (y : ℕ) (f g : List ℕ) (m : ℕ) → length g ≡ length f + m → length (cond b (y ∷ g) g) ≡ length (cond b (y ∷ f) f) + m
cons_last true y f g m h = omega arith
cons_last false y f g m h = h

find_cons : (b : Bool) (x : ℕ) (f : List ℕ) (r : Option ℕ) → length (cond b (x ∷ f) f) ≡ 0 → (length f ≡ 0 → r ≡ None) → cond b (Some x) r ≡ None
find_cons true x f r h go = absurd (omega arith)
find_cons false x f r h go = go h

filter_last : (p : ℕ → Bool) (xs : List ℕ) (x : ℕ) → length (filter p (xs ++ x ∷ [])) ≡ length (filter p xs) + cond (p x) 1 0
filter_last p [] x = one (p x)
  where
    one : (b : Bool) → length (cond b (x ∷ []) []) ≡ 0 + cond b 1 0
    one true = refl
    one false = refl
filter_last p (y ∷ ys) x = cons_last (p y) y (filter p ys) (filter p (ys ++ x ∷ [])) (cond (p x) 1 0) (filter_last p ys x)

pub filter-more : (p : ℕ → Bool) (n : ℕ) → length (filter p (range_with_len 0 (n + 1))) ≡ length (filter p (range_with_len 0 n)) + cond (p n) 1 0
filter-more p n =
    let z : 0 + n ≡ n = omega arith in
    ap (λ k. length (filter p (range_with_len 0 k))) (add-one n) ∙ (ap (λ xs. length (filter p xs)) (range-more 0 n) ∙ (filter_last p (range_with_len 0 n) (0 + n) ∙ ap (λ k. length (filter p (range_with_len 0 n)) + cond (p k) 1 0) z))

nth_cons : (b : Bool) (a : ℕ) (f g : List ℕ) (r : Option ℕ) → slice_get g (length f) ≡ r → slice_get (cond b (a ∷ g) g) (length (cond b (a ∷ f) f)) ≡ r
nth_cons true a f g r h = h
nth_cons false a f g r h = h

nth_at : (p : ℕ → Bool) (a n i : ℕ) → i < n → p (a + i) ≡ true → slice_get (filter p (range_with_len a n)) (length (filter p (range_with_len a i))) ≡ Some (a + i)
nth_at p a zero i h e = absurd (omega arith)
nth_at p a (suc n) zero h e =
    let z : a + 0 ≡ a = omega arith in
    ap (λ b. slice_get (cond b (a ∷ filter p (range_with_len (a + 1) n)) (filter p (range_with_len (a + 1) n))) 0) (ap p (sym z) ∙ e) ∙ ap (λ k. let x : Option ℕ = Some k in x) (sym z)
nth_at p a (suc n) (suc i) h e =
    let z : a + suc i ≡ a + 1 + i = omega arith in
    nth_cons (p a) a (filter p (range_with_len (a + 1) i)) (filter p (range_with_len (a + 1) n)) (Some (a + suc i))
    (nth_at p (a + 1) n i (omega arith) (ap p (sym z) ∙ e) ∙ ap (λ k. let x : Option ℕ = Some k in x) (sym z))

pub nth : (p : ℕ → Bool) (n i k : ℕ) → i < n → p i ≡ true → length (filter p (range_with_len 0 i)) ≡ k → slice_get (filter p (range_with_len 0 n)) k ≡ Some i
nth p n i k h e f =
    let z : 0 + i ≡ i = omega arith in
    ap (slice_get (filter p (range_with_len 0 n))) (sym f) ∙ (nth_at p 0 n i h (ap p z ∙ e) ∙ ap (λ j. let x : Option ℕ = Some j in x) z)

pub filter_find : (p : ℕ → Bool) (xs : List ℕ) → length (filter p xs) ≡ 0 → find p xs ≡ None
filter_find p [] h = refl
filter_find p (x ∷ xs) h = find_cons (p x) x (filter p xs) (find p xs) h (filter_find p xs)

pub past : (p : ℕ → Bool) (n t k left : ℕ) → t ≡ n → length (filter p (range_with_len 0 t)) + left ≡ k → None ≡ slice_get (filter p (range_with_len 0 n)) k
past p n t k left e h =
    let f : length (filter p (range_with_len 0 t)) ≤ k = omega arith in
    sym (slice_get_past (filter p (range_with_len 0 n)) k (subst (λ m. length (filter p (range_with_len 0 m)) ≤ k) e f))
