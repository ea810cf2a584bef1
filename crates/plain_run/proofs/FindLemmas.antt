-- The first thread that passes a test, and tests of all live threads.
use Rattle.std.proofs.Common.{◌≡◌, ℕ, zero, suc, ◌+◌, ◌<◌, Bool, true, false, not, ◌&&◌, List, [], ◌∷◌, length, Option, Some, None, refl, ap, sym, ◌∙◌, arith, add-one}
use Rattle.std.specs.Prelude.{cond, filter, find}
use Rattle.std.specs.List.{list_all, range_with_len}
use Rattle.std.specs.Option.{option_or}
use Rattle.std.proofs.lemmas.List.Elements.{filter-append}
use Rattle.std.proofs.lemmas.List.Folds.{find-append, list_all-append}
use Rattle.c_meaning.proofs.RangeLemmas.{range-more}

pub not_first : (a b c : Bool) → a ≡ false → (a && b && c) ≡ false
not_first true b c e = cc
not_first false b c e = refl

pub no_items : (us : List ℕ) → length us ≡ 0 → us ≡ []
no_items [] e = refl
no_items (u ∷ us) e = absurd (omega arith)

-- a test that nothing passes
pub none-pass : (p : ℕ → Bool) (xs : List ℕ) → ((x : ℕ) → p x ≡ false) → find p xs ≡ None
none-pass p [] h = refl
none-pass p (x ∷ xs) h = ap (λ b. cond b (Some x) (find p xs)) (h x) ∙ none-pass p xs h

find_suc : (p : ℕ → Bool) (n : ℕ) → find p (range_with_len 0 n) ≡ None → p n ≡ false → find p (range_with_len 0 (suc n)) ≡ None
find_suc p n h here =
    let e : 0 + n ≡ n = omega arith in
    ap (find p) (range-more 0 n) ∙ (find-append p (range_with_len 0 n) ((0 + n) ∷ [])
    ∙ (ap (λ o. option_or o (find p ((0 + n) ∷ []))) h ∙ ap (λ b. cond b (Some (0 + n)) None) (ap p e ∙ here)))

-- one more number that doesn't pass
pub find-more : (p : ℕ → Bool) (n : ℕ) → find p (range_with_len 0 n) ≡ None → p n ≡ false → find p (range_with_len 0 (n + 1)) ≡ None
find-more p n h here = rw (add-one n) (find_suc p n h here)

some_cons : (b : Bool) (y v : ℕ) (r r2 : Option ℕ) → cond b (Some y) r ≡ None → (r ≡ None → r2 ≡ Some v) → cond b (Some y) r2 ≡ Some v
some_cons true y v r r2 m f = cc
some_cons false y v r r2 m f = f m

found_at : (p : ℕ → Bool) (a n i : ℕ) → i < n → find p (range_with_len a i) ≡ None → p (a + i) ≡ true → find p (range_with_len a n) ≡ Some (a + i)
found_at p a zero i h m e = absurd (omega arith)
found_at p a (suc n) zero h m e =
    let z : a + 0 ≡ a = omega arith in
    ap (λ b. cond b (Some a) (find p (range_with_len (a + 1) n))) (ap p (sym z) ∙ e) ∙ ap (λ k. let x : Option ℕ = Some k in x) (sym z)
found_at p a (suc n) (suc i) h m e =
    let z : a + suc i ≡ a + 1 + i = omega arith in
    some_cons (p a) a (a + suc i) (find p (range_with_len (a + 1) i)) (find p (range_with_len (a + 1) n)) m
    (λ q. found_at p (a + 1) n i (omega arith) q (ap p (sym z) ∙ e) ∙ ap (λ k. let x : Option ℕ = Some k in x) (sym z))

-- the first number that passes
pub found : (p : ℕ → Bool) (n i : ℕ) → i < n → find p (range_with_len 0 i) ≡ None → p i ≡ true → find p (range_with_len 0 n) ≡ Some i
found p n i h m e =
    let z : 0 + i ≡ i = omega arith in
    found_at p 0 n i h m (ap p z ∙ e) ∙ ap (λ k. let x : Option ℕ = Some k in x) z

at_head : (p : ℕ → Bool) (b : Bool) (y x : ℕ) (r : Option ℕ) → p y ≡ b → cond b (Some y) r ≡ Some x → (r ≡ Some x → p x ≡ true) → p x ≡ true
at_head p true y x r e h f = let q : x ≡ y = cc in ap p q ∙ e
at_head p false y x r e h f = f h

-- what is found passes
pub find-passes : (p : ℕ → Bool) (xs : List ℕ) (x : ℕ) → find p xs ≡ Some x → p x ≡ true
find-passes p [] x e = cc
find-passes p (y ∷ ys) x e = at_head p (p y) y x (find p ys) refl e (find-passes p ys x)

all_last : (l p : ℕ → Bool) (a b : Bool) (x : ℕ) → l x ≡ a → p x ≡ b → (a && not b) ≡ false → list_all p (cond a (x ∷ []) []) ≡ true
all_last l p true true x e f h = ap (λ c. c && true) f
all_last l p true false x e f h = cc
all_last l p false b x e f h = refl

live_suc : (l p : ℕ → Bool) (n : ℕ) → list_all p (filter l (range_with_len 0 n)) ≡ true → (l n && not (p n)) ≡ false
    → list_all p (filter l (range_with_len 0 (suc n))) ≡ true
live_suc l p n h here =
    let e : 0 + n ≡ n = omega arith in
    ap (λ ts. list_all p (filter l ts)) (range-more 0 n) ∙ (ap (list_all p) (filter-append l (range_with_len 0 n) ((0 + n) ∷ []))
    ∙ (list_all-append p (filter l (range_with_len 0 n)) (filter l ((0 + n) ∷ []))
    ∙ (ap (λ b. b && list_all p (filter l ((0 + n) ∷ []))) h ∙ (ap (λ k. list_all p (filter l (k ∷ []))) e ∙ all_last l p (l n) (p n) n refl refl here))))

-- one more thread that is not live or passes
pub live-more : (l p : ℕ → Bool) (n : ℕ) → list_all p (filter l (range_with_len 0 n)) ≡ true → (l n && not (p n)) ≡ false
    → list_all p (filter l (range_with_len 0 (n + 1))) ≡ true
live-more l p n h here = rw (add-one n) (live_suc l p n h here)

head_fails : (l p : ℕ → Bool) (x : ℕ) (xs : List ℕ) → l x ≡ true → p x ≡ false → list_all p (cond (l x) (x ∷ xs) xs) ≡ false
head_fails l p x xs e f = ap (λ b. list_all p (cond b (x ∷ xs) xs)) e ∙ ap (λ b. b && list_all p xs) f

pub both_false : (b c : Bool) → c ≡ false → (b && c) ≡ false
both_false true c e = e
both_false false c e = refl

tail_fails : (p : ℕ → Bool) (b : Bool) (x : ℕ) (xs : List ℕ) → list_all p xs ≡ false → list_all p (cond b (x ∷ xs) xs) ≡ false
tail_fails p true x xs e = both_false (p x) (list_all p xs) e
tail_fails p false x xs e = e

fails_at : (l p : ℕ → Bool) (a n i : ℕ) → i < n → l (a + i) ≡ true → p (a + i) ≡ false → list_all p (filter l (range_with_len a n)) ≡ false
fails_at l p a zero i h e f = absurd (omega arith)
fails_at l p a (suc n) zero h e f =
    let z : a + 0 ≡ a = omega arith in
    head_fails l p a (filter l (range_with_len (a + 1) n)) (ap l (sym z) ∙ e) (ap p (sym z) ∙ f)
fails_at l p a (suc n) (suc i) h e f =
    let z : a + suc i ≡ a + 1 + i = omega arith in
    tail_fails p (l a) a (filter l (range_with_len (a + 1) n)) (fails_at l p (a + 1) n i (omega arith) (ap l (sym z) ∙ e) (ap p (sym z) ∙ f))

loose : (a b : Bool) → (a && not b) ≡ true → (a ≡ true) × (b ≡ false)
loose true true e = cc
loose true false e = (refl, refl)
loose false b e = cc

-- a live thread that doesn't pass
pub live-fails : (l p : ℕ → Bool) (n i : ℕ) → i < n → (l i && not (p i)) ≡ true → list_all p (filter l (range_with_len 0 n)) ≡ false
live-fails l p n i h e =
    let z : 0 + i ≡ i = omega arith in
    let q = loose (l i) (p i) e in
    fails_at l p 0 n i h (ap l z ∙ q.0) (ap p z ∙ q.1)
