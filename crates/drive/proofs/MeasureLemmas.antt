-- How the numbers that aren't parked become fewer.
use Rattle.std.proofs.Common.{◌≡◌, ℕ, zero, suc, ◌+◌, ◌<◌, ◌≤◌, Bool, true, false, not, ◌||◌, ◌==◌, refl, List, [], ◌∷◌, length, ap, sym, ◌∙◌, arith}
use Rattle.std.specs.Prelude.{filter, cond}
use Rattle.std.specs.List.{list_any, range_with_len}
use Rattle.std.proofs.lemmas.Bool.Decides.{nat_tests}
use Rattle.c_tree.specs.Run.{without}
use Rattle.drive.specs.Measure.{missing}

at_most_one : (b : Bool) (x : ℕ) (f : List ℕ) (n : ℕ) → length f ≤ n → length (cond b (x ∷ f) f) ≤ suc n
at_most_one true x f n h = omega (arith, h)
at_most_one false x f n h = omega (arith, h)

filter_at_most : (p : ℕ → Bool) (a n : ℕ) → length (filter p (range_with_len a n)) ≤ n
filter_at_most p a zero = omega arith
filter_at_most p a (suc n) = at_most_one (p a) a (filter p (range_with_len (a + 1) n)) n (filter_at_most p (a + 1) n)

pub missing-bound : (n : ℕ) (ps : List ℕ) → missing n ps ≤ n
unfolding missing
missing-bound n ps = filter_at_most (λ t. not (list_any (λ u. u == t) ps)) 0 n

fewer_cons : (b c : Bool) (x : ℕ) (f g : List ℕ) → (c ≡ true → b ≡ true) → length g ≤ length f → length (cond c (x ∷ g) g) ≤ length (cond b (x ∷ f) f)
fewer_cons true true x f g h l = omega (arith, l)
fewer_cons true false x f g h l = omega (arith, l)
fewer_cons false false x f g h l = l
fewer_cons false true x f g h l = let e : false ≡ true = h refl in cc

fewer : (p q : ℕ → Bool) (xs : List ℕ) → ((t : ℕ) → q t ≡ true → p t ≡ true) → length (filter q xs) ≤ length (filter p xs)
fewer p q [] h = omega arith
fewer p q (x ∷ xs) h = fewer_cons (p x) (q x) x (filter p xs) (filter q xs) (h x) (fewer p q xs h)

less_cons : (b c : Bool) (x : ℕ) (f g : List ℕ) → (c ≡ true → b ≡ true) → length g < length f → length (cond c (x ∷ g) g) < length (cond b (x ∷ f) f)
less_cons true true x f g h l = omega (arith, l)
less_cons true false x f g h l = omega (arith, l)
less_cons false false x f g h l = l
less_cons false true x f g h l = let e : false ≡ true = h refl in cc

less_here : (b c : Bool) (x : ℕ) (f g : List ℕ) → b ≡ true → c ≡ false → length g ≤ length f → length (cond c (x ∷ g) g) < length (cond b (x ∷ f) f)
less_here true false x f g h i l = omega (arith, l)
less_here true true x f g h i l = cc
less_here false c x f g h i l = cc

less : (p q : ℕ → Bool) (a n i : ℕ) → i < n → ((t : ℕ) → q t ≡ true → p t ≡ true) → p (a + i) ≡ true → q (a + i) ≡ false
    → length (filter q (range_with_len a n)) < length (filter p (range_with_len a n))
less p q a zero i l h y z = absurd (omega (arith, l))
less p q a (suc n) zero l h y z =
    let e : a + 0 ≡ a = omega arith in
    less_here (p a) (q a) a (filter p (range_with_len (a + 1) n)) (filter q (range_with_len (a + 1) n)) (ap p (sym e) ∙ y) (ap q (sym e) ∙ z) (fewer p q (range_with_len (a + 1) n) h)
less p q a (suc n) (suc i) l h y z =
    let e : a + suc i ≡ a + 1 + i = omega arith in
    less_cons (p a) (q a) a (filter p (range_with_len (a + 1) n)) (filter q (range_with_len (a + 1) n)) (h a)
    (less p q (a + 1) n i (omega (arith, l)) h (ap p (sym e) ∙ y) (ap q (sym e) ∙ z))

not_or : (a b : Bool) → not (a || b) ≡ true → not b ≡ true
not_or true b h = cc
not_or false b h = h

same_number : (t : ℕ) → (t == t) ≡ true
same_number t = grind (arith, nat_tests)

or_here : (a b : Bool) → a ≡ true → not (a || b) ≡ false
or_here true b h = refl
or_here false b h = cc

-- a number that is listed beside is no longer missing
pub missing-less : (n t : ℕ) (ps : List ℕ) → t < n → list_any (λ u. u == t) ps ≡ false → missing n (t ∷ ps) < missing n ps
unfolding missing
missing-less n t ps l h =
    let e : 0 + t ≡ t = omega arith in
    less (λ v. not (list_any (λ u. u == v) ps)) (λ v. not (list_any (λ u. u == v) (t ∷ ps))) 0 n t l
    (λ v. not_or (t == v) (list_any (λ u. u == v) ps))
    (ap (λ v. not (list_any (λ u. u == v) ps)) e ∙ ap not h)
    (or_here (t == (0 + t)) (list_any (λ u. u == (0 + t)) ps) (ap (λ v. t == v) e ∙ same_number t))

without_cons : (b c : Bool) (x : ℕ) (f xs : List ℕ) → (b || c) ≡ true → (c ≡ true → length f < length xs) → length f ≤ length xs → length (cond (not b) (x ∷ f) f) < suc (length xs)
without_cons true c x f xs h l m = omega (arith, m)
without_cons false true x f xs h l m = let k : length f < length xs = l refl in omega (arith, k)
without_cons false false x f xs h l m = cc

without_most : (t : ℕ) (xs : List ℕ) → length (without t xs) ≤ length xs
without_most t [] = omega arith
without_most t (x ∷ xs) = at_most_one (not (x == t)) x (without t xs) (length xs) (without_most t xs)

-- without one that is listed there are fewer
pub without-less : (t : ℕ) (xs : List ℕ) → list_any (λ u. u == t) xs ≡ true → length (without t xs) < length xs
without-less t [] h = cc
without-less t (x ∷ xs) h = without_cons (x == t) (list_any (λ u. u == t) xs) x (without t xs) xs h (without-less t xs) (without_most t xs)
