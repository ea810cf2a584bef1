-- The first of a list that passes is the longest, where the list goes down and is complete.
use Rattle.std.proofs.Common.{◌≡◌, ℕ, zero, suc, ◌<◌, ◌≤◌, Bool, true, false, List, [], ◌∷◌, length, refl, sym, subst, ⊎_elim, arith}
use Rattle.std.specs.Prelude.{Some, ◌&&◌, ◌||◌, ◌==◌, nat_eq, nat_le, if◌then◌else◌, find}
use Rattle.std.specs.List.{list_all, list_any, starts_with}
use Rattle.std.proofs.lemmas.Bool.{cases_lt}
use Rattle.std.proofs.lemmas.Bool.Decides.{nat_tests}
use Rattle.c_tokens.specs.Operator.{operator, longest_first}
use Rattle.c_tokens.specs.Order.{TakesLongest}
use Rattle.c_tokens.proofs.Sizes.{both}

descending : (ℕ → ℕ) → List ℕ → Bool
descending len [] = true
descending len (x ∷ xs) = list_all (λ y. nat_le (len y) (len x)) xs && descending len xs

has : ℕ → List ℕ → Bool
has y xs = list_any (λ k. k == y) xs

same : (k y : ℕ) → (k == y) ≡ true → k ≡ y
same k y is = grind (arith, nat_tests)

either : (q : ℕ → Bool) (k y : ℕ) (test more : Bool) → (k == y) ≡ test → (test || more) ≡ true → q k ≡ true → (more ≡ true → q y ≡ true) → q y ≡ true
either q k y true more is found here later = subst (λ x. q x ≡ true) (same k y is) here
either q k y false more is found here later = later found

all_at : (q : ℕ → Bool) (xs : List ℕ) (y : ℕ) → list_all q xs ≡ true → has y xs ≡ true → q y ≡ true
unfolding has
all_at q [] y all found = cc
all_at q (k ∷ xs) y all found =
    let parts = both (q k) (list_all q xs) all in
    either q k y (k == y) (list_any (λ j. j == y) xs) refl found parts.0 (λ later. all_at q xs y parts.1 later)

step : (p : ℕ → Bool) (len : ℕ → ℕ) (k x y : ℕ) (xs : List ℕ) (test here : Bool) → p k ≡ test → (k == y) ≡ here → list_all (λ j. nat_le (len j) (len k)) xs ≡ true
    → (if test then Some k else find p xs) ≡ Some x → (here || has y xs) ≡ true → p y ≡ true → (find p xs ≡ Some x → has y xs ≡ true → len y ≤ len x) → len y ≤ len x
step p len k x y xs true true passes is all found among py later = let e : k ≡ x = cc in let f = same k y is in subst (λ n. len n ≤ len x) f (subst (λ n. len k ≤ len n) e (omega arith))
step p len k x y xs true false passes is all found among py later =
    let e : k ≡ x = cc in
    let le : nat_le (len y) (len k) ≡ true = all_at (λ j. nat_le (len j) (len k)) xs y all among in
    subst (λ n. len y ≤ len n) e (grind (arith, nat_tests))
step p len k x y xs false true passes is all found among py later = let f = same k y is in let e : p k ≡ true = subst (λ n. p n ≡ true) (sym f) py in cc
step p len k x y xs false false passes is all found among py later = later found among

find_longest : (p : ℕ → Bool) (len : ℕ → ℕ) (xs : List ℕ) (x y : ℕ) → descending len xs ≡ true → find p xs ≡ Some x → has y xs ≡ true → p y ≡ true → len y ≤ len x
unfolding descending has
find_longest p len [] x y down found among py = cc
find_longest p len (k ∷ xs) x y down found among py =
    let parts = both (list_all (λ j. nat_le (len j) (len k)) xs) (descending len xs) down in
    step p len k x y xs (p k) (k == y) refl refl parts.0 found among py (λ found' among'. find_longest p len xs x y parts.1 found' among' py)

all_below : ℕ → (ℕ → Bool) → Bool
all_below zero q = true
all_below (suc n) q = q n && all_below n q

below_at : (n : ℕ) (q : ℕ → Bool) (y : ℕ) → all_below n q ≡ true → y < n → q y ≡ true
unfolding all_below
below_at zero q y all lt = absurd (omega arith)
below_at (suc n) q y all lt =
    let parts = both (q n) (all_below n q) all in
    ⊎_elim
    (λ (below : y < n). below_at n q y parts.1 below)
    (λ (above : n ≤ y). let e : n ≡ y = omega arith in subst (λ k. q k ≡ true) e parts.0)
    (cases_lt y n)

down : descending (λ k. length (operator k)) longest_first ≡ true
unfolding descending
down = refl

complete : all_below 45 (λ y. has y longest_first) ≡ true
unfolding all_below has
complete = refl

pub takes_longest : TakesLongest
takes_longest bytes place other is lt begins =
    find_longest (λ k. starts_with nat_eq bytes (operator k)) (λ k. length (operator k)) longest_first place other down is (below_at 45 (λ y. has y longest_first) other complete lt) begins
