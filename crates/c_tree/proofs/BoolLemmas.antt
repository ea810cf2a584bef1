-- Tests of two parts, and equal numbers.
use Rattle.std.proofs.Common.{◌≡◌, ℕ, Bool, true, false, not, ◌&&◌, ◌||◌, ◌==◌, refl, ap, ◌∙◌, arith}
use Rattle.std.proofs.lemmas.Bool.Decides.{nat_tests}

pub true_false : true ≡ false → ⊥
true_false h = cc

pub and_first : (a b : Bool) → (a && b) ≡ true → a ≡ true
and_first true b h = refl
and_first false b h = cc

pub and_last : (a b : Bool) → (a && b) ≡ true → b ≡ true
and_last true b h = h
and_last false b h = cc

pub and_both : (a b : Bool) → a ≡ true → b ≡ true → (a && b) ≡ true
and_both true true h i = refl
and_both false b h i = cc
and_both true false h i = cc

pub first_false : (a b : Bool) → a ≡ false → (a && b) ≡ false
first_false true b h = cc
first_false false b h = refl

pub last_false : (a b : Bool) → b ≡ false → (a && b) ≡ false
last_false true b h = h
last_false false b h = refl

pub not_true : (b : Bool) → not b ≡ true → b ≡ false
not_true true h = cc
not_true false h = refl

-- a test that cannot hold fails
pub by_test : (b : Bool) → (b ≡ true → ⊥) → b ≡ false
by_test true f = absurd (f refl)
by_test false f = refl

pub or_first : (a b : Bool) → (a || b) ≡ false → a ≡ false
or_first true b h = h
or_first false b h = refl

pub or_second : (a b : Bool) → (a || b) ≡ false → b ≡ false
or_second true b h = cc
or_second false b h = h

pub or_here : (a b : Bool) → a ≡ true → (a || b) ≡ true
or_here true b h = refl
or_here false b h = cc

pub or_there : (a b : Bool) → b ≡ true → (a || b) ≡ true
or_there true b h = refl
or_there false b h = h

pub same_number : (n : ℕ) → (n == n) ≡ true
same_number n = grind (arith, nat_tests)

pub number_is : (n m : ℕ) → (n == m) ≡ true → n ≡ m
number_is n m h = grind (arith, nat_tests)

-- a second part counts only where the first holds
pub and_same : (s t u v : Bool) → s ≡ t → (s ≡ true → u ≡ v) → (s && u) ≡ (t && v)
and_same true t u v e f = f refl ∙ ap (λ z. z && v) e
and_same false t u v e f = ap (λ z. z && v) e
