-- Places counted from further on.
use Rattle.std.proofs.Common.{◌≡◌, ℕ, ◌+◌, refl, ap, arith}
use Rattle.std.specs.Prelude.{Option, Some, None, option_map}

abbrev pub shifted : ℕ → Option ℕ → Option ℕ
shifted i o = option_map (λ n. i + n) o

pub shifted_more : (i : ℕ) (o : Option ℕ) → shifted i (option_map (λ n. 1 + n) o) ≡ shifted (i + 1) o
shifted_more i None = refl
shifted_more i (Some n) = let e : i + (1 + n) ≡ i + 1 + n = omega arith in ap (λ k. Some k) e

pub shifted_none : (o : Option ℕ) → shifted 0 o ≡ o
shifted_none None = refl
shifted_none (Some n) = let e : 0 + n ≡ n = omega arith in ap (λ k. Some k) e
