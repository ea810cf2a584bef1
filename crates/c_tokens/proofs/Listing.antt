-- The tokens one after the other.
use Rattle.std.proofs.Common.{◌≡◌, ℕ, zero, suc, ◌+◌, ◌-◌, ◌<◌, ◌≤◌, List, [], ◌∷◌, length, drop, refl, ap, arith}
use Rattle.c_tokens.specs.Front.{size_of, front_of}
use Rattle.c_tokens.specs.Tokens.{added, before, tokens_from}
use Rattle.c_tokens.proofs.Sizes.{Fits, front_fits}

skipped : (at n : ℕ) (bytes : List ℕ) → tokens_from at n bytes ≡ tokens_from (at + n) 0 (drop n bytes)
unfolding tokens_from
skipped at zero bytes = let e : at + 0 ≡ at = omega arith in rw e refl
skipped at (suc n) [] = refl
skipped at (suc n) (b ∷ rest) = let e : at + suc n ≡ at + 1 + n = omega arith in rw e (skipped (at + 1) n rest)

skipped_one : (at n b : ℕ) (rest : List ℕ) → 1 ≤ n → tokens_from (at + 1) (n - 1) rest ≡ tokens_from (at + n) 0 (drop n (b ∷ rest))
skipped_one at zero b rest some = absurd (omega arith)
skipped_one at (suc n) b rest some =
    let less : suc n - 1 ≡ n = omega arith in
    let e : at + suc n ≡ at + 1 + n = omega arith in
    rw (less, e) (skipped (at + 1) n rest)

-- what stands at the front comes first, and then what follows it
pub tokens_step : (at : ℕ) (bytes : List ℕ) → 0 < length bytes
    → tokens_from at 0 bytes ≡ before (added at (front_of bytes)) (tokens_from (at + size_of (front_of bytes)) 0 (drop (size_of (front_of bytes)) bytes))
unfolding tokens_from
tokens_step at [] some = absurd (omega arith)
tokens_step at (b ∷ rest) some = ap (before (added at (front_of (b ∷ rest)))) (skipped_one at (size_of (front_of (b ∷ rest))) b rest (front_fits b rest).some)

pub size_within : (bytes : List ℕ) → 0 < length bytes → Fits (size_of (front_of bytes)) (length bytes)
size_within [] some = absurd (omega arith)
size_within (b ∷ rest) some = front_fits b rest
