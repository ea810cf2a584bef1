-- Numbers that are spelled, up to a limit.
use Rattle.std.proofs.Common.{◌≡◌, ℕ, ◌+◌, ◌*◌, ◌<◌, ◌≤◌, min, List, length, take, get_or, refl, sym, ap, ◌∙◌, ⊎_elim, arith}
use Rattle.std.proofs.Math.Nat.{mul-le-mul_left}
use Rattle.std.proofs.lemmas.Bool.{cases_lt}
use Rattle.std.proofs.lemmas.List.Sums.{fold_more}
use Rattle.std.proofs.lemmas.List.{take_all}
use Rattle.c_tokens.specs.Literal.{digit_of, number_of}

-- what was spelled so far, up to 2147483648
abbrev pub Counted : ℕ → ℕ → List ℕ → ℕ → Type 0
Counted number base digits i = number ≡ min (number_of base (take i digits)) 2147483648

pub product_within : (base number : ℕ) → base ≤ 16 → number ≤ 2147483648 → base * number ≤ 34359738368
product_within base number small within = omega (arith, mul-le-mul_left base within)

capped : (base n d : ℕ) → 0 < base → min (base * min n 2147483648 + d) 2147483648 ≡ min (base * n + d) 2147483648
capped base n d positive =
    ⊎_elim
    (λ (below : n < 2147483648). let e : min n 2147483648 ≡ n = omega arith in rw e refl)
    (λ (above : 2147483648 ≤ n). let e : min n 2147483648 ≡ 2147483648 = omega arith in rw e (omega (arith, mul-le-mul_left base above)))
    (cases_lt n 2147483648)

pub number_more : (number base i next : ℕ) (digits : List ℕ) → 0 < base → i < length digits → next ≡ min (base * number + digit_of (get_or digits i 0)) 2147483648 → Counted number base digits i → Counted next base digits (i + 1)
number_more number base i next digits positive lt next_is so_far =
    rw (next_is, so_far) (capped base (number_of base (take i digits)) (digit_of (get_or digits i 0)) positive
    ∙ ap (λ n. min n 2147483648) (sym (fold_more (λ n b. base * n + digit_of b) 0 digits i 0 lt)))

pub number_all : (number base i : ℕ) (digits : List ℕ) → length digits ≤ i → Counted number base digits i → number ≡ min (number_of base digits) 2147483648
number_all number base i digits le so_far = so_far ∙ ap (λ xs. min (number_of base xs) 2147483648) (take_all i digits le)
