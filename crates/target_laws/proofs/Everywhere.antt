-- What is so of each instruction of a code, at its position.
use Rattle.std.proofs.Common.{◌≡◌, ℕ, zero, suc, ◌+◌, List, [], ◌∷◌, ◌++◌, length, Option, Some, None, refl, subst, arith}
use Rattle.std.specs.Prelude.{slice_get}
use Rattle.std.proofs.lemmas.Option.{slice_get_within}
use Rattle.target_code.specs.declared.instr.Instr.{Instr}

-- each of these instructions has the property at its position, the first at this one
abbrev pub AllAt : (ℕ → Instr → Type 0) → ℕ → List Instr → Type 0
AllAt P at [] = Unit {0}
AllAt P at (x ∷ rest) = P at x × AllAt P (at + 1) rest

pub both : (P : ℕ → Instr → Type 0) (at n : ℕ) (a b : List Instr) → length a ≡ n → AllAt P at a → AllAt P (at + n) b → AllAt P at (a ++ b)
both P at n [] b e h k = let f : at + n ≡ at = omega (arith, e) in subst (λ j. AllAt P j b) f k
both P at n (x ∷ a) b e h k =
    let f : at + n ≡ at + 1 + length a = omega (arith, e) in
    (h.0, both P (at + 1) (length a) a b refl h.1 (subst (λ j. AllAt P j b) f k))

abbrev PropertyOf : (ℕ → Instr → Type 0) → ℕ → Option Instr → Type 0
PropertyOf P at None = Unit {0}
PropertyOf P at (Some x) = P at x

one_of : (P : ℕ → Instr → Type 0) (from k : ℕ) (is : List Instr) (x : Instr) → AllAt P from is → slice_get is k ≡ Some x → P (from + k) x
one_of P from k [] x h e = absurd (let l = slice_get_within [] k x e in omega (arith, l))
one_of P from zero (y ∷ is) x h e =
    let z : from ≡ from + 0 = omega arith in subst (λ n. P n x) z (subst (λ o. PropertyOf P from o) e h.0)
one_of P from (suc k) (y ∷ is) x h e =
    let z : from + 1 + k ≡ from + suc k = omega arith in subst (λ n. P n x) z (one_of P (from + 1) k is x h.1 e)

-- what is so of all instructions of a code is so of the one at a position
pub everywhere_at : (P : ℕ → Instr → Type 0) (at : ℕ) (is : List Instr) (x : Instr) → AllAt P 0 is → slice_get is at ≡ Some x → P at x
everywhere_at P at is x h e = let z : 0 + at ≡ at = omega arith in subst (λ n. P n x) z (one_of P 0 at is x h e)
