-- The names of slots, one function's after the other's.
use Rattle.std.proofs.Common.{◌≡◌, ℕ, ◌+◌, ◌<◌, zero, suc, List, [], ◌∷◌, ◌++◌, length, refl, ap, arith}
use Rattle.c_tree.specs.declared.lifted.Slot.{Slot}
use Rattle.c_tree.specs.Names.{slot_name}

-- a slot of the first ones
pub slot_name-first : (xs ys : List Slot) (i : ℕ) → i < length xs → slot_name (xs ++ ys) i ≡ slot_name xs i
slot_name-first [] ys i h = absurd (omega arith)
slot_name-first (x ∷ xs) ys zero h = refl
slot_name-first (x ∷ xs) ys (suc i) h = slot_name-first xs ys i (omega arith)

-- a slot of those behind them
pub slot_name-behind : (xs ys : List Slot) (i n : ℕ) → i ≡ length xs + n → slot_name (xs ++ ys) i ≡ slot_name ys n
slot_name-behind [] ys i n e = ap (λ m. slot_name ys m) (let s : i ≡ n = omega arith in s)
slot_name-behind (x ∷ xs) ys zero n e = absurd (omega arith)
slot_name-behind (x ∷ xs) ys (suc i) n e = slot_name-behind xs ys i n (omega arith)
