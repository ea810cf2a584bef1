-- What fills new slots and fields, and its value.
--
-- It is always an expression over the old state: the declared one, else the old slot or field of the same name and image
-- type, else 0.
use Rattle.std.specs.Prelude.{ℕ, ◌+◌, ℤ, pos, ◌&&◌, List, [], ◌∷◌, Option, Some, None, Result, Ok, Err}
use Rattle.std.specs.List.{position_from}
use Rattle.c_tree.specs.declared.lifted.LExpr.{LExpr}
use Rattle.c_tree.specs.declared.lifted.LExpr.TheVariants as l
use Rattle.c_tree.specs.declared.lifted.Slot.{Slot}
use Rattle.c_tree.specs.declared.state.Trap.{Trap}
use Rattle.c_tree.specs.declared.state.Trap.TheVariants as trap
use Rattle.c_tree.specs.declared.event.Reason.{Reason}
use Rattle.c_tree.specs.Value.{View, value}
use Rattle.c_tree.specs.Scope.{is_same_name}
use Rattle.c_tree.specs.Refusal.{onward}
use Rattle.c_tree.specs.Link.{Link, is_image}

-- the old slot or field of the same name and image type
abbrev pub carried : Link → List Slot → Slot → Option ℕ
carried k olds x = position_from (λ o. is_same_name o.name x.name && is_image k o.ty x.ty) 0 olds

-- the declared expression, else the old slot or field, else 0
abbrev pub filling : Option LExpr → Option LExpr → LExpr
filling (Some declared) old = declared
filling None (Some old) = old
filling None None = l.Num (pos 0)

-- the number of a trap in a reason
abbrev pub code : Trap → ℕ
code trap.Divide = 1
code trap.Shift = 2
code trap.Null = 3
code trap.Freed = 4
code trap.Struct = 5
code trap.Bounds = 6
code _ = 0

-- a value, or the reason that its trap makes
abbrev pub with_reason : {A : Type 0} → (ℕ → Reason) → Result A Trap → Result A Reason
with_reason why (Ok x) = Ok x
with_reason why (Err t) = Err (why (code t))

-- the values of fillings, or the reason of the first that traps; the first filling has number i
abbrev pub filled : View → (ℕ → ℕ → Reason) → ℕ → List LExpr → Result (List ℤ) Reason
filled x because i [] = Ok []
filled x because i (e ∷ rest) =
    onward (with_reason (because i) (value x e)) (λ v. onward (filled x because (i + 1) rest) (λ vs. Ok (v ∷ vs)))
