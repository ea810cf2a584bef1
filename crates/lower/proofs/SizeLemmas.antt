-- The sizes of expressions as they are added up.
use Rattle.std.proofs.Common.{◌≡◌, ℕ, ◌+◌, ◌≤◌, ◌∙◌, arith}
use Rattle.c_tree.specs.declared.lifted.LExpr.{LExpr}
use Rattle.c_tree.specs.declared.lifted.LExpr.TheVariants as e
use Rattle.c_tree.specs.declared.op.BinOp.{BinOp}
use Rattle.c_tree.specs.declared.op.BinOp.TheVariants as bin
use Rattle.target_code.specs.Operands.{bin_size, size}
use Rattle.target_code.proofs.SizeLemmas.{size-Num, size-Null, size-Slot, size-Global, size-Elem, size-Field, size-Own, size-Un, size-Bin}

-- an operator has the same instructions of its own beside any sides
pub own-size : (op : BinOp) (x y : ℕ) → bin_size op x y ≡ x + y + bin_size op 0 0
own-size bin.And x y = omega arith
own-size bin.Or x y = omega arith
own-size bin.Add x y = omega arith
own-size bin.Sub x y = omega arith
own-size bin.Mul x y = omega arith
own-size bin.Div x y = omega arith
own-size bin.Rem x y = omega arith
own-size bin.Eq x y = omega arith
own-size bin.Ne x y = omega arith
own-size bin.Lt x y = omega arith
own-size bin.Le x y = omega arith
own-size bin.Gt x y = omega arith
own-size bin.Ge x y = omega arith
own-size bin.Shl x y = omega arith
own-size bin.Shr x y = omega arith
own-size bin.BitAnd x y = omega arith
own-size bin.BitXor x y = omega arith
own-size bin.BitOr x y = omega arith

pub own-some : (op : BinOp) → 1 ≤ bin_size op 0 0
own-some bin.And = omega arith
own-some bin.Or = omega arith
own-some bin.Add = omega arith
own-some bin.Sub = omega arith
own-some bin.Mul = omega arith
own-some bin.Div = omega arith
own-some bin.Rem = omega arith
own-some bin.Eq = omega arith
own-some bin.Ne = omega arith
own-some bin.Lt = omega arith
own-some bin.Le = omega arith
own-some bin.Gt = omega arith
own-some bin.Ge = omega arith
own-some bin.Shl = omega arith
own-some bin.Shr = omega arith
own-some bin.BitAnd = omega arith
own-some bin.BitXor = omega arith
own-some bin.BitOr = omega arith

pub sized-Bin : (op : BinOp) (a b : LExpr) → size (e.Bin op a b) ≡ size a + size b + bin_size op 0 0
sized-Bin op a b = size-Bin op a b ∙ own-size op (size a) (size b)

pub ruleset expr_rules = (size-Num, size-Null, size-Slot, size-Global, size-Elem, size-Field, size-Own, size-Un, sized-Bin)
