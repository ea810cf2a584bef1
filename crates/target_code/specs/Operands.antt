-- The code of expressions and destinations: what puts their values on the operands.
use Rattle.std.specs.Prelude.{ℕ, ◌+◌, pos, List, [], ◌∷◌, ◌++◌}
use Rattle.c_tree.specs.declared.lifted.Dest.{Dest}
use Rattle.c_tree.specs.declared.lifted.Dest.TheVariants as d
use Rattle.c_tree.specs.declared.lifted.LExpr.{LExpr, more_of-LExpr as only}
use Rattle.c_tree.specs.declared.lifted.LExpr.TheVariants as e
use Rattle.c_tree.specs.declared.op.BinOp.{BinOp}
use Rattle.c_tree.specs.declared.op.BinOp.TheVariants as bin
use Rattle.c_tree.specs.declared.op.UnOp.TheVariants as un
use Rattle.target_code.specs.declared.instr.Instr.{Instr}
use Rattle.target_code.specs.declared.instr.Instr.TheVariants as i

-- how many instructions an operator has, whose sides have x and y
abbrev pub bin_size : BinOp → ℕ → ℕ → ℕ
bin_size bin.And x y = x + (1 + (y + 4))
bin_size bin.Or x y = x + (3 + (y + 2))
bin_size _ x y = x + (y + 1)

-- how many instructions an expression has
unfoldable pub size : LExpr → ℕ
size (e.Elem' g _ (only x _)) = size x + 1
size (e.Field' _ (only p _) owner field) = size p + 1
size (e.Un' op _ (only a _)) = size a + 1
size (e.Bin' op _ (only a _) _ (only b _)) = bin_size op (size a) (size b)
size _ = 1

-- an operator at a position, whose sides have x and y instructions:
-- these are the left one's, and the right one's from a position on
abbrev pub bin_code : BinOp → ℕ → ℕ → ℕ → List Instr → (ℕ → List Instr) → List Instr
bin_code bin.And at x y a b =
    a
    ++ (i.Jz (at + x + 1 + y + 3)
    ∷ (b (at + x + 1)
    ++ i.Un un.Not ∷ i.Un un.Not ∷ i.Jump (at + x + 1 + y + 4) ∷ i.Const (pos 0) ∷ []))
bin_code bin.Or at x y a b =
    a
    ++ (i.Jz (at + x + 3)
    ∷ i.Const (pos 1)
    ∷ i.Jump (at + x + 3 + y + 2)
    ∷ (b (at + x + 3) ++ i.Un un.Not ∷ i.Un un.Not ∷ []))
bin_code op at x y a b = a ++ (b (at + x) ++ i.Bin op ∷ [])

-- the instructions of an expression that begins at a position: they push its value
unfoldable pub expr_code : ℕ → LExpr → List Instr
expr_code at (e.Num n) = i.Const n ∷ []
expr_code at e.Null = i.Const (pos 0) ∷ []
expr_code at (e.Slot k) = i.Get k ∷ []
expr_code at (e.Global g) = i.Gget g ∷ []
expr_code at (e.Elem' g _ (only x _)) = expr_code at x ++ i.Aget g ∷ []
expr_code at (e.Field' _ (only p _) owner field) = expr_code at p ++ i.Fget owner field ∷ []
expr_code at (e.Own k) = i.Const (pos 0) ∷ []
expr_code at (e.Un' op _ (only a _)) = expr_code at a ++ i.Un op ∷ []
expr_code at (e.Bin' op _ (only a _) _ (only b _)) =
    bin_code op at (size a) (size b) (expr_code at a) (λ from. expr_code from b)

-- how many instructions arguments have
abbrev pub sizes : List LExpr → ℕ
sizes [] = 0
sizes (x ∷ rest) = size x + sizes rest

-- the instructions of arguments that begin at a position, the first argument first
abbrev pub args_code : ℕ → List LExpr → List Instr
args_code at [] = []
args_code at (x ∷ rest) = expr_code at x ++ args_code (at + size x) rest

-- how many instructions the operands of a destination have
abbrev pub dest_size : Dest → ℕ
dest_size (d.Slot k) = 0
dest_size (d.Global g) = 0
dest_size (d.Elem g x) = size x
dest_size (d.Field p owner field) = size p

-- the instructions of a destination's operands: the index, or the object
abbrev pub dest_code : ℕ → Dest → List Instr
dest_code at (d.Slot k) = []
dest_code at (d.Global g) = []
dest_code at (d.Elem g x) = expr_code at x
dest_code at (d.Field p owner field) = expr_code at p

-- the instruction that stores in a destination
abbrev pub store_instr : Dest → Instr
store_instr (d.Slot k) = i.Set k
store_instr (d.Global g) = i.Gset g
store_instr (d.Elem g x) = i.Aset g
store_instr (d.Field p owner field) = i.Fset owner field
