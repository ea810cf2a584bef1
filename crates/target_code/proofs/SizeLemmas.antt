-- How many instructions an expression and a statement have, from those of their parts, one equation for each form.
use Rattle.std.proofs.Common.{◌≡◌, ℕ, ◌+◌, ℤ, List, [], ◌∷◌, refl}
use Rattle.std.specs.Prelude.{Option}
use Rattle.c_tree.specs.declared.lifted.Dest.{Dest}
use Rattle.c_tree.specs.declared.lifted.LExpr.{LExpr}
use Rattle.c_tree.specs.declared.lifted.LExpr.TheVariants as e
use Rattle.c_tree.specs.declared.lifted.LStmt.{LStmt}
use Rattle.c_tree.specs.declared.lifted.LStmt.TheVariants as s
use Rattle.c_tree.specs.declared.op.BinOp.{BinOp}
use Rattle.c_tree.specs.declared.op.UnOp.{UnOp}
use Rattle.c_tree.specs.declared.place.Act.TheVariants.{Do, Test}
use Rattle.target_code.specs.Code.{act_size, stmt_size, block_size, over_block}
use Rattle.target_code.specs.Compute.{target_literals}
use Rattle.target_code.specs.Operands.{bin_size, size}

pub size-Num : (n : ℤ) → size (e.Num n) ≡ 1
unfolding target_literals
size-Num n = refl

pub size-Null : size e.Null ≡ 1
unfolding target_literals
size-Null = refl

pub size-Slot : (k : ℕ) → size (e.Slot k) ≡ 1
unfolding target_literals
size-Slot k = refl

pub size-Global : (g : ℕ) → size (e.Global g) ≡ 1
unfolding target_literals
size-Global g = refl

pub size-Elem : (g : ℕ) (x : LExpr) → size (e.Elem g x) ≡ size x + 1
unfolding target_literals
size-Elem g x = refl

pub size-Field : (p : LExpr) (owner field : ℕ) → size (e.Field p owner field) ≡ size p + 1
unfolding target_literals
size-Field p owner field = refl

pub size-Own : (k : ℕ) → size (e.Own k) ≡ 1
unfolding target_literals
size-Own k = refl

pub size-Un : (op : UnOp) (a : LExpr) → size (e.Un op a) ≡ size a + 1
unfolding target_literals
size-Un op a = refl

pub size-Bin : (op : BinOp) (a b : LExpr) → size (e.Bin op a b) ≡ bin_size op (size a) (size b)
unfolding target_literals
size-Bin op a b = refl

pub ruleset size_rules = (size-Num, size-Null, size-Slot, size-Global, size-Elem, size-Field, size-Own, size-Un, size-Bin)

pub block_size-nil : block_size [] ≡ 0
unfolding target_literals
block_size-nil = refl

pub block_size-cons : (x : LStmt) (rest : List LStmt) → block_size (x ∷ rest) ≡ stmt_size x + block_size rest
unfolding target_literals
block_size-cons x rest = refl

pub over_block-nil : over_block [] ≡ 0
unfolding target_literals
over_block-nil = refl

pub over_block-cons : (x : LStmt) (rest : List LStmt) → over_block (x ∷ rest) ≡ 1
unfolding target_literals
over_block-cons x rest = refl

pub stmt_size-Assign : (to : Dest) (e : LExpr) → stmt_size (s.Assign to e) ≡ act_size (Do (s.Assign to e))
unfolding target_literals
stmt_size-Assign to e = refl

pub stmt_size-New : (slot owner : ℕ) → stmt_size (s.New slot owner) ≡ act_size (Do (s.New slot owner))
unfolding target_literals
stmt_size-New slot owner = refl

pub stmt_size-Getc : (slot : ℕ) → stmt_size (s.Getc slot) ≡ act_size (Do (s.Getc slot))
unfolding target_literals
stmt_size-Getc slot = refl

pub stmt_size-Print : (text : List ℕ) (args : List LExpr) → stmt_size (s.Print text args) ≡ act_size (Do (s.Print text args))
unfolding target_literals
stmt_size-Print text args = refl

pub stmt_size-Free : (e : LExpr) → stmt_size (s.Free e) ≡ act_size (Do (s.Free e))
unfolding target_literals
stmt_size-Free e = refl

pub stmt_size-Call : (to : Option ℕ) (f : ℕ) (args : List LExpr) → stmt_size (s.Call to f args) ≡ act_size (Do (s.Call to f args))
unfolding target_literals
stmt_size-Call to f args = refl

pub stmt_size-Spawn : (to : Dest) (f : ℕ) (e : LExpr) → stmt_size (s.Spawn to f e) ≡ act_size (Do (s.Spawn to f e))
unfolding target_literals
stmt_size-Spawn to f e = refl

pub stmt_size-Join : (e : LExpr) → stmt_size (s.Join e) ≡ act_size (Do (s.Join e))
unfolding target_literals
stmt_size-Join e = refl

pub stmt_size-Lock : (m : ℕ) → stmt_size (s.Lock m) ≡ act_size (Do (s.Lock m))
unfolding target_literals
stmt_size-Lock m = refl

pub stmt_size-Unlock : (m : ℕ) → stmt_size (s.Unlock m) ≡ act_size (Do (s.Unlock m))
unfolding target_literals
stmt_size-Unlock m = refl

pub stmt_size-Return : (value : Option LExpr) → stmt_size (s.Return value) ≡ act_size (Do (s.Return value))
unfolding target_literals
stmt_size-Return value = refl

pub stmt_size-If : (e : LExpr) (a b : List LStmt) → stmt_size (s.If e a b) ≡ act_size (Test e) + (1 + (block_size a + (over_block b + block_size b)))
unfolding target_literals
stmt_size-If e a b = refl

pub stmt_size-Loop : (c : List LStmt) (e : LExpr) (b d : List LStmt) → stmt_size (s.Loop c e b d) ≡ block_size c + (act_size (Test e) + (1 + (block_size b + (block_size d + 3))))
unfolding target_literals
stmt_size-Loop c e b d = refl

pub stmt_size-Break : stmt_size s.Break ≡ 1
unfolding target_literals
stmt_size-Break = refl

pub stmt_size-Continue : stmt_size s.Continue ≡ 1
unfolding target_literals
stmt_size-Continue = refl

pub ruleset stmt_size_rules = (block_size-nil, block_size-cons, over_block-nil, over_block-cons, stmt_size-Assign, stmt_size-New, stmt_size-Getc, stmt_size-Print, stmt_size-Free, stmt_size-Call, stmt_size-Spawn, stmt_size-Join, stmt_size-Lock, stmt_size-Unlock, stmt_size-Return, stmt_size-If, stmt_size-Loop, stmt_size-Break, stmt_size-Continue)
