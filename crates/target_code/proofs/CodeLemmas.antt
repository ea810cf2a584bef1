-- The code of an expression and of a statement from those of their parts, one equation for each form.
use Rattle.std.proofs.Common.{◌≡◌, ℕ, ◌+◌, ℤ, List, [], ◌∷◌, ◌++◌, refl}
use Rattle.std.specs.Prelude.{pos, Option}
use Rattle.c_tree.specs.declared.lifted.Dest.{Dest}
use Rattle.c_tree.specs.declared.lifted.LExpr.{LExpr}
use Rattle.c_tree.specs.declared.lifted.LExpr.TheVariants as e
use Rattle.c_tree.specs.declared.lifted.LStmt.{LStmt}
use Rattle.c_tree.specs.declared.lifted.LStmt.TheVariants as s
use Rattle.c_tree.specs.declared.op.BinOp.{BinOp}
use Rattle.c_tree.specs.declared.op.UnOp.{UnOp}
use Rattle.c_tree.specs.declared.place.Act.TheVariants.{Do, Test, EndLoop}
use Rattle.c_tree.specs.declared.place.Exits.{Exits}
use Rattle.c_tree.specs.Layout.{count, size_of}
use Rattle.target_code.specs.declared.instr.Instr.TheVariants as i
use Rattle.target_code.specs.Code.{act_code, act_size, stmt_code, stmt_size, block_code, block_size, over_block, jump_over_block}
use Rattle.target_code.specs.Compute.{target_literals}
use Rattle.target_code.specs.Operands.{bin_code, expr_code, size}

pub expr_code-Num : (at : ℕ) (n : ℤ) → expr_code at (e.Num n) ≡ i.Const n ∷ []
unfolding target_literals
expr_code-Num at n = refl

pub expr_code-Null : (at : ℕ) → expr_code at e.Null ≡ i.Const (pos 0) ∷ []
unfolding target_literals
expr_code-Null at = refl

pub expr_code-Slot : (at : ℕ) (k : ℕ) → expr_code at (e.Slot k) ≡ i.Get k ∷ []
unfolding target_literals
expr_code-Slot at k = refl

pub expr_code-Global : (at : ℕ) (g : ℕ) → expr_code at (e.Global g) ≡ i.Gget g ∷ []
unfolding target_literals
expr_code-Global at g = refl

pub expr_code-Elem : (at : ℕ) (g : ℕ) (x : LExpr) → expr_code at (e.Elem g x) ≡ expr_code at x ++ i.Aget g ∷ []
unfolding target_literals
expr_code-Elem at g x = refl

pub expr_code-Field : (at : ℕ) (p : LExpr) (owner field : ℕ) → expr_code at (e.Field p owner field) ≡ expr_code at p ++ i.Fget owner field ∷ []
unfolding target_literals
expr_code-Field at p owner field = refl

pub expr_code-Own : (at : ℕ) (k : ℕ) → expr_code at (e.Own k) ≡ i.Const (pos 0) ∷ []
unfolding target_literals
expr_code-Own at k = refl

pub expr_code-Un : (at : ℕ) (op : UnOp) (a : LExpr) → expr_code at (e.Un op a) ≡ expr_code at a ++ i.Un op ∷ []
unfolding target_literals
expr_code-Un at op a = refl

pub expr_code-Bin : (at : ℕ) (op : BinOp) (a b : LExpr) → expr_code at (e.Bin op a b) ≡ bin_code op at (size a) (size b) (expr_code at a) (λ from. expr_code from b)
unfolding target_literals
expr_code-Bin at op a b = refl

pub ruleset expr_code_rules = (expr_code-Num, expr_code-Null, expr_code-Slot, expr_code-Global, expr_code-Elem, expr_code-Field, expr_code-Own, expr_code-Un, expr_code-Bin)

pub jump_over_block-nil : (to : ℕ) → jump_over_block [] to ≡ []
unfolding target_literals
jump_over_block-nil to = refl

pub jump_over_block-cons : (x : LStmt) (rest : List LStmt) (to : ℕ) → jump_over_block (x ∷ rest) to ≡ i.Jump to ∷ []
unfolding target_literals
jump_over_block-cons x rest to = refl

pub block_code-nil : (t : ℕ → ℕ) (x : Exits) (at n : ℕ) → block_code t x at n [] ≡ []
unfolding target_literals
block_code-nil t x at n = refl

pub block_code-cons : (t : ℕ → ℕ) (x : Exits) (at n : ℕ) (y : LStmt) (rest : List LStmt) → block_code t x at n (y ∷ rest) ≡ stmt_code t x at n y ++ block_code t x (at + stmt_size y) (n + count y) rest
unfolding target_literals
block_code-cons t x at n y rest = refl

pub stmt_code-Assign : (t : ℕ → ℕ) (x : Exits) (at n : ℕ) (to : Dest) (e : LExpr) → stmt_code t x at n (s.Assign to e) ≡ act_code t at n (Do (s.Assign to e))
unfolding target_literals
stmt_code-Assign t x at n to e = refl

pub stmt_code-New : (t : ℕ → ℕ) (x : Exits) (at n : ℕ) (slot owner : ℕ) → stmt_code t x at n (s.New slot owner) ≡ act_code t at n (Do (s.New slot owner))
unfolding target_literals
stmt_code-New t x at n slot owner = refl

pub stmt_code-Getc : (t : ℕ → ℕ) (x : Exits) (at n : ℕ) (slot : ℕ) → stmt_code t x at n (s.Getc slot) ≡ act_code t at n (Do (s.Getc slot))
unfolding target_literals
stmt_code-Getc t x at n slot = refl

pub stmt_code-Print : (t : ℕ → ℕ) (x : Exits) (at n : ℕ) (text : List ℕ) (args : List LExpr) → stmt_code t x at n (s.Print text args) ≡ act_code t at n (Do (s.Print text args))
unfolding target_literals
stmt_code-Print t x at n text args = refl

pub stmt_code-Free : (t : ℕ → ℕ) (x : Exits) (at n : ℕ) (e : LExpr) → stmt_code t x at n (s.Free e) ≡ act_code t at n (Do (s.Free e))
unfolding target_literals
stmt_code-Free t x at n e = refl

pub stmt_code-Call : (t : ℕ → ℕ) (x : Exits) (at n : ℕ) (to : Option ℕ) (f : ℕ) (args : List LExpr) → stmt_code t x at n (s.Call to f args) ≡ act_code t at n (Do (s.Call to f args))
unfolding target_literals
stmt_code-Call t x at n to f args = refl

pub stmt_code-Spawn : (t : ℕ → ℕ) (x : Exits) (at n : ℕ) (to : Dest) (f : ℕ) (e : LExpr) → stmt_code t x at n (s.Spawn to f e) ≡ act_code t at n (Do (s.Spawn to f e))
unfolding target_literals
stmt_code-Spawn t x at n to f e = refl

pub stmt_code-Join : (t : ℕ → ℕ) (x : Exits) (at n : ℕ) (e : LExpr) → stmt_code t x at n (s.Join e) ≡ act_code t at n (Do (s.Join e))
unfolding target_literals
stmt_code-Join t x at n e = refl

pub stmt_code-Lock : (t : ℕ → ℕ) (x : Exits) (at n : ℕ) (m : ℕ) → stmt_code t x at n (s.Lock m) ≡ act_code t at n (Do (s.Lock m))
unfolding target_literals
stmt_code-Lock t x at n m = refl

pub stmt_code-Unlock : (t : ℕ → ℕ) (x : Exits) (at n : ℕ) (m : ℕ) → stmt_code t x at n (s.Unlock m) ≡ act_code t at n (Do (s.Unlock m))
unfolding target_literals
stmt_code-Unlock t x at n m = refl

pub stmt_code-Return : (t : ℕ → ℕ) (x : Exits) (at n : ℕ) (value : Option LExpr) → stmt_code t x at n (s.Return value) ≡ act_code t at n (Do (s.Return value))
unfolding target_literals
stmt_code-Return t x at n value = refl

-- the exits of a loop's body
abbrev pub within : ℕ → ℕ → Exits
within leave again = record { leave = leave; again = again }

pub stmt_code-If : (t : ℕ → ℕ) (x : Exits) (at n : ℕ) (e : LExpr) (a b : List LStmt)
    → stmt_code t x at n (s.If e a b)
    ≡ (let yes = at + act_size (Test e) + 1 in
    let no = yes + block_size a + over_block b in
    act_code t at n (Test e)
    ++ (i.Jz no
    ∷ (block_code t x yes (n + 1) a
    ++ (jump_over_block b (no + block_size b) ++ block_code t x no (n + 1 + size_of a) b))))
unfolding target_literals
stmt_code-If t x at n e a b = refl

pub stmt_code-Loop : (t : ℕ → ℕ) (x : Exits) (at n : ℕ) (c : List LStmt) (e : LExpr) (b d : List LStmt)
    → stmt_code t x at n (s.Loop c e b d)
    ≡ (let test = at + block_size c in
    let body = test + act_size (Test e) + 1 in
    let step = body + block_size b in
    let end = step + block_size d in
    block_code t x at n c
    ++ (act_code t test (n + size_of c) (Test e)
    ++ (i.Jz (end + 3)
    ∷ (block_code t (within (end + 3) step) body (n + size_of c + 1) b
    ++ (block_code t x step (n + size_of c + 1 + size_of b) d
    ++ (act_code t end (n + size_of c + 1 + size_of b + size_of d) EndLoop ++ i.Jump at ∷ []))))))
unfolding target_literals
stmt_code-Loop t x at n c e b d = refl

pub stmt_code-Break : (t : ℕ → ℕ) (x : Exits) (at n : ℕ) → stmt_code t x at n s.Break ≡ i.Jump x.leave ∷ []
unfolding target_literals
stmt_code-Break t x at n = refl

pub stmt_code-Continue : (t : ℕ → ℕ) (x : Exits) (at n : ℕ) → stmt_code t x at n s.Continue ≡ i.Jump x.again ∷ []
unfolding target_literals
stmt_code-Continue t x at n = refl

pub ruleset stmt_code_rules = (jump_over_block-nil, jump_over_block-cons, block_code-nil, block_code-cons, stmt_code-Assign, stmt_code-New, stmt_code-Getc, stmt_code-Print, stmt_code-Free, stmt_code-Call, stmt_code-Spawn, stmt_code-Join, stmt_code-Lock, stmt_code-Unlock, stmt_code-Return, stmt_code-If, stmt_code-Loop, stmt_code-Break, stmt_code-Continue)
