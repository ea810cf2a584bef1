-- The marks of a statement from those of its parts, one equation for each form.
use Rattle.std.proofs.Common.{◌≡◌, ℕ, ◌+◌, List, [], ◌∷◌, ◌++◌, refl}
use Rattle.std.specs.Prelude.{Option}
use Rattle.c_tree.specs.declared.lifted.Dest.{Dest}
use Rattle.c_tree.specs.declared.lifted.LExpr.{LExpr}
use Rattle.c_tree.specs.declared.lifted.LStmt.{LStmt}
use Rattle.c_tree.specs.declared.lifted.LStmt.TheVariants as s
use Rattle.c_tree.specs.declared.place.Act.TheVariants.{Test}
use Rattle.target_code.specs.Code.{act_size, stmt_size, stmt_marks, block_size, block_marks, over_block}
use Rattle.target_code.specs.Compute.{target_literals}

pub block_marks-nil : (at : ℕ) → block_marks at [] ≡ []
unfolding target_literals
block_marks-nil at = refl

pub block_marks-cons : (at : ℕ) (x : LStmt) (rest : List LStmt) → block_marks at (x ∷ rest) ≡ stmt_marks at x ++ block_marks (at + stmt_size x) rest
unfolding target_literals
block_marks-cons at x rest = refl

pub stmt_marks-Assign : (at : ℕ) (to : Dest) (e : LExpr) → stmt_marks at (s.Assign to e) ≡ at ∷ []
unfolding target_literals
stmt_marks-Assign at to e = refl

pub stmt_marks-New : (at : ℕ) (slot owner : ℕ) → stmt_marks at (s.New slot owner) ≡ at ∷ []
unfolding target_literals
stmt_marks-New at slot owner = refl

pub stmt_marks-Getc : (at : ℕ) (slot : ℕ) → stmt_marks at (s.Getc slot) ≡ at ∷ []
unfolding target_literals
stmt_marks-Getc at slot = refl

pub stmt_marks-Print : (at : ℕ) (text : List ℕ) (args : List LExpr) → stmt_marks at (s.Print text args) ≡ at ∷ []
unfolding target_literals
stmt_marks-Print at text args = refl

pub stmt_marks-Free : (at : ℕ) (e : LExpr) → stmt_marks at (s.Free e) ≡ at ∷ []
unfolding target_literals
stmt_marks-Free at e = refl

pub stmt_marks-Call : (at : ℕ) (to : Option ℕ) (f : ℕ) (args : List LExpr) → stmt_marks at (s.Call to f args) ≡ at ∷ []
unfolding target_literals
stmt_marks-Call at to f args = refl

pub stmt_marks-Spawn : (at : ℕ) (to : Dest) (f : ℕ) (e : LExpr) → stmt_marks at (s.Spawn to f e) ≡ at ∷ []
unfolding target_literals
stmt_marks-Spawn at to f e = refl

pub stmt_marks-Join : (at : ℕ) (e : LExpr) → stmt_marks at (s.Join e) ≡ at ∷ []
unfolding target_literals
stmt_marks-Join at e = refl

pub stmt_marks-Lock : (at : ℕ) (m : ℕ) → stmt_marks at (s.Lock m) ≡ at ∷ []
unfolding target_literals
stmt_marks-Lock at m = refl

pub stmt_marks-Unlock : (at : ℕ) (m : ℕ) → stmt_marks at (s.Unlock m) ≡ at ∷ []
unfolding target_literals
stmt_marks-Unlock at m = refl

pub stmt_marks-Return : (at : ℕ) (value : Option LExpr) → stmt_marks at (s.Return value) ≡ at ∷ []
unfolding target_literals
stmt_marks-Return at value = refl

pub stmt_marks-If : (at : ℕ) (e : LExpr) (a b : List LStmt)
    → stmt_marks at (s.If e a b)
    ≡ (let yes = at + act_size (Test e) + 1 in
    at ∷ (block_marks yes a ++ block_marks (yes + block_size a + over_block b) b))
unfolding target_literals
stmt_marks-If at e a b = refl

pub stmt_marks-Loop : (at : ℕ) (c : List LStmt) (e : LExpr) (b d : List LStmt)
    → stmt_marks at (s.Loop c e b d)
    ≡ (let test = at + block_size c in
    let body = test + act_size (Test e) + 1 in
    let step = body + block_size b in
    block_marks at c
    ++ (test ∷ (block_marks body b ++ (block_marks step d ++ (step + block_size d) ∷ []))))
unfolding target_literals
stmt_marks-Loop at c e b d = refl

pub stmt_marks-Break : (at : ℕ) → stmt_marks at s.Break ≡ []
unfolding target_literals
stmt_marks-Break at = refl

pub stmt_marks-Continue : (at : ℕ) → stmt_marks at s.Continue ≡ []
unfolding target_literals
stmt_marks-Continue at = refl

pub ruleset mark_rules = (block_marks-nil, block_marks-cons, stmt_marks-Assign, stmt_marks-New, stmt_marks-Getc, stmt_marks-Print, stmt_marks-Free, stmt_marks-Call, stmt_marks-Spawn, stmt_marks-Join, stmt_marks-Lock, stmt_marks-Unlock, stmt_marks-Return, stmt_marks-If, stmt_marks-Loop, stmt_marks-Break, stmt_marks-Continue)
