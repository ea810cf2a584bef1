-- The sizes are the lengths.
use Rattle.std.proofs.Common.{◌≡◌, ℕ, suc, ◌+◌, List, [], ◌∷◌, ◌++◌, length, Some, None, pos, refl, arith, length-append}
use Rattle.c_tree.specs.declared.lifted.LExpr.{LExpr, more_of-LExpr as only}
use Rattle.c_tree.specs.declared.lifted.LExpr.TheVariants as e
use Rattle.c_tree.specs.declared.lifted.LStmt.{LStmt, Row_of-LStmt, end_of-LStmt, more_of-LStmt}
use Rattle.c_tree.specs.declared.lifted.LStmt.TheVariants as s
use Rattle.c_tree.specs.declared.lifted.Dest.{Dest}
use Rattle.c_tree.specs.declared.lifted.Dest.TheVariants as d
use Rattle.c_tree.specs.declared.op.BinOp.{BinOp}
use Rattle.c_tree.specs.declared.op.BinOp.TheVariants as bin
use Rattle.c_tree.specs.declared.op.UnOp.TheVariants as un
use Rattle.c_tree.specs.declared.place.Act.{Act}
use Rattle.c_tree.specs.declared.place.Act.TheVariants.{Enter, Do, Test, EndLoop, Finish}
use Rattle.c_tree.specs.declared.place.Exits.{Exits}
use Rattle.c_tree.specs.Layout.{count, counts}
use Rattle.target_code.specs.declared.instr.Instr.{Instr}
use Rattle.target_code.specs.declared.instr.Instr.TheVariants as i
use Rattle.target_code.specs.Code.{do_code, do_size, act_code, act_size, over, jump_over, stmt_size, rows_size, stmt_code, rows_code, stmt_marks, rows_marks}
use Rattle.target_code.specs.Operands.{bin_size, size, bin_code, expr_code, sizes, args_code, dest_size, dest_code}

-- two lists, one after the other
two : {A : Type 0} (a b : List A) (m n : ℕ) → length a ≡ m → length b ≡ n → length (a ++ b) ≡ m + n
two a b m n p q = omega (arith, length-append a b, p, q)

bin_length : (op : BinOp) (at x y : ℕ) (a : List Instr) (b : ℕ → List Instr) → length a ≡ x → ((from : ℕ) → length (b from) ≡ y) → length (bin_code op at x y a b) ≡ bin_size op x y
bin_length bin.And at x y a b p q =
    two a _ x (1 + (y + 4)) p (let h = two (b (at + x + 1)) (i.Un un.Not ∷ i.Un un.Not ∷ i.Jump (at + x + 1 + y + 4) ∷ i.Const (pos 0) ∷ []) y 4 (q _) refl in omega (arith, h))
bin_length bin.Or at x y a b p q =
    two a _ x (3 + (y + 2)) p (let h = two (b (at + x + 3)) (i.Un un.Not ∷ i.Un un.Not ∷ []) y 2 (q _) refl in omega (arith, h))
bin_length op at x y a b p q = two a (b (at + x) ++ i.Bin op ∷ []) x (y + 1) p (two (b (at + x)) (i.Bin op ∷ []) y 1 (q _) refl)

pub expr_length : (at : ℕ) (e : LExpr) → length (expr_code at e) ≡ size e
unfolding size expr_code
expr_length at (e.Elem' g _ (only x _)) = two (expr_code at x) _ (size x) 1 (expr_length at x) refl
expr_length at (e.Field' _ (only p _) owner field) = two (expr_code at p) _ (size p) 1 (expr_length at p) refl
expr_length at (e.Un' op _ (only a _)) = two (expr_code at a) _ (size a) 1 (expr_length at a) refl
expr_length at (e.Bin' op _ (only a _) _ (only b _)) =
    bin_length op at (size a) (size b) (expr_code at a) (λ from. expr_code from b) (expr_length at a) (λ from. expr_length from b)
expr_length at _ = refl

pub args_length : (at : ℕ) (es : List LExpr) → length (args_code at es) ≡ sizes es
args_length at [] = refl
args_length at (e ∷ rest) = two (expr_code at e) _ (size e) (sizes rest) (expr_length at e) (args_length (at + size e) rest)

pub dest_length : (at : ℕ) (to : Dest) → length (dest_code at to) ≡ dest_size to
dest_length at (d.Slot s) = refl
dest_length at (d.Global g) = refl
dest_length at (d.Elem g x) = expr_length at x
dest_length at (d.Field p owner field) = expr_length at p

do_length : (t : ℕ → ℕ) (at n : ℕ) (stmt : LStmt) → length (do_code t at n stmt) ≡ do_size stmt
do_length t at n (s.Assign to e) = two (dest_code at to) _ _ _ (dest_length at to) (two (expr_code _ e) _ (size e) 1 (expr_length _ e) refl)
do_length t at n (s.Print text args) = two (args_code at args) _ _ 1 (args_length at args) refl
do_length t at n (s.Free e) = two (expr_code at e) _ _ 1 (expr_length at e) refl
do_length t at n (s.Call to f args) = two (args_code at args) _ _ 2 (args_length at args) refl
do_length t at n (s.Spawn to f e) = two (dest_code at to) _ _ _ (dest_length at to) (two (expr_code _ e) _ (size e) 2 (expr_length _ e) refl)
do_length t at n (s.Join e) =
    let h = two (expr_code (at + 1) e) (i.Join ∷ []) (size e) 1 (expr_length (at + 1) e) refl in omega (arith, h)
do_length t at n (s.Return (Some e)) = two (expr_code at e) _ _ 1 (expr_length at e) refl
do_length t at n (s.Return None) = refl
do_length t at n _ = refl

pub act_length : (t : ℕ → ℕ) (at n : ℕ) (a : Act) → length (act_code t at n a) ≡ act_size a
act_length t at n Enter = refl
act_length t at n (Do stmt) = let h = do_length t (at + 1) n stmt in omega (arith, h)
act_length t at n (Test e) = let h = expr_length (at + 1) e in omega (arith, h)
act_length t at n EndLoop = refl
act_length t at n Finish = refl

pub over_length : {m : _} (b : Row_of-LStmt m) (to : ℕ) → length (jump_over b to) ≡ over b
over_length end_of-LStmt to = refl
over_length (more_of-LStmt s rest) to = refl

more : (m n : ℕ) → m ≡ n → suc m ≡ 1 + n
more m n h = omega (arith, h)

mutual
  unfolding count counts stmt_size rows_size stmt_code rows_code

  pub stmt_length : (t : ℕ → ℕ) (x : Exits) (at n : ℕ) (stmt : LStmt) → length (stmt_code t x at n stmt) ≡ stmt_size stmt
  stmt_length t x at n (s.If' e ka a kb b) =
      two (act_code t at n (Test e)) _ _ _ (act_length t at n (Test e)) (more _ _ (two (rows_code t x _ _ a) _ _ _ (rows_length t x _ _ a) (two (jump_over b _) _ _ _ (over_length b _) (rows_length t x _ _ b))))
  stmt_length t x at n (s.Loop' kc c e kb b kd d) =
      two (rows_code t x _ _ c) _ _ _ (rows_length t x _ _ c) (two (act_code t (at + rows_size c) (n + counts c) (Test e)) _ _ _ (act_length t (at + rows_size c) (n + counts c) (Test e)) (more _ _ (two (rows_code t _ _ _ b) _ _ _ (rows_length t _ _ _ b) (two (rows_code t x _ _ d) _ _ 3 (rows_length t x _ _ d) refl))))
  stmt_length t x at n s.Break = refl
  stmt_length t x at n s.Continue = refl
  stmt_length t x at n simple = act_length t at n (Do simple)

  pub rows_length : (t : ℕ → ℕ) (x : Exits) (at n : ℕ) {m : _} (row : Row_of-LStmt m) → length (rows_code t x at n row) ≡ rows_size row
  rows_length t x at n end_of-LStmt = refl
  rows_length t x at n (more_of-LStmt s rest) =
      two (stmt_code t x at n s) _ _ _ (stmt_length t x at n s) (rows_length t x (at + stmt_size s) (n + count s) rest)

if_count : (l m n : ℕ) → l ≡ m + n → suc l ≡ 1 + m + n
if_count l m n h = omega (arith, h)

loop_count : (l c b d : ℕ) → l ≡ c + (1 + (b + (d + 1))) → l ≡ c + 1 + b + d + 1
loop_count l c b d h = omega (arith, h)

mutual
  unfolding count counts stmt_size rows_size stmt_marks rows_marks

  pub marks_length : (at : ℕ) (stmt : LStmt) → length (stmt_marks at stmt) ≡ count stmt
  marks_length at (s.If' e ka a kb b) =
      if_count _ _ _ (two (rows_marks _ a) _ _ _ (rows_marks_length _ a) (rows_marks_length _ b))
  marks_length at (s.Loop' kc c e kb b kd d) =
      loop_count _ _ _ _ (two (rows_marks at c) _ _ _ (rows_marks_length at c) (more _ _ (two (rows_marks _ b) _ _ _ (rows_marks_length _ b) (two (rows_marks _ d) _ _ 1 (rows_marks_length _ d) refl))))
  marks_length at s.Break = refl
  marks_length at s.Continue = refl
  marks_length at simple = refl

  pub rows_marks_length : (at : ℕ) {m : _} (row : Row_of-LStmt m) → length (rows_marks at row) ≡ counts row
  rows_marks_length at end_of-LStmt = refl
  rows_marks_length at (more_of-LStmt s rest) = two (stmt_marks at s) _ _ _ (marks_length at s) (rows_marks_length (at + stmt_size s) rest)
