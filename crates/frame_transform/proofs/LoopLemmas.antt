-- How many loops statements hold.
use Rattle.std.proofs.Common.{◌≡◌, ℕ, zero, suc, ◌+◌, ◌<◌, ◌≤◌, List, [], ◌∷◌, length, get_or, drop, refl, sym, ap, ◌∙◌, drop-cons, add-one, arith}
use Rattle.std.specs.Prelude.{Option}
use Rattle.std.proofs.lemmas.List.{drop_all}
use Rattle.c_tree.specs.declared.lifted.Dest.{Dest}
use Rattle.c_tree.specs.declared.lifted.LExpr.{LExpr}
use Rattle.c_tree.specs.declared.lifted.LStmt.{LStmt, Row_of-LStmt, end_of-LStmt, more_of-LStmt}
use Rattle.c_tree.specs.declared.lifted.LStmt.TheBlock.{hidden-the_row-LStmt-0 as row_of}
use Rattle.c_tree.specs.declared.lifted.LStmt.TheVariants as s
use Rattle.c_tree.specs.Compute.{literals}
use Rattle.c_tree.specs.Layout.{count, counts, size_of}
use Rattle.c_tree.proofs.LayoutLemmas.{size_of-nil, size_of-cons}
use Rattle.frame_transform.specs.Loops.{loops, loops_in, loops_of}
use Rattle.c_tree.proofs.LayoutLemmas.{count_rules}

pub loops_of-nil : loops_of [] ≡ 0
unfolding literals loops loops_in
loops_of-nil = refl

pub loops_of-cons : (s : LStmt) (rest : List LStmt) → loops_of (s ∷ rest) ≡ loops s + loops_of rest
unfolding literals loops loops_in
loops_of-cons s rest = refl

pub loops-Assign : (to : Dest) (e : LExpr) → loops (s.Assign to e) ≡ 0
unfolding literals loops loops_in
loops-Assign to e = refl

pub loops-New : (slot owner : ℕ) → loops (s.New slot owner) ≡ 0
unfolding literals loops loops_in
loops-New slot owner = refl

pub loops-Getc : (slot : ℕ) → loops (s.Getc slot) ≡ 0
unfolding literals loops loops_in
loops-Getc slot = refl

pub loops-Print : (text : List ℕ) (args : List LExpr) → loops (s.Print text args) ≡ 0
unfolding literals loops loops_in
loops-Print text args = refl

pub loops-Free : (e : LExpr) → loops (s.Free e) ≡ 0
unfolding literals loops loops_in
loops-Free e = refl

pub loops-Call : (to : Option ℕ) (f : ℕ) (args : List LExpr) → loops (s.Call to f args) ≡ 0
unfolding literals loops loops_in
loops-Call to f args = refl

pub loops-Spawn : (to : Dest) (f : ℕ) (e : LExpr) → loops (s.Spawn to f e) ≡ 0
unfolding literals loops loops_in
loops-Spawn to f e = refl

pub loops-Join : (e : LExpr) → loops (s.Join e) ≡ 0
unfolding literals loops loops_in
loops-Join e = refl

pub loops-Lock : (m : ℕ) → loops (s.Lock m) ≡ 0
unfolding literals loops loops_in
loops-Lock m = refl

pub loops-Unlock : (m : ℕ) → loops (s.Unlock m) ≡ 0
unfolding literals loops loops_in
loops-Unlock m = refl

pub loops-Return : (value : Option LExpr) → loops (s.Return value) ≡ 0
unfolding literals loops loops_in
loops-Return value = refl

pub loops-Break : loops s.Break ≡ 0
unfolding literals loops loops_in
loops-Break = refl

pub loops-Continue : loops s.Continue ≡ 0
unfolding literals loops loops_in
loops-Continue = refl

pub loops-If : (e : LExpr) (a b : List LStmt) → loops (s.If e a b) ≡ loops_of a + loops_of b
unfolding literals loops loops_in
loops-If e a b = refl

pub loops-Loop : (c : List LStmt) (e : LExpr) (b t : List LStmt) → loops (s.Loop c e b t) ≡ loops_of c + loops_of b + loops_of t + 1
unfolding literals loops loops_in
loops-Loop c e b t = refl

pub ruleset loops_rules = (loops_of-nil, loops_of-cons, loops-Assign, loops-New, loops-Getc, loops-Print, loops-Free, loops-Call, loops-Spawn, loops-Join, loops-Lock, loops-Unlock, loops-Return, loops-Break, loops-Continue, loops-If, loops-Loop)

-- and with them how many places a statement has
pub ruleset extent_rules = (loops_rules, count_rules)

-- no statement holds more loops than places
mutual
  unfolding literals loops loops_in

  pub loops-le : (x : LStmt) → loops x ≤ count x
  loops-le (s.If' e i a j b) = omega (arith, loops_in-le a, loops_in-le b)
  loops-le (s.Loop' h c e i b j t) = omega (arith, loops_in-le c, loops_in-le b, loops_in-le t)
  loops-le _ = omega arith

  pub loops_in-le : {m : _} (row : Row_of-LStmt m) → loops_in row ≤ counts row
  loops_in-le end_of-LStmt = omega arith
  loops_in-le (more_of-LStmt x rest) = omega (arith, loops-le x, loops_in-le rest)

pub loops_of-le : (block : List LStmt) → loops_of block ≤ size_of block
loops_of-le block = loops_in-le (row_of block)

-- a block as it is walked through
pub loops_of-drop : (xs : List LStmt) (i : ℕ) (x : LStmt) → i < length xs → x ≡ get_or xs i x → loops_of (drop i xs) ≡ loops x + loops_of (drop (i + 1) xs)
loops_of-drop xs i x h is =
    rw (add-one i) (ap loops_of (drop-cons xs i x h ∙ ap (λ y. y ∷ drop (suc i) xs) (sym is)) ∙ loops_of-cons x (drop (suc i) xs))

pub loops_of-end : (xs : List LStmt) (i : ℕ) → length xs ≤ i → loops_of (drop i xs) ≡ 0
loops_of-end xs i h = ap loops_of (drop_all i xs h) ∙ loops_of-nil

pub size_of-drop : (xs : List LStmt) (i : ℕ) (x : LStmt) → i < length xs → x ≡ get_or xs i x → size_of (drop i xs) ≡ count x + size_of (drop (i + 1) xs)
size_of-drop xs i x h is =
    rw (add-one i) (ap size_of (drop-cons xs i x h ∙ ap (λ y. y ∷ drop (suc i) xs) (sym is)) ∙ size_of-cons x (drop (suc i) xs))

pub size_of-end : (xs : List LStmt) (i : ℕ) → length xs ≤ i → size_of (drop i xs) ≡ 0
size_of-end xs i h = ap size_of (drop_all i xs h) ∙ size_of-nil

-- a block has at least the places of each of its statements
pub size_of-item : (xs : List LStmt) (i : ℕ) (x : LStmt) → i < length xs → x ≡ get_or xs i x → count x ≤ size_of xs
size_of-item [] i x h is = absurd (omega (arith, h))
size_of-item (y ∷ ys) zero x h is = omega (arith, size_of-cons y ys, ap count is)
size_of-item (y ∷ ys) (suc i) x h is = omega (arith, size_of-cons y ys, size_of-item ys i x (omega (arith, h)) is)
