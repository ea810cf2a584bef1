-- Where a block begins.
use Rattle.std.proofs.Common.{◌≡◌, ℕ, ◌+◌, ◌≤◌, List, [], ◌∷◌, length, sym, ap, ◌∙◌, arith}
use Rattle.c_tree.specs.declared.lifted.LExpr.{LExpr}
use Rattle.c_tree.specs.declared.lifted.LStmt.{LStmt}
use Rattle.c_tree.specs.declared.lifted.LStmt.TheVariants as s
use Rattle.c_tree.specs.declared.place.Exits.{Exits}
use Rattle.c_tree.specs.Layout.{count, size_of, start_of}
use Rattle.c_tree.proofs.LayoutLemmas.{start_of-nil, count-Loop}

pub begins-nowhere : (x : Exits) (n next : ℕ) (block : List LStmt) → length block ≡ 0 → next ≡ start_of x n next block
begins-nowhere x n next [] none = sym (start_of-nil x n next)
begins-nowhere x n next (s ∷ rest) none = absurd (omega (arith, none))

-- the calls of a loop are fewer than its places
pub calls-within : (t : LStmt) (n : ℕ) (c : List LStmt) (e : LExpr) (b u : List LStmt) → n + count t ≤ 10000 → t ≡ s.Loop c e b u → (n + size_of c ≤ 10000)
calls-within t n c e b u h is = let k = ap count is ∙ count-Loop c e b u in omega (arith, h, k)
