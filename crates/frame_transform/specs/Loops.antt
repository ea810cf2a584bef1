-- How many loops statements hold.
use Rattle.std.specs.Prelude.{ℕ, ◌+◌, List}
use Rattle.c_tree.specs.declared.lifted.LStmt.{LStmt, Row_of-LStmt, end_of-LStmt, more_of-LStmt}
use Rattle.c_tree.specs.declared.lifted.LStmt.TheBlock.{hidden-the_row-LStmt-0 as row_of}
use Rattle.c_tree.specs.declared.lifted.LStmt.TheVariants as s

-- the number of loops
unfoldable mutual
  pub loops : LStmt → ℕ
  loops (s.If' e i a j b) = loops_in a + loops_in b
  loops (s.Loop' h c e i b j t) = loops_in c + loops_in b + loops_in t + 1
  loops _ = 0

  pub loops_in : {m : _} → Row_of-LStmt m → ℕ
  loops_in end_of-LStmt = 0
  loops_in (more_of-LStmt s rest) = loops s + loops_in rest

-- the loops of a block
abbrev pub loops_of : List LStmt → ℕ
loops_of body = loops_in (row_of body)
