-- The lines of statements. They stand at a depth, inside the loop of a label, and begin at place n, with k ends of loops before.
use Rattle.std.specs.Prelude.{ℕ, ◌+◌, List, [], ◌++◌, codes}
use Rattle.c_tree.specs.declared.lifted.LExpr.{LExpr}
use Rattle.c_tree.specs.declared.lifted.LStmt.{LStmt, Row_of-LStmt, end_of-LStmt, more_of-LStmt}
use Rattle.c_tree.specs.declared.lifted.LStmt.TheBlock.{hidden-the_row-LStmt-0 as row_of}
use Rattle.c_tree.specs.declared.lifted.LStmt.TheVariants as s
use Rattle.c_tree.specs.Layout.{count, counts}
use Rattle.c_tree.specs.MapExpr.{Reads}
use Rattle.c_tree.specs.Shown.{shown}
use Rattle.frame_transform.specs.Line.{line, numbered, mark}
use Rattle.frame_transform.specs.Loops.{loops, loops_in}
use Rattle.frame_transform.specs.Statements.{simple_lines}

-- the test of an `if`
abbrev pub if_text : Reads → LExpr → List ℕ
if_text r e = codes "if (" ++ (shown r e ++ codes ") {")

-- the test of a loop
abbrev pub leave_text : Reads → LExpr → List ℕ
leave_text r e = codes "if (!(" ++ (shown r e ++ codes ")) break;")

-- the label at the end of a loop's body
abbrev pub label_text : ℕ → List ℕ
label_text number = numbered (codes "UP_CONT_") number (codes ": ;")

-- the line before an else branch that is not empty
unfoldable pub else_line : ℕ → {m : _} → Row_of-LStmt m → List ℕ
else_line depth end_of-LStmt = []
else_line depth (more_of-LStmt s rest) = line depth (codes "} else {")

unfoldable mutual
  pub text : Reads → ℕ → ℕ → ℕ → ℕ → LStmt → List ℕ
  text r depth label n k (s.If' e i a j b) =
      line depth (if_text r e)
      ++ (texts r (depth + 1) label (n + 1) k a
      ++ (else_line depth b
      ++ (texts r (depth + 1) label (n + 1 + counts a) (k + loops_in a) b
      ++ line depth (codes "}"))))
  text r depth label n k (s.Loop' h c e i b j t) =
      let body = n + counts c + 1 in
      let step = body + counts b in
      let number = k + loops_in c + loops_in b + loops_in t + 1 in
      line depth (codes "for (;;) {")
      ++ (texts r (depth + 1) label n k c
      ++ (line (depth + 1) (leave_text r e)
      ++ (texts r (depth + 1) number body (k + loops_in c) b
      ++ (line (depth + 1) (label_text number)
      ++ (texts r (depth + 1) label step (k + loops_in c + loops_in b) t
      ++ (line (depth + 1) (mark (step + counts t))
      ++ line depth (codes "}")))))))
  text r depth label n k simple = simple_lines r depth label n simple

  pub texts : Reads → ℕ → ℕ → ℕ → ℕ → {m : _} → Row_of-LStmt m → List ℕ
  texts r depth label n k end_of-LStmt = []
  texts r depth label n k (more_of-LStmt s rest) = text r depth label n k s ++ texts r depth label (n + count s) (k + loops s) rest

-- a block as the row that the definitions above recur over
abbrev pub text_of : Reads → ℕ → ℕ → ℕ → ℕ → List LStmt → List ℕ
text_of r depth label n k body = texts r depth label n k (row_of body)

-- the line before an else branch, as a block
abbrev pub else_line_of : ℕ → List LStmt → List ℕ
else_line_of depth body = else_line depth (row_of body)
