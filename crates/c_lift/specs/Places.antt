-- How many places statements have.
use Rattle.std.specs.Prelude.{ℕ, List}
use Rattle.c_tree.specs.declared.lifted.LStmt.{LStmt}
use Rattle.c_tree.specs.Layout.{count, size_of}

-- how many places a statement has
unfoldable pub places_of : LStmt → ℕ
places_of s = count s

-- how many places some statements have
unfoldable pub places_in : List LStmt → ℕ
places_in body = size_of body
