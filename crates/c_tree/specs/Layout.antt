-- The numbered places of a function, and the place that follows each.
use Rattle.std.specs.Prelude.{ℕ, ◌+◌, List, [], ◌∷◌, ◌++◌, Option, Some, None, slice_get}
use Rattle.c_tree.specs.declared.lifted.LStmt.{LStmt, Row_of-LStmt, end_of-LStmt, more_of-LStmt}
use Rattle.c_tree.specs.declared.lifted.LStmt.TheBlock.{hidden-the_row-LStmt-0 as row_of}
use Rattle.c_tree.specs.declared.lifted.LStmt.TheVariants as s
use Rattle.c_tree.specs.declared.lifted.LFunction.{LFunction}
use Rattle.c_tree.specs.declared.place.Act.{Act}
use Rattle.c_tree.specs.declared.place.Act.TheVariants.{Enter, Do, Test, EndLoop, Finish}
use Rattle.c_tree.specs.declared.place.Place.{Place}
use Rattle.c_tree.specs.declared.place.Exits.{Exits}
use Rattle.c_tree.specs.declared.place.Follow.{Follow}
use Rattle.c_tree.specs.declared.place.Follow.TheVariants.{One, Two, Leaves}

-- a place: what is done there, and where it goes on
abbrev pub place : Act → Follow → Place
place act follow = record { act = act; follow = follow }

-- the number of places
unfoldable mutual
  pub count : LStmt → ℕ
  count (s.If' e i a j b) = 1 + counts a + counts b
  count (s.Loop' h c e i b j t) = counts c + 1 + counts b + counts t + 1
  count s.Break = 0
  count s.Continue = 0
  count _ = 1

  pub counts : {m : _} → Row_of-LStmt m → ℕ
  counts end_of-LStmt = 0
  counts (more_of-LStmt s rest) = count s + counts rest

unfoldable mutual
  -- the place where the statement at n begins; a loop begins with its calls
  pub enter : Exits → ℕ → LStmt → ℕ
  enter x n s.Break = x.leave
  enter x n s.Continue = x.again
  enter x n (s.Loop' h c e i b j t) = enters x n (n + counts c) c
  enter x n _ = n

  -- the place where the statements at n begin, which `next` follows
  pub enters : Exits → ℕ → ℕ → {m : _} → Row_of-LStmt m → ℕ
  enters x n next end_of-LStmt = next
  enters x n next (more_of-LStmt s rest) = enter x n s

-- the places of the statement at n, which `next` follows
unfoldable mutual
  pub layout : Exits → ℕ → ℕ → LStmt → List Place
  layout x n next (s.If' e i a j b) =
      let other = n + 1 + counts a in
      place (Test e) (Two (enters x (n + 1) next a) (enters x other next b)) ∷ (layouts x (n + 1) next a ++ layouts x other next b)
  layout x n next (s.Loop' h c e i b j t) =
      let test = n + counts c in
      let step = test + 1 + counts b in
      let end = step + counts t in
      let again = enters x step end t in
      let inner : Exits = record { leave = next; again = again } in
      layouts x n test c ++ (place (Test e) (Two (enters inner (test + 1) again b) next) ∷ (layouts inner (test + 1) again b ++ (layouts x step end t ++ place EndLoop (One (enters x n test c)) ∷ [])))
  layout x n next s.Break = []
  layout x n next s.Continue = []
  layout x n next (s.Return value) = place (Do (s.Return value)) Leaves ∷ []
  layout x n next simple = place (Do simple) (One next) ∷ []

  pub layouts : Exits → ℕ → ℕ → {m : _} → Row_of-LStmt m → List Place
  layouts x n next end_of-LStmt = []
  layouts x n next (more_of-LStmt s rest) = layout x n (enters x (n + count s) next rest) s ++ layouts x (n + count s) next rest

-- the number of places in a block
abbrev pub size_of : List LStmt → ℕ
size_of body = counts (row_of body)

-- the place where a block at n begins, which `next` follows
abbrev pub start_of : Exits → ℕ → ℕ → List LStmt → ℕ
start_of x n next body = enters x n next (row_of body)

-- the places of a block from n on, which `next` follows
abbrev pub layout_of : Exits → ℕ → ℕ → List LStmt → List Place
layout_of x n next body = layouts x n next (row_of body)

-- all places of a function: the entry, its statements, and the implied return
abbrev pub places : LFunction → List Place
places f =
    let last = 1 + size_of f.body in
    let outside : Exits = record { leave = last; again = last } in
    place Enter (One (start_of outside 1 last f.body)) ∷ (layout_of outside 1 last f.body ++ place Finish Leaves ∷ [])

-- a place, and past the last one the implied return
abbrev pub nowhere : Option Place → Place
nowhere None = place Finish Leaves
nowhere (Some p) = p

-- the place of a number
abbrev pub place_at : LFunction → ℕ → Place
place_at f n = nowhere (slice_get (places f) n)
