-- The extent of rebuilding parts.
use Rattle.std.specs.Prelude.{ℕ, ◌+◌, List, [], ◌∷◌}
use Rattle.c_tree.specs.declared.lifted.Lifted.{Lifted}
use Rattle.target_code.specs.Code.{Called, part_size}

-- how many instructions the rebuilding parts of calls have
abbrev pub parts_size : Lifted → List Called → ℕ
parts_size p [] = 0
parts_size p (c ∷ rest) = part_size p c.callee + parts_size p rest

-- a call by its place, its callee, and the position where it returns
abbrev pub called : ℕ → ℕ → ℕ → Called
called place callee after = record { place = place; callee = callee; after = after }
