-- How many places a function may have.
use Rattle.std.specs.Prelude.{◌+◌, ◌≤◌, All}
use Rattle.c_tree.specs.declared.lifted.LFunction.{LFunction}
use Rattle.c_tree.specs.declared.lifted.Lifted.{Lifted}
use Rattle.c_tree.specs.Layout.{size_of}

-- the entry, the places of the body, and the implied return
abbrev pub IsWithin : LFunction → Type 0
IsWithin f = size_of f.body + 2 ≤ 10000

-- each function keeps the limit
abbrev pub KeepsLimit : Lifted → Type 0
KeepsLimit p = All (λ f. IsWithin f) p.functions
