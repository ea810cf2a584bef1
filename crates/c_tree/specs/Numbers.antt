-- Tables of names.
use Rattle.std.specs.Prelude.{◌≡◌, ℕ, nat_eq, List, slice_get, Option, Some, None}
use Rattle.std.specs.Cmp.Lexicographic.{pointwise}
use Rattle.std.specs.declared.hash.FoldHasher.{FoldHasher}
use Rattle.std.specs.declared.hash.BuildHasherDefault.{BuildHasherDefault}
use Rattle.indexmap.specs.IndexMap.{IndexMap, get}
use Rattle.c_tree.specs.Names.{find_name}

-- a table from names to numbers
abbrev pub Numbers : Type 0
Numbers = IndexMap (List ℕ) ℕ (BuildHasherDefault FoldHasher)

-- a table gives the first number that each name has in a list
abbrev pub GivesNumbers : Numbers → List (List ℕ) → Type 0
GivesNumbers t names = (name : List ℕ) → get (pointwise nat_eq) t name ≡ find_name name names

-- what stands at a number in a row
abbrev pub item_at : {X : Type 0} → Option ℕ → List X → Option X
item_at None xs = None
item_at (Some i) xs = slice_get xs i
