-- Which old things new ones are the matches of.
use Rattle.std.specs.Prelude.{◌≡◌, ℕ, nat_eq, List, Option}
use Rattle.std.specs.declared.hash.FoldHasher.{FoldHasher}
use Rattle.std.specs.declared.hash.BuildHasherDefault.{BuildHasherDefault}
use Rattle.indexmap.specs.IndexMap.{IndexMap, get}
use Rattle.c_tree.specs.Link.{origin}

-- a table from new things to old ones, by number
abbrev pub Origins : Type 0
Origins = IndexMap ℕ ℕ (BuildHasherDefault FoldHasher)

-- a table gives for each new thing the first old one that it is the match of
abbrev pub GivesOrigins : Origins → List (Option ℕ) → Type 0
GivesOrigins t found = (j : ℕ) → get nat_eq t j ≡ origin found j
