-- How a table finds the nearest of the names that a function has declared.
use Rattle.std.specs.Prelude.{◌≡◌, ◌≤◌, ℕ, Bool, false, nat_eq, nat_le, List, [], ◌∷◌, length, map, unwrap_or, if◌then◌else◌, Option, Some, None}
use Rattle.std.specs.Cmp.Lexicographic.{pointwise}
use Rattle.std.specs.declared.hash.FoldHasher.{FoldHasher}
use Rattle.std.specs.declared.hash.BuildHasherDefault.{BuildHasherDefault}
use Rattle.indexmap.specs.IndexMap.{IndexMap, get}
use Rattle.c_tree.specs.declared.scope.Named.{Named}
use Rattle.c_tree.specs.Scope.{has_name}
use Rattle.c_check.specs.declared.locals.Entry.{Entry}

-- how many names stand farther than the nearest of a name
abbrev pub height : List ℕ → List Named → Option ℕ
height name [] = None
height name (x ∷ rest) = if has_name name x then Some (length rest) else height name rest

-- whether a height is there and isn't below the start of a block
abbrev pub is_at_least : ℕ → Option ℕ → Bool
is_at_least start None = false
is_at_least start (Some i) = nat_le start i

-- a table from names to the heights of their nearest declarations
abbrev pub Heights : Type 0
Heights = IndexMap (List ℕ) (Option ℕ) (BuildHasherDefault FoldHasher)

-- the height that a table gives for a name
abbrev pub height_at : Heights → List ℕ → Option ℕ
height_at t name = unwrap_or (get (pointwise nat_eq) t name) None

-- the declared names of some entries
abbrev pub named_by : List Entry → List Named
named_by entries = map (λ e. e.named) entries

-- each entry knows the height that its name had before
abbrev pub KnowBefore : List Entry → Type 0
KnowBefore [] = Unit {0}
KnowBefore (e ∷ rest) = (e.before ≡ height e.named.name (named_by rest)) × KnowBefore rest

-- a table for these entries, the nearest first, so many of which the innermost block has declared
pub record IsStackOf (t : Heights) (entries : List Entry) (block : ℕ) : Type 0 where
  pub nearest : (name : List ℕ) → height_at t name ≡ height name (named_by entries)
  pub before : KnowBefore entries
  pub within : block ≤ length entries
