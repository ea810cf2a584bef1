-- What a function has declared so far.
use Rattle.std.specs.Prelude.{ℕ, ◌+◌, ◌-◌, List, ◌∷◌, [], ◌++◌, length, take, drop}
use Rattle.c_tree.specs.declared.ty.Ty.{Ty}
use Rattle.c_tree.specs.declared.program.Program.{Program}
use Rattle.c_tree.specs.declared.scope.Named.{Named}
use Rattle.c_tree.specs.declared.scope.Meaning.TheVariants as m
use Rattle.c_tree.specs.Scope.{Scope, names_of}

-- the names that can be used, the nearest first, how many of them the innermost block has declared, and the types of all parameters and locals
pub record Inner : Type 0 where
  pub names : List Named
  pub block : ℕ
  pub slots : List Ty

-- after one declaration more
abbrev pub declares : Inner → ℕ → List ℕ → Ty → Inner
declares l at name t = record {
  names = record { at = at; name = name; meaning = m.Local (length l.slots) } ∷ l.names;
  block = l.block + 1;
  slots = l.slots ++ t ∷ [];
}

-- the scope in a file
abbrev pub around : Program → Inner → Scope
around p l = record { names = l.names ++ names_of p; program = p; slots = l.slots }

-- at the beginning of a block
abbrev pub entered : Inner → Inner
entered l = record { names = l.names; block = 0; slots = l.slots }

-- where the use of all names but the first `count` ends, and where all slots but the first `count` are taken back
unfoldable pub left : ℕ → ℕ → Inner → Inner
left count block l = record { names = drop (length l.names - count) l.names; block = block; slots = l.slots }

unfoldable pub cut : ℕ → Inner → Inner
cut count l = record { names = l.names; block = l.block; slots = take count l.slots }
