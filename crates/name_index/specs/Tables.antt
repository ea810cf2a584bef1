-- The tables of a file.
use Rattle.std.specs.Prelude.{◌≡◌, ℕ, List, map, filter, is_some}
use Rattle.c_tree.specs.declared.scope.Named.{Named}
use Rattle.c_tree.specs.declared.program.Program.{Program}
use Rattle.c_tree.specs.declared.program.Struct.{Struct}
use Rattle.c_tree.specs.declared.program.Function.{Function}
use Rattle.c_tree.specs.Scope.{names_of}
use Rattle.c_tree.specs.Typing.{definitions}

-- the names of declarations
abbrev pub names_in : List Named → List (List ℕ)
names_in xs = map (λ x. x.name) xs

-- the names of structs
abbrev pub struct_names : List Struct → List (List ℕ)
struct_names ds = map (λ d. d.name.it) ds

-- the names of a struct's fields
abbrev pub field_names : Struct → List (List ℕ)
field_names d = map (λ f. f.name.it) d.fields

-- the names of functions
abbrev pub function_names : List Function → List (List ℕ)
function_names fs = map (λ f. f.name.it) fs

-- a file's names in text order with their places, its structs, their fields, and its functions that have a body
pub record IsTableOf (p : Program) (names : List Named) (places structs : List (List ℕ)) (fields : List (List (List ℕ))) (defined : List (List ℕ)) : Type 0 where
  pub all_names : names ≡ names_of p
  pub all_places : places ≡ names_in names
  pub all_structs : structs ≡ struct_names p.structs
  pub all_fields : fields ≡ map field_names p.structs
  pub all_defined : defined ≡ function_names (definitions p)
