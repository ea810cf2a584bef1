-- Each function of a source is well typed, where it is known what the names of the file stand for.
use Rattle.std.proofs.Common.{◌≡◌, ℕ, ◌-◌, Bool, true, false, List, [], Some, refl, codes}
use Rattle.std.specs.Prelude.{find, slice_get}
use Rattle.c_tree.specs.declared.scope.Named.{Named}
use Rattle.c_tree.specs.declared.scope.Meaning.TheVariants as m
use Rattle.c_tree.specs.declared.program.Expr.{Expr}
use Rattle.c_tree.specs.declared.program.Program.{Program}
use Rattle.c_tree.specs.Compute.{literals}
use Rattle.c_tree.specs.Scope.{Scope, has_name, meaning_in, routine, is_defined}
use Rattle.c_tree.specs.Typing.{function_faults}
use Rattle.load_laws.proofs.Programs.{function_name, function_tree, first_tree, next_tree, work_tree, main_tree, total_tree}

-- the scope of a file, by the names that it declares
abbrev pub file : Program → List Named → Scope
file p names = record { names = names; program = p; slots = [] }

pub first_typed : (wide : Bool) (at : ℕ) (p : Program) (names : List Named) → is_defined p (function_name 1) ≡ true → function_faults (file p names) (first_tree wide at) ≡ []
unfolding literals
first_typed false at p names h = rw h refl
first_typed true at p names h = rw h refl

pub next_typed : (wide : Bool) (k at : ℕ) (p : Program) (names : List Named) → is_defined p (function_name k) ≡ true → is_defined p (function_name (k - 1)) ≡ true
    → (from : ℕ) (x : Expr) → routine p (meaning_in (find (has_name (function_name (k - 1))) names)) ≡ Some (function_tree wide (k - 1) from x)
    → function_faults (file p names) (next_tree wide k at) ≡ []
unfolding literals
next_typed false k at p names h g from x is = rw (h, is, g) refl
next_typed true k at p names h g from x is = rw (h, is, g) refl

pub work_typed : (n at : ℕ) (p : Program) (names : List Named) → is_defined p (codes "work") ≡ true → is_defined p (function_name n) ≡ true
    → (wide : Bool) (from : ℕ) (x : Expr) → routine p (meaning_in (find (has_name (function_name n)) names)) ≡ Some (function_tree wide n from x)
    → meaning_in (find (has_name (codes "total")) names) ≡ m.Global 0 → slice_get p.globals 0 ≡ Some total_tree → meaning_in (find (has_name (codes "m")) names) ≡ m.Mutex 0
    → function_faults (file p names) (work_tree n at) ≡ []
unfolding literals
work_typed n at p names h g wide from x is total global mutex = rw (h, is, g, total, global, mutex) refl

pub main_typed : (wide : Bool) (at : ℕ) (p : Program) (names : List Named) → is_defined p (codes "main") ≡ true → is_defined p (codes "work") ≡ true
    → (n from : ℕ) → routine p (meaning_in (find (has_name (codes "work")) names)) ≡ Some (work_tree n from)
    → meaning_in (find (has_name (codes "total")) names) ≡ m.Global 0 → slice_get p.globals 0 ≡ Some total_tree
    → function_faults (file p names) (main_tree wide at) ≡ []
unfolding literals
main_typed false at p names h g n from is total global = rw (h, is, g, total, global) refl
main_typed true at p names h g n from is total global = rw (h, is, g, total, global) refl
