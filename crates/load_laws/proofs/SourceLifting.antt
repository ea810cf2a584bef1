-- What each function of a source is after lifting, where it is known what the names of the file stand for.
use Rattle.std.proofs.Common.{◌≡◌, ℕ, ◌-◌, Bool, true, false, Some, None, refl, codes}
use Rattle.std.specs.Prelude.{slice_get}
use Rattle.c_tree.specs.declared.scope.Meaning.TheVariants as m
use Rattle.c_tree.specs.declared.program.Expr.{Expr}
use Rattle.c_tree.specs.declared.program.Program.{Program}
use Rattle.c_tree.specs.Compute.{literals}
use Rattle.c_tree.specs.Scope.{meaning, file_scope, routine}
use Rattle.c_tree.specs.Lifting.{function_number, lift_function, passed_limit, liftings}
use Rattle.load_laws.proofs.Programs.{function_name, locals, word, first_lifted, next_lifted, work_lifted, main_lifted, function_tree, first_tree, next_tree, work_tree, main_tree, total_tree}

pub first_lifts : (wide : Bool) (at : ℕ) (p : Program) → lift_function p (first_tree wide at) ≡ first_lifted (locals wide)
unfolding literals liftings
first_lifts false at p = refl
first_lifts true at p = refl

pub next_lifts : (wide : Bool) (k at : ℕ) (p : Program) (from : ℕ) (x : Expr) → routine p (meaning (file_scope p) (function_name (k - 1))) ≡ Some (function_tree wide (k - 1) from x)
    → function_number p (function_name (k - 1)) ≡ k - 2 → lift_function p (next_tree wide k at) ≡ next_lifted (locals wide) k
unfolding literals liftings
next_lifts false k at p from x is number = rw (is, number) refl
next_lifts true k at p from x is number = rw (is, number) refl

pub work_lifts : (n at : ℕ) (p : Program) (wide : Bool) (from : ℕ) (x : Expr) → routine p (meaning (file_scope p) (function_name n)) ≡ Some (function_tree wide n from x)
    → function_number p (function_name n) ≡ n - 1
    → meaning (file_scope p) (codes "total") ≡ m.Global 0 → slice_get p.globals 0 ≡ Some total_tree → meaning (file_scope p) (codes "m") ≡ m.Mutex 0
    → lift_function p (work_tree n at) ≡ work_lifted n
unfolding literals liftings
work_lifts n at p wide from x is number total global mutex = rw (is, number, mutex, total, global, total) refl

pub main_lifts : (wide : Bool) (n at : ℕ) (p : Program) → function_number p (codes "work") ≡ n → meaning (file_scope p) (codes "total") ≡ m.Global 0
    → lift_function p (main_tree wide at) ≡ main_lifted (word wide) n
unfolding literals liftings
main_lifts false n at p number total = rw (number, total) refl
main_lifts true n at p number total = rw (number, total) refl

-- Limits.

pub first_small : (wide : Bool) → passed_limit (first_lifted (locals wide)) ≡ None
unfolding literals
first_small false = refl
first_small true = refl

pub next_small : (wide : Bool) (k : ℕ) → passed_limit (next_lifted (locals wide) k) ≡ None
unfolding literals
next_small false k = refl
next_small true k = refl

pub work_small : (n : ℕ) → passed_limit (work_lifted n) ≡ None
unfolding literals
work_small n = refl

pub main_small : (wide : Bool) (n : ℕ) → passed_limit (main_lifted (word wide) n) ≡ None
unfolding literals
main_small false n = refl
main_small true n = refl
