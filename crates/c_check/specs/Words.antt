-- The words of the inner contracts. Each is one of the definitions of typing, which a proof takes whole.
use Rattle.std.specs.Prelude.{ℕ, List, [], ◌∷◌, ◌++◌, Option, Some}
use Rattle.c_tree.specs.declared.ty.Ty.{Ty}
use Rattle.c_tree.specs.declared.program.At.{At}
use Rattle.c_tree.specs.declared.program.Field.{Field}
use Rattle.c_tree.specs.declared.program.Program.{Program}
use Rattle.c_tree.specs.declared.program.Expr.{Expr}
use Rattle.c_tree.specs.declared.program.ExprKind.{ExprKind}
use Rattle.c_tree.specs.declared.scope.Fault.{Fault}
use Rattle.c_tree.specs.Fault.{with_faults}
use Rattle.c_tree.specs.Scope.{Scope, file_scope, meaning, routine}
use Rattle.c_tree.specs.Types.{Side, type_of, element_type, member_type, is_zero, side}
use Rattle.c_tree.specs.Typing.{faults, asks, anything, value_faults, place_faults, fit_faults, name_faults, field_faults, type_faults, lvalue_faults, start_faults, lock_faults, all_argument_faults}
use Rattle.c_check.specs.declared.types.Test.{Test}
use Rattle.c_check.specs.Tests.{passes}

-- the first of some fault and of more
unfoldable pub noted : Option Fault → List Fault → Option Fault
noted so_far more = with_faults so_far more

-- the type of an expression
unfoldable pub typed : Scope → ExprKind → Option Ty
typed sc x = type_of sc x

-- the faults of an expression, but for what is asked of its value
unfoldable pub found : Scope → ℕ → ExprKind → List Fault
found sc at x = faults sc at x

-- the faults of an expression, and of its value under a test
unfoldable pub valued : Scope → Test → Expr → List Fault
valued sc test x = value_faults sc (passes test (is_zero sc x.kind)) x

-- the faults of an expression, and of its value where it has to fit a type
unfoldable pub fitted : Scope → Ty → Expr → List Fault
fitted sc asked x = fit_faults sc (Some asked) x

-- an expression as a side of an operator
unfoldable pub sided : Scope → ExprKind → Side
sided sc x = side sc x

-- the faults of an lvalue
unfoldable pub placed : Scope → Expr → List Fault
placed sc x = place_faults sc x

-- the faults of an lvalue, and of its value under a test
unfoldable pub filled : Scope → Test → Expr → List Fault
filled sc test x = place_faults sc x ++ asks sc (passes test (is_zero sc x.kind)) x.at x.kind

-- the type of the elements of the array that a name stands for
unfoldable pub element : Scope → List ℕ → Option Ty
element sc name = element_type sc.program (meaning sc name)

-- the faults of a name before `[`, which has to be that of an array
unfoldable pub indexed : Scope → ℕ → List ℕ → List Fault
indexed sc at name = name_faults at name (meaning sc name) (element_type sc.program (meaning sc name))

-- the type of the field of a name behind a pointer
unfoldable pub member : Program → Option Ty → List ℕ → Option Ty
member p t name = member_type (file_scope p) t name

-- the faults of a field that is asked of a value of this type
unfoldable pub selected : Program → ℕ → Option Ty → List ℕ → List Fault
selected p at t name = field_faults at t (member_type (file_scope p) t name)

-- the fault of a type whose struct isn't declared
unfoldable pub of_type : Program → ℕ → Ty → List Fault
of_type p at t = type_faults (file_scope p) at t

-- the faults of an lvalue beside those of its expression
unfoldable pub lvalued : Scope → Expr → List Fault
lvalued sc x = lvalue_faults sc x.at x.kind

-- the faults of the name of a function that a thread starts
unfoldable pub started : Scope → At (List ℕ) → List Fault
started sc name = start_faults sc.program name.at name.it (routine sc.program (meaning sc name.it))

-- the faults of the name of a mutex in a lock or an unlock
unfoldable pub locked : Scope → ℕ → At (List ℕ) → List Fault
locked sc at name = lock_faults at name (meaning sc name.it)

-- the faults of arguments, each beside its parameter
unfoldable pub arguments : Scope → List Field → List Expr → List Fault
arguments sc qs args = all_argument_faults sc qs args

-- the faults of an argument beside the first parameter that is left
unfoldable pub argued : Scope → List Field → Expr → List Fault
argued sc [] x = value_faults sc anything x
argued sc (q ∷ qs) x = fit_faults sc (Some q.ty) x
