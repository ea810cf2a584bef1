-- The words of the inner contracts on statements. Each is one of the definitions of typing, which a proof takes whole.
use Rattle.std.specs.Prelude.{ℕ, Bool, true, List, [], ◌∷◌, ◌++◌, map, length, Option, Some, None}
use Rattle.std.specs.List.{flat_map}
use Rattle.c_tree.specs.declared.ty.Ty.{Ty}
use Rattle.c_tree.specs.declared.op.BinOp.{BinOp}
use Rattle.c_tree.specs.declared.cause.CheckCause.TheVariants as c
use Rattle.c_tree.specs.declared.scope.Fault.{Fault}
use Rattle.c_tree.specs.declared.program.Program.{Program}
use Rattle.c_tree.specs.declared.program.Expr.{Expr}
use Rattle.c_tree.specs.declared.program.Stmt.{Stmt}
use Rattle.c_tree.specs.declared.program.StmtKind.{StmtKind}
use Rattle.c_tree.specs.declared.program.StmtKind.TheBlock.{hidden-the_row-Stmt-0 as row_of}
use Rattle.c_tree.specs.declared.program.StmtKind.TheVariants as s
use Rattle.c_tree.specs.Fault.{fault, unless}
use Rattle.c_tree.specs.Scope.{Scope, locals}
use Rattle.c_tree.specs.Types.{is_int}
use Rattle.c_tree.specs.Typing.{Stand, stmt_faults, block_faults, local_faults, start_value_faults, test_faults, fit_faults, return_faults, assign_faults, value_faults, is_count, directives}
use Rattle.c_check.specs.Inner.{Inner, declares, around}

-- where a statement stands
abbrev pub stand : Program → Inner → Ty → Bool → Stand
stand p l ret in_loop = record { scope = around p l; block = l.block; ret = ret; in_loop = in_loop }

-- the names and the slots after a statement
unfoldable pub passed : Inner → ℕ → StmtKind → Inner
passed l at (s.Declare t name value) = declares l at name t
passed l at kind = record { names = l.names; block = l.block; slots = l.slots ++ map (λ x. x.ty) (locals kind) }

-- the names and the slots after some statements of one block
unfoldable pub all_passed : Inner → List Stmt → Inner
all_passed l [] = l
all_passed l (x ∷ rest) = all_passed (passed l x.at x.kind) rest

-- the names and the slots after a statement that need not be there
unfoldable pub if_passed : Inner → Option Stmt → Inner
if_passed l None = l
if_passed l (Some x) = passed l x.at x.kind

-- the faults of a statement
unfoldable pub reported : Program → Inner → Ty → Bool → ℕ → StmtKind → List Fault
reported p l ret in_loop at kind = stmt_faults (stand p l ret in_loop) at kind

-- the faults of some statements of one block
unfoldable pub all_reported : Program → Inner → Ty → Bool → List Stmt → List Fault
all_reported p l ret in_loop body = block_faults (stand p l ret in_loop) (row_of body)

-- the faults of a statement that need not be there
unfoldable pub if_reported : Program → Inner → Ty → Bool → Option Stmt → List Fault
if_reported p l ret in_loop None = []
if_reported p l ret in_loop (Some x) = stmt_faults (stand p l ret in_loop) x.at x.kind

-- the faults of a declaration of a local, but for those of its initialiser
unfoldable pub declared : Program → Inner → ℕ → List ℕ → Ty → List Fault
declared p l at name t = local_faults (stand p l t true) at name t

-- the faults of a local's initialiser, where it has one
unfoldable pub initial : Scope → Ty → Option Expr → List Fault
initial sc t value = start_value_faults sc t value

-- the faults of a test that need not be there
unfoldable pub tested : Scope → Option Expr → List Fault
tested sc test = test_faults sc test

-- the faults of an expression, and of its value where it has to fit a type
unfoldable pub fitted_to : Scope → Option Ty → Expr → List Fault
fitted_to sc asked x = fit_faults sc asked x

-- the faults of a `return` in a function of this result type
unfoldable pub returned : Scope → ℕ → Ty → Option Expr → List Fault
returned sc at ret value = return_faults sc at ret value

-- the faults of an assignment, with an operator before its `=` or without
unfoldable pub assigned : Scope → Expr → Option BinOp → Expr → List Fault
assigned sc x op y = assign_faults sc x op y

-- the faults of expressions that have to be `int`s
unfoldable pub all_ints : Scope → List Expr → List Fault
all_ints sc args = flat_map (value_faults sc is_int) args

-- the faults of a `printf`: its text asks as many `int`s as stand behind it
unfoldable pub printed : Scope → ℕ → List ℕ → List Expr → List Fault
printed sc at text args = unless (is_count (length args) (directives text)) (fault at c.BadCall) ++ all_ints sc args
