-- A form that is below another says at least as much.
use Rattle.std.specs.Prelude.{List, [], ◌∷◌, true}
use Rattle.std.proofs.Common.{◌≡◌}
use Rattle.c_tree.specs.Compute.{literals}
use Rattle.c_tree.specs.declared.ty.Ty.{Ty}
use Rattle.c_tree.specs.declared.ty.Ty.TheVariants as ty
use Rattle.c_tree.specs.declared.program.Stmt.{Stmt}
use Rattle.c_tree.specs.declared.program.StmtKind.{StmtKind, Row_of-Stmt, end_of-Stmt, more_of-Stmt}
use Rattle.c_tree.specs.declared.program.StmtKind.TheBlock.{hidden-the_row-Stmt-0 as row_of}
use Rattle.c_tree.specs.declared.program.StmtKind.TheVariants as s
use Rattle.c_tree.specs.ReadForm.{IsValueType, IsCastType, IsNoDeclaration, IsSimple, AreDeclarations, IsStart, AreReadStmts}
use Rattle.c_grammar.specs.declared.value.Value.{Value}
use Rattle.c_grammar.specs.Values.{ty_in, stmt_in, stmts_in}
use Rattle.c_reader.proofs.Forms.{Form, Has, below}
use Rattle.c_reader.proofs.Forms as form
use Rattle.std.proofs.lemmas.List.Elements.{All-nil}
use Rattle.c_tree.specs.Scope.{locals, locals_of}
use Rattle.c_reader.specs.Spelling.{IsSpelt, AreLocalsSpelt}

pub pointer_is_value : (t : Ty) → IsCastType t → IsValueType t
pointer_is_value ty.Void h = absurd h
pointer_is_value t h = tt

pub simple_declares_nothing : (x : StmtKind) → IsSimple x → IsNoDeclaration x
simple_declares_nothing (s.Declare t name value) h = absurd h
simple_declares_nothing x h = tt

declarations_start : {m : _} (xs : Row_of-Stmt m) → AreDeclarations xs → IsStart xs
declarations_start end_of-Stmt h = tt
declarations_start (more_of-Stmt at (s.Declare t name value) rest) h = h.1
declarations_start (more_of-Stmt at x rest) h = absurd h.0

pub simple_has_none : (x : StmtKind) → IsSimple x → AreLocalsSpelt (locals x)
simple_has_none (s.Assign x op y) h = All-nil (λ x. IsSpelt x.name)
simple_has_none (s.Run x) h = All-nil (λ x. IsSpelt x.name)
simple_has_none (s.Free x) h = All-nil (λ x. IsSpelt x.name)
simple_has_none (s.Print text args) h = All-nil (λ x. IsSpelt x.name)
simple_has_none x h = absurd h

none_declared : (xs : List Stmt) → xs ≡ [] → AreDeclarations (row_of xs) × AreReadStmts (row_of xs) × AreLocalsSpelt (locals_of (row_of xs))
unfolding literals AreReadStmts
none_declared [] e = (tt, tt, All-nil (λ x. IsSpelt x.name))
none_declared (x ∷ xs) e = cc

pub below_has : (f g : Form) (vs : List Value) → below f g ≡ true → Has f vs → Has g vs
below_has f form.Any vs h has = tt
below_has form.Pointer form.ValueTy vs h has = pointer_is_value (ty_in vs) has
below_has form.Place form.Operand vs h has = has.1
below_has form.Call form.Operand vs h has = has.1
below_has form.Simple form.Statement vs h has = (simple_declares_nothing (stmt_in vs).kind has.0, has.1, simple_has_none (stmt_in vs).kind has.0)
below_has form.NoStmts form.Declarations vs h has = none_declared (stmts_in vs) has
below_has form.NoStmts form.Starts vs h has = let none = none_declared (stmts_in vs) has in (declarations_start (row_of (stmts_in vs)) none.0, none.1, none.2)
below_has form.NoStmts form.Stmts vs h has = let none = none_declared (stmts_in vs) has in (none.1, none.2)
below_has form.Declarations form.Starts vs h has = (declarations_start (row_of (stmts_in vs)) has.0, has.1, has.2)
below_has form.Declarations form.Stmts vs h has = (has.1, has.2)
below_has form.Name form.Name vs h has = has
below_has form.Define form.Define vs h has = has
below_has form.ValueTy form.ValueTy vs h has = has
below_has form.Pointer form.Pointer vs h has = has
below_has form.Operand form.Operand vs h has = has
below_has form.Place form.Place vs h has = has
below_has form.Call form.Call vs h has = has
below_has form.Exprs form.Exprs vs h has = has
below_has form.MaybeExpr form.MaybeExpr vs h has = has
below_has form.Statement form.Statement vs h has = has
below_has form.Simple form.Simple vs h has = has
below_has form.Step form.Step vs h has = has
below_has form.NoStmts form.NoStmts vs h has = has
below_has form.Declarations form.Declarations vs h has = has
below_has form.Starts form.Starts vs h has = has
below_has form.Stmts form.Stmts vs h has = has
below_has form.Fields form.Fields vs h has = has
below_has form.Program form.Program vs h has = has
below_has f g vs h has = cc
