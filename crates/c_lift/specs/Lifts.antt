-- What lifting a statement adds to what was there, and where the next statement stands.
use Rattle.std.specs.Prelude.{◌≡◌, ℕ, List, [], ◌∷◌, ◌++◌, map, length, Option, None, Some}
use Rattle.c_tree.specs.declared.ty.Ty.{Ty}
use Rattle.c_tree.specs.declared.lifted.LStmt.{LStmt}
use Rattle.c_tree.specs.declared.scope.Named.{Named}
use Rattle.c_tree.specs.declared.scope.Meaning.TheVariants as m
use Rattle.c_tree.specs.declared.program.Stmt.{Stmt}
use Rattle.c_tree.specs.declared.program.StmtKind.{StmtKind}
use Rattle.c_tree.specs.declared.program.StmtKind.TheBlock.{hidden-the_row-Stmt-0 as row_of}
use Rattle.c_tree.specs.declared.program.StmtKind.TheVariants as s
use Rattle.c_tree.specs.declared.program.Function.{Function}
use Rattle.c_tree.specs.Scope.{Variable, Scope, locals, locals_of, after_all, file_scope, with_parameters}
use Rattle.c_tree.specs.Lifting.{Spot, Lift, lift_of, lift_stmt, lift_all, body_of}
use Rattle.c_lift.specs.declared.spot.Setting.{Setting}
use Rattle.c_lift.specs.declared.spot.Locals.{Locals}
use Rattle.c_lift.specs.Around.{standing}
use Rattle.c_lift.specs.Adding.{Adds}

-- the types of some variables
abbrev pub types_of : List Variable → List Ty
types_of xs = map (λ x. x.ty) xs

-- the names that a statement leaves to those after it
abbrev pub declared_here : ℕ → ℕ → StmtKind → List Named
declared_here n at (s.Declare t name value) = record { at = at; name = name; meaning = m.Local n } ∷ []
declared_here n at _ = []

-- a statement is lifted: its statements and temporaries are added to those before it,
-- its locals have their slots, and the names that it declares are there
pub record Lifts (w : Setting) (at : ℕ) (kind : StmtKind) (old : Locals) (made : List Ty) (body : List LStmt) (new : Locals) (new_made : List Ty) (new_body : List LStmt) : Type 0 where
  pub adds : Adds (lift_stmt (standing w old) made at kind) body new_body new_made
  pub slots_so : new.slots.items ≡ old.slots.items ++ types_of (locals kind)
  pub names_so : new.names.items ≡ old.names.items ++ declared_here (length old.slots.items) at kind

-- the same for a list of statements
abbrev pub lift_list : Spot → List Ty → List Stmt → Lift
lift_list w made xs = lift_all w made (row_of xs)

-- the locals that some statements declare
abbrev pub locals_list : List Stmt → List Variable
locals_list xs = locals_of (row_of xs)

-- where the statement behind some statements stands
abbrev pub after_list : Scope → List Stmt → Scope
after_list sc xs = after_all sc (row_of xs)

-- some statements are lifted: what they add,
-- and where the statement behind them stands
pub record LiftsAll (w : Setting) (xs : List Stmt) (old : Locals) (made : List Ty) (body : List LStmt) (new : Locals) (new_made : List Ty) (new_body : List LStmt) : Type 0 where
  pub adds : Adds (lift_list (standing w old) made xs) body new_body new_made
  pub scope_so : (standing w new).scope ≡ after_list (standing w old).scope xs
  pub slots_so : new.slots.items ≡ old.slots.items ++ types_of (locals_list xs)
  pub more : List Named
  pub names_so : new.names.items ≡ old.names.items ++ more

-- the same for a statement that may be absent
abbrev pub lift_other : Spot → List Ty → Option Stmt → Lift
lift_other w made None = lift_of [] made
lift_other w made (Some x) = lift_stmt w made x.at x.kind

-- the locals of a statement that may be absent
abbrev pub locals_other : Option Stmt → List Variable
locals_other None = []
locals_other (Some x) = locals x.kind

-- a statement that may be absent is lifted: what it adds
pub record LiftsOther (w : Setting) (other : Option Stmt) (old : Locals) (made : List Ty) (body : List LStmt) (new : Locals) (new_made : List Ty) (new_body : List LStmt) : Type 0 where
  pub adds : Adds (lift_other (standing w old) made other) body new_body new_made
  pub slots_so : new.slots.items ≡ old.slots.items ++ types_of (locals_other other)
  pub more : List Named
  pub names_so : new.names.items ≡ old.names.items ++ more

-- the body of a function
abbrev pub body_lifted : Setting → Function → Lift
body_lifted w f =
    let v : Spot = record { scope = with_parameters (file_scope w.file.now) f.params; slots = w.base; ret = w.ret.now } in
    lift_list v [] (body_of f.body)
