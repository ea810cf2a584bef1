-- What lifting adds to the statements and temporaries that are there.
use Rattle.std.specs.Prelude.{◌≡◌, List, [], ◌∷◌, ◌++◌}
use Rattle.c_tree.specs.declared.ty.Ty.{Ty}
use Rattle.c_tree.specs.declared.lifted.LStmt.{LStmt}
use Rattle.c_tree.specs.declared.lifted.Dest.{Dest}
use Rattle.c_tree.specs.declared.program.ExprKind.{ExprKind}
use Rattle.c_tree.specs.declared.op.BinOp.{BinOp}
use Rattle.c_tree.specs.declared.lifted.LExpr.{LExpr}
use Rattle.c_tree.specs.declared.lifted.LExpr as l
use Rattle.c_tree.specs.declared.lifted.LStmt.TheVariants as s
use Rattle.c_tree.specs.Lifting.{Spot, Lift, lift_of, take_calls, assigned, fitted, destination}

-- the statements of a lifting follow those before, and its temporaries are all there are
pub record Adds (a : Lift) (body : List LStmt) (new_body : List LStmt) (new_made : List Ty) : Type 0 where
  pub added : new_body ≡ body ++ a.body
  pub all : new_made ≡ a.made

-- a value is stored after its calls
abbrev pub stored : Spot → List Ty → Dest → Ty → ExprKind → Lift
stored w made to want x = let a = take_calls w made x in assigned to (fitted w.scope want x a.value) a

-- what an operator gives of an expression without calls and of a value is stored where the expression stands
abbrev pub operated_into : Spot → List Ty → BinOp → LExpr → ExprKind → Lift
operated_into w made op to y = let b = take_calls w made y in lift_of (b.calls ++ s.Assign (destination to) (l.Bin op to b.value) ∷ []) b.made
