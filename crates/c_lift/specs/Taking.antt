-- What taking the calls out adds to what was there.
use Rattle.std.specs.Prelude.{◌≡◌, ℕ, ◌&&◌, List, ◌++◌, Option, Some, None}
use Rattle.c_tree.specs.declared.ty.Ty.{Ty}
use Rattle.c_tree.specs.declared.ty.Ty.TheVariants as ty
use Rattle.c_tree.specs.declared.op.BinOp.{BinOp}
use Rattle.c_tree.specs.declared.lifted.LExpr.{LExpr}
use Rattle.c_tree.specs.declared.lifted.LExpr as l
use Rattle.c_tree.specs.declared.lifted.LStmt.{LStmt}
use Rattle.c_tree.specs.declared.program.Expr.{Expr}
use Rattle.c_tree.specs.declared.program.ExprKind.{ExprKind}
use Rattle.c_tree.specs.declared.program.ExprKind.TheBlock.{hidden-the_row-Expr-1 as args_of}
use Rattle.c_tree.specs.declared.program.Field.{Field}
use Rattle.c_tree.specs.Types.{type_of, is_zero}
use Rattle.c_tree.specs.Lifting.{Spot, AllTaken, take_calls, take_arguments, in_place, is_equality, is_pointer_type, deciding}

-- the value that is left of an expression with its type, the statements with those of its calls added, and all temporaries
pub record Took (w : Spot) (x : ExprKind) (calls : List LStmt) (made : List Ty) (value : LExpr) (type : Option Ty) (new_calls : List LStmt) (new_made : List Ty) : Type 0 where
  pub left : value ≡ (take_calls w made x).value
  pub told : type ≡ type_of w.scope x
  pub added : new_calls ≡ calls ++ (take_calls w made x).calls
  pub all : new_made ≡ (take_calls w made x).made

-- the same for the arguments of a call
abbrev pub take_list : Spot → List Ty → List Field → List Expr → AllTaken
take_list w made qs args = take_arguments w made qs (args_of args)

-- the calls of some arguments are taken out:
-- their values are left, and their statements and temporaries are added
pub record TookAll (w : Spot) (qs : List Field) (args : List Expr) (calls : List LStmt) (made : List Ty) (values : List LExpr) (new_calls : List LStmt) (new_made : List Ty) : Type 0 where
  pub left : values ≡ (take_list w made qs args).values
  pub added : new_calls ≡ calls ++ (take_list w made qs args).calls
  pub all : new_made ≡ (take_list w made qs args).made

-- an operator of which the sides are taken: the right one's calls follow those of the left one, or are made only if the left one lets them
abbrev pub operated : Spot → BinOp → ExprKind → LExpr → Option Ty → ExprKind → LExpr → Option Ty → Option ℕ → List LStmt → List LStmt → LExpr × List LStmt
operated w op a v s b u r None more calls =
    (l.Bin op (in_place (is_equality op && is_pointer_type r) (is_zero w.scope a) v) (in_place (is_equality op && is_pointer_type s) (is_zero w.scope b) u), calls ++ more)
operated w op a v s b u r (Some k) more calls = (l.Slot k, calls ++ deciding op k v more u)

-- an operator is put together: its value, its type and the statements of its sides
pub record Operates (w : Spot) (op : BinOp) (a : ExprKind) (v : LExpr) (s : Option Ty) (b : ExprKind) (u : LExpr) (r : Option Ty) (slot : Option ℕ) (more calls : List LStmt)
    (value : LExpr) (type : Option Ty) (new_calls : List LStmt) : Type 0 where
  pub left : value ≡ (operated w op a v s b u r slot more calls).0
  pub told : type ≡ Some ty.Int
  pub added : new_calls ≡ (operated w op a v s b u r slot more calls).1
