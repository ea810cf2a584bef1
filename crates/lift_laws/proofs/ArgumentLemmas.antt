-- Taking the calls out of the arguments of a call, one by one.
use Rattle.std.proofs.Common.{◌≡◌, ◌++◌, List, [], ◌∷◌, drop, refl}
use Rattle.c_tree.specs.Compute.{literals}
use Rattle.c_tree.specs.declared.ty.Ty.{Ty}
use Rattle.c_tree.specs.declared.program.Expr.{Expr}
use Rattle.c_tree.specs.declared.program.ExprKind.TheBlock.{hidden-the_row-Expr-1 as args_of}
use Rattle.c_tree.specs.declared.program.Field.{Field}
use Rattle.c_tree.specs.Lifting.{Spot, take_calls, take_arguments, fitted_first}

pub list-more : (w : Spot) (made : List Ty) (qs : List Field) (x : Expr) (rest : List Expr) → take_arguments w made qs (args_of (x ∷ rest)) ≡
    (let a = take_calls w made x.kind in
    let b = take_arguments w a.made (drop 1 qs) (args_of rest) in
    record { calls = a.calls ++ b.calls; values = fitted_first w.scope qs x.kind a.value ∷ b.values; made = b.made })
unfolding literals take_calls take_arguments
list-more w made qs x rest = refl

pub list-none : (w : Spot) (made : List Ty) (qs : List Field) → take_arguments w made qs (args_of []) ≡ record { calls = []; values = []; made = made }
unfolding literals take_calls take_arguments
list-none w made qs = refl
