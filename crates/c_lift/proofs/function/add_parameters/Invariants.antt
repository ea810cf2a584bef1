use Rattle.std.proofs.Common.{◌≡◌, drop}
use Rattle.c_tree.specs.Scope.{with_parameters}
use Rattle.c_lift.specs.Around.{standing}
use Rattle.c_lift.proofs.function.add_parameters.Given as goal

abbrev pub invariant-loop-param : goal.invariant-loop-param
invariant-loop-param l =
    with_parameters (standing l.setting l.locals).scope (drop l.param-index l.params) ≡ with_parameters (standing l.setting l.initial.locals).scope l.params
