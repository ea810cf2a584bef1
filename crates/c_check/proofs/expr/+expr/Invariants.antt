use Rattle.std.proofs.Common.{◌≡◌, drop}
use Rattle.c_check.specs.Inner.{around}
use Rattle.c_check.specs.Words.{noted, arguments}
use Rattle.c_check.proofs.expr.+expr.Given as goal

abbrev pub invariant-all_arguments-loop-arg : goal.invariant-all_arguments-loop-arg
invariant-all_arguments-loop-arg l =
    let sc = around l.file l.locals in
    noted l.initial.first (arguments sc l.initial.left l.args) ≡ noted l.first (arguments sc l.left (drop l.arg-index l.args))
