use Rattle.std.proofs.Common.{◌≡◌, drop}
use Rattle.c_check.specs.Inner.{around}
use Rattle.c_check.specs.Words.{noted}
use Rattle.c_check.specs.Statements.{all_ints}
use Rattle.c_check.proofs.print.all_ints.Given as goal

abbrev pub invariant-loop-arg : goal.invariant-loop-arg
invariant-loop-arg l =
    let sc = around l.file l.locals in
    noted l.initial.first (all_ints sc l.args) ≡ noted l.first (all_ints sc (drop l.arg-index l.args))
