use Rattle.std.proofs.Common.{◌++◌, drop}
use Rattle.c_lift.specs.Around.{around}
use Rattle.c_lift.specs.Taking.{take_list}
use Rattle.c_lift.proofs.TakeLemmas.{Whole}
use Rattle.c_lift.proofs.take.+take.Given as goal

abbrev pub invariant-take_arguments-loop-arg : goal.invariant-take_arguments-loop-arg
invariant-take_arguments-loop-arg l =
    let w = around l.at in
    let whole = take_list w l.initial.made.items l.initial.left l.args in
    Whole w l.left (drop l.arg-index l.args) l.values.items l.calls.items l.made.items whole.values (l.initial.calls.items ++ whole.calls) whole.made
