use Rattle.std.proofs.Common.{◌++◌, drop}
use Rattle.c_lift.specs.Around.{standing}
use Rattle.c_lift.specs.Lifts.{lift_list, after_list, locals_list, types_of}
use Rattle.c_lift.proofs.CompoundLemmas.{Whole}
use Rattle.c_lift.proofs.stmt.+lift.Given as goal

abbrev pub invariant-lift_all-loop-s : goal.invariant-lift_all-loop-s
invariant-lift_all-loop-s l =
    let w = standing l.setting l.initial.locals in
    let whole = lift_list w l.initial.made.items l.stmts in
    Whole l.setting (drop l.s-index l.stmts) l.locals l.made.items l.body.items (l.initial.body.items ++ whole.body) whole.made (after_list w.scope l.stmts)
    (l.initial.locals.slots.items ++ types_of (locals_list l.stmts)) l.initial.locals.names.items
