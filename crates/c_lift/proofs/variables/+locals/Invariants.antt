use Rattle.std.proofs.Common.{◌≡◌, ◌++◌, drop}
use Rattle.c_lift.specs.Variables.{slots_list}
use Rattle.c_lift.proofs.variables.+locals.Given as goal

abbrev pub invariant-add_all-loop-s : goal.invariant-add_all-loop-s
invariant-add_all-loop-s l = l.slots.items ++ slots_list (drop l.s-index l.stmts) ≡ l.initial.slots.items ++ slots_list l.stmts
