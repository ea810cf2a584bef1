use Rattle.std.proofs.Common.{◌≡◌, ◌-◌, drop}
use Rattle.c_lift.specs.Places.{places_in}
use Rattle.c_lift.proofs.places.+places.Given as goal

abbrev pub invariant-left_after_all-loop-s : goal.invariant-left_after_all-loop-s
invariant-left_after_all-loop-s l = l.left - places_in (drop l.s-index l.stmts) ≡ l.room - places_in l.stmts
