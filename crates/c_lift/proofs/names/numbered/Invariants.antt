use Rattle.std.proofs.Common.{◌≡◌, ◌++◌, [], take, drop}
use Rattle.c_lift.specs.Variables.{numbered_after}
use Rattle.c_lift.proofs.names.numbered.Given as goal

abbrev pub invariant-loop-i : goal.invariant-loop-i
invariant-loop-i l = l.named.items ++ numbered_after (take l.i l.slots) (drop l.i l.slots) ≡ numbered_after [] l.slots
