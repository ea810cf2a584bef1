use Rattle.std.proofs.Common.{◌≡◌, ◌-◌, ◌≤◌, length, drop}
use Rattle.c_check.proofs.locals.Locals.leave.Given as goal

abbrev pub invariant-loop-self : goal.invariant-loop-self
invariant-loop-self l = record {
  enough : l.mark.names ≤ length l.self.names;
  names : drop (length l.self.names - l.mark.names) l.self.names ≡ drop (length l.initial.self.names - l.mark.names) l.initial.self.names;
  block : l.self.block ≡ 0;
  slots : l.self.slots ≡ l.initial.self.slots;
}

abbrev pub decreases-loop-self : goal.decreases-loop-self
decreases-loop-self l = length l.self.names
