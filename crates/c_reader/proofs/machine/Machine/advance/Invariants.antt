use Rattle.std.proofs.Common.{◌≤◌}
use Rattle.c_reader.specs.Stacks.{to_come, so_far}
use Rattle.c_reader.specs.Follow.{FitsReader, Leads, work}
use Rattle.c_reader.proofs.machine.Machine.advance.Given as goal

abbrev pub invariant-turns : goal.invariant-turns
invariant-turns l = record {
  leads : Leads l.ahead (to_come l.initial.self) (so_far l.initial.self) (to_come l.self) (so_far l.self);
  fits : FitsReader (to_come l.self);
  lower : l.self.depth ≤ l.initial.self.depth;
  fewer : l.self.operators ≤ l.initial.self.operators;
}

abbrev pub decreases-turns : goal.decreases-turns
decreases-turns l = work (to_come l.self)
