use Rattle.std.proofs.Common.{◌≡◌, ◌≤◌, ◌-◌, length, take}
use Rattle.up_base.specs.Outside.{grown}
use Rattle.up_base.proofs.sink.put_all.Given as goal

abbrev pub invariant-puts : goal.invariant-puts
invariant-puts g l = record {
  within : l.done ≤ length l.bytes;
  later : (g.S.Sink.sunk l.fn.sink).faults ≤ (g.S.Sink.sunk l.sink).faults;
  taken : (g.S.Sink.sunk l.sink).taken ≡ grown (g.S.Sink.sunk l.fn.sink).taken (take l.done l.bytes);
}

abbrev pub decreases-puts : goal.decreases-puts
decreases-puts g l = length l.bytes - l.done
