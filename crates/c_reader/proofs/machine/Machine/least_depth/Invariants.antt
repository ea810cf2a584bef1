use Rattle.std.proofs.Common.{◌≡◌, ◌≤◌, take, length, reverse}
use Rattle.c_reader.specs.Depth.{least}
use Rattle.c_reader.proofs.machine.Machine.least_depth.Given as goal

abbrev pub invariant-loop-left : goal.invariant-loop-left
invariant-loop-left l = record {
  in_range : l.left ≤ length l.symbols;
  same : least (reverse l.symbols) l.initial.depth ≡ least (reverse (take l.left l.symbols)) l.depth;
}

abbrev pub decreases-loop-left : goal.decreases-loop-left
decreases-loop-left l = l.left
