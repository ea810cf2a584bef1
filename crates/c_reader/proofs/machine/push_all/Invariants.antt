use Rattle.std.proofs.Common.{◌≡◌, ◌++◌, reverse, ◌≤◌, length, drop}
use Rattle.c_reader.proofs.machine.push_all.Given as goal

abbrev pub invariant-loop-left : goal.invariant-loop-left
invariant-loop-left l = record {
  in_range : l.left ≤ length l.symbols;
  pushed : reverse l.stack.items ≡ drop l.left l.symbols ++ reverse l.initial.stack.items;
}

abbrev pub decreases-loop-left : goal.decreases-loop-left
decreases-loop-left l = l.left
