use Rattle.std.proofs.Common.{◌≡◌, pos, replicate}
use Rattle.store_mem.proofs.heap.zeros.Given as goal

abbrev pub invariant-zeros : goal.invariant-zeros
invariant-zeros l = l.values.items ≡ replicate l.counter (pos 0)
