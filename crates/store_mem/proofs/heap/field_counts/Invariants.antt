use Rattle.std.proofs.Common.{◌≡◌, length, map, take}
use Rattle.store_mem.proofs.heap.field_counts.Given as goal

abbrev pub invariant-loop-s : goal.invariant-loop-s
invariant-loop-s l = l.counts.items ≡ map (λ s. length s.fields) (take l.s-index l.structs)
