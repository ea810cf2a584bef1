use Rattle.std.proofs.Common.{◌≡◌, drop}
use Rattle.c_tree.specs.Same as spec
use Rattle.stack_map.proofs.function.same_slots.Given as goal

-- what is left decides
abbrev pub invariant-loop-i : goal.invariant-loop-i
invariant-loop-i l = spec.same_slots l.k l.a l.b ≡ spec.same_slots l.k (drop l.i l.a) (drop l.i l.b)
