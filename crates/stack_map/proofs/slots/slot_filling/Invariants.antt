use Rattle.std.proofs.Common.{◌≡◌, drop}
use Rattle.c_tree.specs.MapStack as spec
use Rattle.stack_map.proofs.slots.slot_filling.Given as goal

abbrev pub invariant-loop-fill : goal.invariant-loop-fill
invariant-loop-fill l = spec.fill_for l.fills l.slot ≡ spec.fill_for (drop l.fill-index l.fills) l.slot
