use Rattle.std.proofs.Common.{◌≡◌, map, take}
use Rattle.patch_match.proofs.tables.slot_names.Given as goal

abbrev pub invariant-loop-slot : goal.invariant-loop-slot
invariant-loop-slot l = l.names ≡ map (λ x. x.name) (take l.slot-index l.slots)
