use Rattle.std.proofs.Common.{◌≡◌, map, take}
use Rattle.c_tree.specs.Names.{slot_names}
use Rattle.patch_match.proofs.tables.names_of_slots.Given as goal

abbrev pub invariant-loop-function : goal.invariant-loop-function
invariant-loop-function l = l.rows.items ≡ map (λ f. slot_names f.slots) (take l.function-index l.functions)
