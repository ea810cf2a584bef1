use Rattle.std.proofs.Common.{◌≡◌, map, take}
use Rattle.c_tree.specs.Names.{slot_names}
use Rattle.patch_match.proofs.tables.names_of_fields.Given as goal

abbrev pub invariant-loop-each : goal.invariant-loop-each
invariant-loop-each l = l.rows.items ≡ map (λ s. slot_names s.fields) (take l.each-index l.structs)
