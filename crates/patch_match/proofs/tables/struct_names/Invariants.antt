use Rattle.std.proofs.Common.{◌≡◌, map, take}
use Rattle.patch_match.proofs.tables.struct_names.Given as goal

abbrev pub invariant-loop-each : goal.invariant-loop-each
invariant-loop-each l = l.names ≡ map (λ x. x.name) (take l.each-index l.structs)
