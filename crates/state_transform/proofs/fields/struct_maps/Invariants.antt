use Rattle.std.proofs.Common.{◌≡◌, map}
use Rattle.std.specs.List.{range_with_len}
use Rattle.state_transform.specs.Fields.{struct_map}
use Rattle.state_transform.proofs.fields.struct_maps.Given as goal

abbrev pub invariant-loop-old : goal.invariant-loop-old
invariant-loop-old l = l.made.items ≡ map (struct_map l.k l.entries) (range_with_len 0 l.old)
