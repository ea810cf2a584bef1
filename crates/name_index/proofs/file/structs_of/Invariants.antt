use Rattle.std.proofs.Common.{◌≡◌, take}
use Rattle.name_index.specs.Tables.{struct_names}
use Rattle.name_index.proofs.file.structs_of.Given as goal

abbrev pub invariant-loop-owner : goal.invariant-loop-owner
invariant-loop-owner l = l.names ≡ struct_names (take l.owner-index l.structs)
