use Rattle.std.proofs.Common.{◌≡◌, take, map}
use Rattle.name_index.specs.Tables.{field_names}
use Rattle.name_index.proofs.file.fields_of_all.Given as goal

abbrev pub invariant-loop-owner : goal.invariant-loop-owner
invariant-loop-owner l = l.all.items ≡ map field_names (take l.owner-index l.structs)
