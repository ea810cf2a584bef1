use Rattle.std.proofs.Common.{◌≡◌, drop}
use Rattle.c_check.specs.Words.{noted}
use Rattle.c_check.specs.Files.{of_fields}
use Rattle.c_check.proofs.declared.field_types.Given as goal

abbrev pub invariant-loop-field : goal.invariant-loop-field
invariant-loop-field l = noted l.initial.first (of_fields l.file l.fields) ≡ noted l.first (of_fields l.file (drop l.field-index l.fields))
