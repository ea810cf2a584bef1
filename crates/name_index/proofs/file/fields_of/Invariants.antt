use Rattle.std.proofs.Common.{◌≡◌, take, map}
use Rattle.name_index.proofs.file.fields_of.Given as goal

abbrev pub invariant-loop-field : goal.invariant-loop-field
invariant-loop-field l = l.names ≡ map (λ f. f.name.it) (take l.field-index l.field-items)
