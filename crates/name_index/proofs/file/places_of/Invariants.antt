use Rattle.std.proofs.Common.{◌≡◌, take}
use Rattle.name_index.specs.Tables.{names_in}
use Rattle.name_index.proofs.file.places_of.Given as goal

abbrev pub invariant-loop-named : goal.invariant-loop-named
invariant-loop-named l = l.places ≡ names_in (take l.named-index l.names)
