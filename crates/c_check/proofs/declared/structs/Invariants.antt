use Rattle.std.proofs.Common.{◌≡◌, drop}
use Rattle.c_check.specs.Words.{noted}
use Rattle.c_check.specs.Files.{of_structs}
use Rattle.c_check.proofs.declared.structs.Given as goal

abbrev pub invariant-loop-owner : goal.invariant-loop-owner
invariant-loop-owner l = noted l.initial.first (of_structs l.file l.structs) ≡ noted l.first (of_structs l.file (drop l.owner-index l.structs))
