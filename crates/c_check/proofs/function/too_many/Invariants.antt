use Rattle.std.proofs.Common.{◌≡◌, drop}
use Rattle.c_check.specs.Words.{noted}
use Rattle.c_check.specs.Files.{past}
use Rattle.c_check.proofs.function.too_many.Given as goal

abbrev pub invariant-loop-f : goal.invariant-loop-f
invariant-loop-f l = noted l.initial.first (past l.initial.room l.functions) ≡ noted l.first (past l.room (drop l.f-index l.functions))
