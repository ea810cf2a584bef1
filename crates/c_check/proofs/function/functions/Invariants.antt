use Rattle.std.proofs.Common.{◌≡◌, drop}
use Rattle.c_check.specs.Words.{noted}
use Rattle.c_check.specs.Files.{of_functions}
use Rattle.c_check.proofs.function.functions.Given as goal

abbrev pub invariant-loop-f : goal.invariant-loop-f
invariant-loop-f l = noted l.initial.first (of_functions l.file l.functions) ≡ noted l.first (of_functions l.file (drop l.f-index l.functions))
