use Rattle.std.proofs.Common.{◌≡◌, ◌≤◌, drop}
use Rattle.c_check.specs.Words.{noted}
use Rattle.c_check.specs.Files.{of_globals}
use Rattle.c_check.proofs.global.globals.Given as goal

abbrev pub invariant-loop-g : goal.invariant-loop-g
invariant-loop-g l = record {
  few : l.before ≤ 1000001;
  faults : noted l.initial.first (of_globals l.file 0 l.globals) ≡ noted l.first (of_globals l.file l.before (drop l.g-index l.globals));
}
