use Rattle.std.proofs.Common.{◌≡◌, drop}
use Rattle.c_check.specs.Words.{noted}
use Rattle.c_check.specs.Files.{all_declared, parametered}
use Rattle.c_check.proofs.function.parameters.Given as goal

abbrev pub invariant-loop-param : goal.invariant-loop-param
invariant-loop-param l = record {
  faults : noted l.initial.first (parametered l.file l.initial.locals l.params) ≡ noted l.first (parametered l.file l.locals (drop l.param-index l.params));
  locals : all_declared l.initial.locals l.params ≡ all_declared l.locals (drop l.param-index l.params);
}
