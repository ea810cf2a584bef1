use Rattle.std.proofs.Common.{◌≡◌, drop}
use Rattle.c_check.specs.Words.{noted}
use Rattle.c_check.specs.Statements.{all_passed}
use Rattle.c_check.specs.Standing.{all_report}
use Rattle.c_check.proofs.stmt.+stmt.Given as goal

abbrev pub invariant-statements-loop-stmt : goal.invariant-statements-loop-stmt
invariant-statements-loop-stmt l = record {
  faults : noted l.initial.first (all_report l.stand l.initial.locals l.body) ≡ noted l.first (all_report l.stand l.locals (drop l.stmt-index l.body));
  locals : all_passed l.initial.locals l.body ≡ all_passed l.locals (drop l.stmt-index l.body);
}
