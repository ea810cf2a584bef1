use Rattle.std.proofs.Common.{◌≡◌, ◌++◌}
use Rattle.frame_transform.specs.Line.{times}
use Rattle.frame_transform.proofs.line.append_times.Given as goal

abbrev pub invariant-times : goal.invariant-times
invariant-times l = l.out.items ≡ l.initial.out.items ++ times l.i l.text
