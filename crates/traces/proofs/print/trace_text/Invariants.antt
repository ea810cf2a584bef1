use Rattle.std.proofs.Common.{◌≡◌, take}
use Rattle.traces.specs.Trace.{trace}
use Rattle.traces.proofs.print.trace_text.Given as goal

abbrev pub invariant-loop-mark : goal.invariant-loop-mark
invariant-loop-mark l = l.out.items ≡ trace l.old l.new (take l.mark-index l.marks)
