use Rattle.std.proofs.Common.{arith}
use Rattle.up_base.proofs.Sinks.{grown-step}
use Rattle.up_base.proofs.sink.put_all.Goals as goal

pub puts-preserved : goal.puts-preserved
puts-preserved g c = record {
  within = search (arith);
  later = omega arith;
  taken = grown-step _ _ _ c.puts.done c.in_ok-done.field-0 c.args.bytes.now c.puts.invariant.taken c.in_ok-done.ensures.took;
}
