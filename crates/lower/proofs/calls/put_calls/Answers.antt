use Rattle.std.proofs.Common.{refl, arith}
use Rattle.lower.proofs.CallLemmas.{parts-more, spots-more, parts-all, spots-all}
use Rattle.lower.proofs.calls.put_calls.Goals as goal

pub each-preserved : goal.each-preserved
each-preserved c = (
  parts-more c.args.program.now c.args.row.now c.args.marks.now c.each.n _ _ c.index-row-n.result _ c.each.body.items c.put_call_at.new.body.items
      (omega arith) (omega arith) c.index-row-n.is refl c.in_ok-place.ensures c.each.invariant.0 c.in_ok-from.ensures.body,
  spots-more c.args.program.now c.args.row.now c.args.marks.now c.each.n _ _ c.index-row-n.result c.each.from c.in_ok-from.from _ c.each.spots.items c.put_call_at.new.spots.items
      (omega arith) (omega arith) c.index-row-n.is refl c.in_ok-place.ensures c.in_ok-from.ensures.at c.each.invariant.1 c.in_ok-from.ensures.spots,
)

pub returns-clause-body : goal.returns-clause-body
returns-clause-body c = parts-all c.args.program.now c.args.row.now c.args.marks.now c.each.n _ c.each.body.items (omega arith) c.each.invariant.0

pub returns-clause-spots : goal.returns-clause-spots
returns-clause-spots c = spots-all c.args.program.now c.args.row.now c.args.marks.now c.each.n c.each.from _ c.each.spots.items (omega arith) c.each.invariant.1
