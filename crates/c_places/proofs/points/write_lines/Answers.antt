use Rattle.std.proofs.Common.{◌∙◌, arith}
use Rattle.c_places.proofs.TallyLemmas.{counted_more, line_more, seen-le}
use Rattle.c_places.proofs.points.write_lines.Goals as goal

pub number-k-requires : goal.number-k-requires
number-k-requires c =
    omega (arith, seen-le c.places.tally c.args.row.now c.places.n c.kind-kind.result c.places.invariant.0)

pub places-preserved : goal.places-preserved
places-preserved c = (
  c.number-k.ensures.counted ∙ counted_more c.places.tally c.args.row.now c.places.n c.index-row-n.result c.kind-kind.result c.places-test.true c.index-row-n.is c.kind-kind.ensures c.places.invariant.0,
  line_more c.args.function.now c.args.row.now c.places.n c.index-row-n.result c.kind-kind.result c.places.tally c.number-k.result c.args.out.now.items c.places.out.items c.write_line.new.out.items
      c.places-test.true c.index-row-n.is c.kind-kind.ensures c.places.invariant.0 c.number-k.ensures.number c.places.invariant.1 c.in_ok-write_line.ensures,
)
