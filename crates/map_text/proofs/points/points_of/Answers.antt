use Rattle.std.proofs.Common.{◌∙◌, arith}
use Rattle.c_places.proofs.TallyLemmas.{seen-le, counted_more}
use Rattle.map_text.proofs.TallyLemmas.{points_more}
use Rattle.map_text.proofs.points.points_of.Goals as goal

pub number-number-requires : goal.number-number-requires
number-number-requires c =
    omega (arith, seen-le c.places.tally c.args.row.now c.places.n c.kind-kind.result c.places.invariant.0)

pub places-preserved : goal.places-preserved
places-preserved c = (
  c.number-number.ensures.counted
      ∙ counted_more c.places.tally c.args.row.now c.places.n c.index-row-n.result c.kind-kind.result c.places-test.true c.index-row-n.is c.kind-kind.ensures c.places.invariant.0,
  points_more c.places.tally c.args.row.now c.places.n c.index-row-n.result c.kind-kind.result c.number-number.result c.places.points.items c.push.new.self.items
      c.places-test.true c.index-row-n.is c.kind-kind.ensures c.places.invariant.0 c.number-number.ensures.number c.places.invariant.1 c.in_ok-push.ensures.items,
)
