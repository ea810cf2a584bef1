use Rattle.std.proofs.Common.{◌∙◌, ap, sym, true, false, append-nil}
use Rattle.map_entries.proofs.NumberLemmas.{kept_more}
use Rattle.map_entries.proofs.numbers.of_kind.Goals as goal
use Rattle.map_entries.proofs.numbers.of_kind.Goals.{then-eq+in_ok-push, else-eq}

pub places-preserved : goal.places-preserved
places-preserved c = elim c.if-eq.branch [
  | then-eq+in_ok-push w ↦ kept_more c.args.kind c.kind.result c.eq.result true c.args.places.now c.places.n c.index-places-n.result c.places.numbers.items c.if-eq.numbers.items
      c.places-test.true c.index-places-n.is c.kind.ensures c.eq.ensures w.if-eq.true c.places.invariant (ap (λ v. v.items) w.numbers-is ∙ w.in_ok-push.ensures.items)
  | else-eq w ↦ kept_more c.args.kind c.kind.result c.eq.result false c.args.places.now c.places.n c.index-places-n.result c.places.numbers.items c.if-eq.numbers.items
      c.places-test.true c.index-places-n.is c.kind.ensures c.eq.ensures w.if-eq.false c.places.invariant (ap (λ v. v.items) w.numbers-is ∙ sym (append-nil c.places.numbers.items))
]
