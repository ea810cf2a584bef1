use Rattle.std.proofs.Common.{sym, ap, ◌∙◌, rules}
use denote.Enum.Bare.{same_true}
use Rattle.c_tree.specs.contracts.place.PlaceKind.{the_type}
use Rattle.c_tree.specs.Points as spec
use Rattle.c_tree.proofs.PointLemmas.{found_here, found_nowhere}
use Rattle.c_tree.proofs.place.Places.find.Goals as goal

pub returns-then-seen-k : goal.returns-then-seen-k
returns-then-seen-k c =
    let same = same_true the_type (search rules) _ _ (sym c.if-eq.ensures) in
    found_here c.row-row.result.now c.args.kind c.args.k c.loop-n.seen c.loop-n.n c.index-row-n.result c.loop-n-test.true c.index-row-n.is (ap (λ p. spec.kind_of p.act) c.index-row-n.is ∙ (sym c.kind.ensures ∙ same)) c.loop-n.invariant.0 c.if-seen-k.true
    ∙ ap (λ row. spec.find_place row c.args.kind c.args.k) c.row-row.ensures.row

pub returns : goal.returns
returns c =
    found_nowhere c.row-row.result.now c.args.kind c.args.k c.loop-n.seen c.loop-n.n c.loop-n-test.false c.loop-n.invariant.0 c.loop-n.invariant.1
    ∙ ap (λ row. spec.find_place row c.args.kind c.args.k) c.row-row.ensures.row
