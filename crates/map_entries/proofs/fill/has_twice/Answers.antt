use Rattle.std.proofs.Common.{◌≡◌, ◌∙◌, nat_eq, true, false, cond, take, map, sym, ap}
use Rattle.std.specs.Prelude.{not}
use Rattle.std.specs.List.{list_any}
use Rattle.map_entries.proofs.TwiceLemmas.{seen_is, found_twice, once_more, filled_more}
use Rattle.map_entries.proofs.fill.has_twice.Goals as goal

pub returns-then-not-branch : goal.returns-then-not-branch
returns-then-not-branch c =
    let seen : list_any (nat_eq c.fill-item.result.slot) (map (λ x. x.slot) (take c.loop-fill.fill-index c.args.fills.now)) ≡ true =
    sym (c.loop-fill.invariant.filled c.fill-item.result.slot) ∙ (seen_is c.in_ok-insert.field-0 _ c.in_ok-insert.ensures.added ∙ ap not c.if-not-branch.true) in
    sym (found_twice c.args.fills.now c.loop-fill.fill-index c.fill-item.result c.loop-fill-test.true c.fill-item.is seen)

pub loop-fill-preserved : goal.loop-fill-preserved
loop-fill-preserved c =
    let new : list_any (nat_eq c.fill-item.result.slot) (map (λ x. x.slot) (take c.loop-fill.fill-index c.args.fills.now)) ≡ false =
    sym (c.loop-fill.invariant.filled c.fill-item.result.slot) ∙ (seen_is c.in_ok-insert.field-0 _ c.in_ok-insert.ensures.added ∙ ap not c.if-not-branch.false) in
    record {
      once = once_more c.args.fills.now c.loop-fill.fill-index c.fill-item.result c.loop-fill-test.true c.fill-item.is new c.loop-fill.invariant.once;
      filled = λ q. c.in_ok-insert.ensures.updates.0 q
          ∙ (ap (λ b. cond (nat_eq c.fill-item.result.slot q) true b) (c.loop-fill.invariant.filled q) ∙ sym (filled_more c.args.fills.now c.loop-fill.fill-index c.fill-item.result q c.loop-fill-test.true c.fill-item.is));
    }
