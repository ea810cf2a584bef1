use Rattle.std.proofs.Common.{◌-◌, ◌<◌, ◌≤◌, sym, ap, subst, ◌∙◌}
use Rattle.c_lift.specs.Places.{places_in}
use Rattle.c_lift.proofs.PlaceLemmas.{too_many_places, too_many_slots, within_limits}
use Rattle.c_lift.proofs.places.passed_limit.Goals as goal

pub returns-then-left_after_all-eq0 : goal.returns-then-left_after_all-eq0
returns-then-left_after_all-eq0 c =
    too_many_places c.args.function.now (sym (c.left_after_all.ensures ∙ ap (λ xs. 9999 - places_in xs) c.as_slice.ensures) ∙ c.if-left_after_all-eq0.true)

pub returns-then-len-gt-MOST_SLOTS : goal.returns-then-len-gt-MOST_SLOTS
returns-then-len-gt-MOST_SLOTS c =
    too_many_slots c.args.function.now (λ e. c.if-left_after_all-eq0.false (c.left_after_all.ensures ∙ ap (λ xs. 9999 - places_in xs) c.as_slice.ensures ∙ e))
    (subst (λ n. 128 < n) c.len.ensures c.if-len-gt-MOST_SLOTS.true)

pub returns-else-len-gt-MOST_SLOTS : goal.returns-else-len-gt-MOST_SLOTS
returns-else-len-gt-MOST_SLOTS c =
    within_limits c.args.function.now (λ e. c.if-left_after_all-eq0.false (c.left_after_all.ensures ∙ ap (λ xs. 9999 - places_in xs) c.as_slice.ensures ∙ e))
    (subst (λ n. n ≤ 128) c.len.ensures c.if-len-gt-MOST_SLOTS.false)
