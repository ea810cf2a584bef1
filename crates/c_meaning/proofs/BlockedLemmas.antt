-- A step is blocked exactly where the thread isn't able.
use Rattle.std.proofs.Common.{◌≡◌, Bool, true, false, not, refl, sym, ap, ◌∙◌}
use Rattle.c_tree.specs.Able.{able}
use Rattle.c_tree.specs.Step.{Outcome, Done, Trapped, Finished, Blocked, step}
use Rattle.c_tree.proofs.StepLemmas.{is_blocked, step-blocked}
use Rattle.c_meaning.specs.Laws.{BlockedWhereNotAble}

is_so : (o : Outcome) → is_blocked o ≡ true → o ≡ Blocked
is_so (Done s) h = cc
is_so (Trapped c) h = cc
is_so (Finished n) h = cc
is_so Blocked h = refl

false_where_not : (b : Bool) → not b ≡ true → b ≡ false
false_where_not true h = cc
false_where_not false h = refl

pub blocked-not_able : BlockedWhereNotAble
blocked-not_able p t s =
    (λ e. false_where_not (able p s t) (sym (step-blocked p t s) ∙ ap is_blocked e), λ a. is_so (step p t s) (step-blocked p t s ∙ ap not a))
