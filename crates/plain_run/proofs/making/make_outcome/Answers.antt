use Rattle.std.proofs.Common.{◌≡◌, rules, refl, sym, ap, ◌∙◌}
use Rattle.c_tree.specs.Run as r
use Rattle.plain_run.specs.CoreAt.{core_at, core_now}
use Rattle.plain_run.proofs.UnlikeLemmas.{no_memory_refusal, unlike_decision}
use Rattle.plain_run.proofs.StopLemmas.{bad-outcome, is_barred, is_off}
use Rattle.plain_run.proofs.making.make_outcome.Goals as goal
use Rattle.plain_run.proofs.making.make_outcome.Goals.{then-not-is_on-via-then-not-is_on, then-not-is_on-via-else-not-is_on+then-not-may_decide}

pub returns-then-not-is_on-clause-made : goal.returns-then-not-is_on-clause-made
returns-then-not-is_on-clause-made c =
    let k = c.args.settings.now in
    let d = core_now k c.args.now.now in
    elim c.then-not-is_on.branch [
      | then-not-is_on-via-then-not-is_on w ↦ (bad-outcome k d c.args.kind c.requires.outcome (is_off k d (r.may_decide d) c.is_on.result c.is_on.ensures w.if-not-is_on.true), record { places = refl; core = refl })
      | then-not-is_on-via-else-not-is_on+then-not-may_decide w ↦ (
        bad-outcome k d c.args.kind c.requires.outcome (is_barred k d (r.may_decide d) (sym (ap (λ p. r.may_decide (core_at p c.args.now.now)) c.present-program.ensures) ∙ (sym w.may_decide.ensures ∙ w.if-not-may_decide.true))),
        record { places = refl; core = refl },
      )
    ]

pub returns-clause-made : goal.returns-clause-made
returns-clause-made c =
    let k = c.args.settings.now in
    let d = core_now k c.args.now.now in
    let differ : c.kind_of-decided.result ≡ c.args.kind → ⊥ = λ q. search rules in (
      unlike_decision k d c.in_ok-decision.decision c.args.kind c.requires.outcome c.in_ok-decision.ensures.decided
          (no_memory_refusal _ c.in_ok-decision.ensures.named) (λ q. differ (c.kind_of-decided.ensures ∙ q)) c.requires.other,
      record { places = refl; core = refl },
    )
