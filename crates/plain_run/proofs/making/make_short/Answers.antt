use Rattle.std.proofs.Common.{refl, sym, ap, ◌∙◌}
use Rattle.c_tree.specs.Run as r
use Rattle.c_tree.specs.declared.event.EventKind.TheVariants.{Refuse}
use Rattle.c_tree.specs.declared.event.Reason.TheVariants.{Memory}
use Rattle.plain_run.specs.CoreAt.{core_at, core_now}
use Rattle.plain_run.proofs.StopLemmas.{bad-outcome, is_barred, is_off}
use Rattle.plain_run.proofs.making.make_short.Goals as goal
use Rattle.plain_run.proofs.making.make_short.Goals.{then-not-is_on-via-then-not-is_on, then-not-is_on-via-else-not-is_on+then-not-may_decide}

pub returns-then-not-is_on : goal.returns-then-not-is_on
returns-then-not-is_on c =
    let k = c.args.settings.now in
    let d = core_now k c.args.now.now in
    elim c.then-not-is_on.branch [
      | then-not-is_on-via-then-not-is_on w ↦ (bad-outcome k d (Refuse Memory) tt (is_off k d (r.may_decide d) c.is_on.result c.is_on.ensures w.if-not-is_on.true), record { places = refl; core = refl })
      | then-not-is_on-via-else-not-is_on+then-not-may_decide w ↦ (
        bad-outcome k d (Refuse Memory) tt (is_barred k d (r.may_decide d) (sym (ap (λ p. r.may_decide (core_at p c.args.now.now)) c.present-program.ensures) ∙ (sym w.may_decide.ensures ∙ w.if-not-may_decide.true))),
        record { places = refl; core = refl },
      )
    ]
