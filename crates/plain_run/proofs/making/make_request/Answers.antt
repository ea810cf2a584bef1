use Rattle.std.proofs.Common.{refl, sym, ap, ◌∙◌}
use Rattle.c_tree.specs.Run as r
use Rattle.plain_run.specs.CoreAt.{core_at, core_now}
use Rattle.plain_run.proofs.StopLemmas.{bad-Request, is_barred, is_off}
use Rattle.plain_run.proofs.making.make_request.Goals as goal
use Rattle.plain_run.proofs.making.make_request.Goals.{then-not-is_on-via-then-not-is_on, then-not-is_on-via-else-not-is_on+then-not-is_due}

pub returns-then-not-is_on : goal.returns-then-not-is_on
returns-then-not-is_on c =
    let k = c.args.settings.now in
    let d = core_now k c.args.now.now in
    elim c.then-not-is_on.branch [
      | then-not-is_on-via-then-not-is_on w ↦ (bad-Request k d (is_off k d (r.is_due k d) c.is_on.result c.is_on.ensures w.if-not-is_on.true), record { places = refl; core = refl })
      | then-not-is_on-via-else-not-is_on+then-not-is_due w ↦ (
        bad-Request k d (is_barred k d (r.is_due k d) (sym (ap (λ p. r.is_due k (core_at p c.args.now.now)) c.present-program.ensures) ∙ (sym w.is_due.ensures ∙ w.if-not-is_due.true))),
        record { places = refl; core = refl },
      )
    ]
