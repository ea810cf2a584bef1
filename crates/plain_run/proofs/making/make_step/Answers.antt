use Rattle.std.proofs.Common.{refl, sym, ap, ◌∙◌}
use Rattle.c_tree.specs.Run as r
use Rattle.plain_run.specs.CoreAt.{core_at, core_now}
use Rattle.plain_run.proofs.StopLemmas.{bad-Step, is_barred, is_off}
use Rattle.plain_run.proofs.making.make_step.Goals as goal
use Rattle.plain_run.proofs.making.make_step.Goals.{then-not-is_on-via-then-not-is_on, then-not-is_on-via-else-not-is_on+then-not-may_step}

pub returns-then-not-is_on-clause-made : goal.returns-then-not-is_on-clause-made
returns-then-not-is_on-clause-made c =
    let k = c.args.settings.now in
    let d = core_now k c.args.now.now in
    elim c.then-not-is_on.branch [
      | then-not-is_on-via-then-not-is_on w ↦ (bad-Step k d c.args.t (is_off k d (r.may_step k d c.args.t) c.is_on.result c.is_on.ensures w.if-not-is_on.true), record { places = refl; core = refl })
      | then-not-is_on-via-else-not-is_on+then-not-may_step w ↦ (
        bad-Step k d c.args.t (is_barred k d (r.may_step k d c.args.t) (sym (ap (λ p. r.may_step k (core_at p c.args.now.now) c.args.t) c.present-program.ensures) ∙ (sym w.may_step.ensures ∙ w.if-not-may_step.true))),
        record { places = refl; core = refl },
      )
    ]
