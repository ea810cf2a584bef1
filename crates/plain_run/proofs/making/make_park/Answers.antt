use Rattle.std.proofs.Common.{refl, sym, ap, ◌∙◌}
use Rattle.c_tree.specs.Run as r
use Rattle.plain_run.specs.CoreAt.{core_at, core_now}
use Rattle.plain_run.proofs.StopLemmas.{bad-Park, is_barred, is_off, is_open, keeps_core, on_err}
use Rattle.plain_run.proofs.making.make_park.Goals as goal
use Rattle.plain_run.proofs.making.make_park.Goals.{then-not-is_on-via-then-not-is_on, then-not-is_on-via-else-not-is_on+then-not-may_park}

pub returns-then-not-is_on-clause-made : goal.returns-then-not-is_on-clause-made
returns-then-not-is_on-clause-made c =
    let k = c.args.settings.now in
    let d = core_now k c.args.now.now in
    elim c.then-not-is_on.branch [
      | then-not-is_on-via-then-not-is_on w ↦ (bad-Park k d c.args.t (is_off k d (r.may_park d c.args.t) c.is_on.result c.is_on.ensures w.if-not-is_on.true), record { places = refl; core = refl })
      | then-not-is_on-via-else-not-is_on+then-not-may_park w ↦ (
        bad-Park k d c.args.t (is_barred k d (r.may_park d c.args.t) (sym (ap (λ p. r.may_park (core_at p c.args.now.now) c.args.t) c.present-program.ensures) ∙ (sym w.may_park.ensures ∙ w.if-not-may_park.true))),
        record { places = refl; core = refl },
      )
    ]

pub returns-in_err-park-clause-err : goal.returns-in_err-park-clause-err
returns-in_err-park-clause-err c =
    on_err c.from_residual.result (keeps_core c.args.settings.now c.args.places.now c.args.now.now c.park.new.now c.in_err-park.ensures.err)

pub returns-clause-made : goal.returns-clause-made
returns-clause-made c =
    let k = c.args.settings.now in
    let d = core_now k c.args.now.now in
    c.in_ok-park.ensures.ok k c.args.places.now c.requires.ready
    (is_open k d (r.may_park d c.args.t) c.is_on.result c.is_on.ensures c.if-not-is_on.false
    (sym (ap (λ p. r.may_park (core_at p c.args.now.now) c.args.t) c.present-program.ensures) ∙ (sym c.may_park.ensures ∙ c.if-not-may_park.false)))
