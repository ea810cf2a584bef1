use Rattle.std.proofs.Common.{◌≡◌, ℕ, ◌<◌, length, sym, arith, ap, ◌∙◌}
use Rattle.std.specs.Prelude.{cond, filter}
use Rattle.std.specs.List.{range_with_len}
use Rattle.c_tree.specs.Run as r
use Rattle.world_core.specs.History.{core}
use Rattle.drive.proofs.FilterLemmas.{filter-more, nth, past}
use Rattle.drive.proofs.seed.nth_eligible.Goals as goal
use Rattle.drive.proofs.seed.nth_eligible.Goals.{then-may_step+else-left-eq0, else-may_step}

pub loop-t-preserved : goal.loop-t-preserved
loop-t-preserved c =
    let p = r.may_step c.args.world.now.settings (core c.args.world.now) in
    let m = filter-more p c.loop-t.t in
    elim c.if-may_step.branch [
      | then-may_step+else-left-eq0 w ↦ (let e : ◌≡◌ {A = ℕ} (cond (p c.loop-t.t) 1 0) 1 = ap (λ b. cond b 1 0) (sym c.may_step.ensures.step ∙ w.if-may_step.true) in omega (arith, m, e))
      | else-may_step w ↦ (let e : ◌≡◌ {A = ℕ} (cond (p c.loop-t.t) 1 0) 0 = ap (λ b. cond b 1 0) (sym c.may_step.ensures.step ∙ w.if-may_step.false) in omega (arith, m, e))
    ]

pub returns-then-left-eq0-clause-value : goal.returns-then-left-eq0-clause-value
returns-then-left-eq0-clause-value c =
    let p = r.may_step c.args.world.now.settings (core c.args.world.now) in
    let h : c.loop-t.t < length (core c.args.world.now).state.threads = omega (arith, c.threads-n.ensures.value) in
    let f : length (filter p (range_with_len 0 c.loop-t.t)) ≡ c.args.index = omega (arith, c.loop-t.invariant) in
    sym (nth p (length (core c.args.world.now).state.threads) c.loop-t.t c.args.index h (sym c.may_step.ensures.step ∙ c.if-may_step.true) f)

pub returns-clause-value : goal.returns-clause-value
returns-clause-value c =
    let p = r.may_step c.args.world.now.settings (core c.args.world.now) in
    let e : c.loop-t.t ≡ length (core c.args.world.now).state.threads = omega (arith, c.threads-n.ensures.value) in
    past p (length (core c.args.world.now).state.threads) c.loop-t.t c.args.index c.loop-t.left e c.loop-t.invariant
