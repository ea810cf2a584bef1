use Rattle.std.proofs.Common.{◌≡◌, ℕ, sym, arith, ap, ◌∙◌}
use Rattle.std.specs.Prelude.{cond}
use Rattle.c_tree.specs.Run as r
use Rattle.world_core.specs.History.{core}
use Rattle.drive.proofs.FilterLemmas.{filter-more}
use Rattle.drive.proofs.seed.count_eligible.Goals as goal
use Rattle.drive.proofs.seed.count_eligible.Goals.{then-may_step, else-may_step}

pub loop-t-preserved : goal.loop-t-preserved
loop-t-preserved c =
    let p = r.may_step c.args.world.now.settings (core c.args.world.now) in
    let m = filter-more p c.loop-t.t in
    elim c.if-may_step.branch [
      | then-may_step w ↦ (let e : ◌≡◌ {A = ℕ} (cond (p c.loop-t.t) 1 0) 1 = ap (λ b. cond b 1 0) (sym c.may_step.ensures.step ∙ w.if-may_step.true) in (omega (arith, m, e), omega arith))
      | else-may_step w ↦ (let e : ◌≡◌ {A = ℕ} (cond (p c.loop-t.t) 1 0) 0 = ap (λ b. cond b 1 0) (sym c.may_step.ensures.step ∙ w.if-may_step.false) in (omega (arith, m, e), omega arith))
    ]
