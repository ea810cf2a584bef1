use Rattle.std.proofs.Common.{sym, ◌∙◌}
use Rattle.std.specs.Prelude.{reverse}
use Rattle.c_check.proofs.FileLemmas.{seconds_step, seconds_end}
use Rattle.c_check.proofs.declared.second_structs.Goals as goal

pub loop-owner-preserved : goal.loop-owner-preserved
loop-owner-preserved c =
    c.loop-owner.invariant
    ∙ seconds_step (λ d. d.name) c.args.structs.now c.loop-owner.owner-index c.owner-item.result c.loop-owner.seen c.in_ok-seen.seen c.loop-owner.first c.with_name.new.first
    c.loop-owner-test.true c.owner-item.is c.in_ok-seen.ensures.faults c.in_ok-seen.ensures.seen

pub returns : goal.returns
returns c = sym (c.loop-owner.invariant ∙ seconds_end (λ d. d.name) c.args.structs.now c.loop-owner.owner-index (reverse c.loop-owner.seen) c.loop-owner.first c.loop-owner-test.false)
