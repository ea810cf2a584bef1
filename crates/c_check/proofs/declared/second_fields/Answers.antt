use Rattle.std.proofs.Common.{sym, ◌∙◌}
use Rattle.std.specs.Prelude.{reverse}
use Rattle.c_check.proofs.FileLemmas.{seconds_step, seconds_end}
use Rattle.c_check.proofs.declared.second_fields.Goals as goal

pub loop-field-preserved : goal.loop-field-preserved
loop-field-preserved c =
    c.loop-field.invariant
    ∙ seconds_step (λ d. d.name) c.args.fields.now c.loop-field.field-index c.field-item.result c.loop-field.seen c.in_ok-seen.seen c.loop-field.first c.with_name.new.first
    c.loop-field-test.true c.field-item.is c.in_ok-seen.ensures.faults c.in_ok-seen.ensures.seen

pub returns : goal.returns
returns c = sym (c.loop-field.invariant ∙ seconds_end (λ d. d.name) c.args.fields.now c.loop-field.field-index (reverse c.loop-field.seen) c.loop-field.first c.loop-field-test.false)
