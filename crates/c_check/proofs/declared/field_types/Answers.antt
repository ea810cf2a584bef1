use Rattle.std.proofs.Common.{sym, ◌∙◌}
use Rattle.c_check.specs.Words.{of_type}
use Rattle.c_check.specs.Files.{of_fields}
use Rattle.c_check.proofs.NoteLemmas.{loop_step, loop_end}
use Rattle.c_check.proofs.FileLemmas.{of_fields-more, of_fields-none}
use Rattle.c_check.proofs.declared.field_types.Goals as goal

pub loop-field-preserved : goal.loop-field-preserved
loop-field-preserved c =
    let p = c.args.file.now in
    c.loop-field.invariant
    ∙ loop_step (of_fields p) (λ q. of_type p q.name.at q.ty) c.args.fields.now c.loop-field.field-index c.field-item.result c.loop-field.first c.note_type.new.first (of_fields-more p c.field-item.result)
    c.loop-field-test.true c.field-item.is c.in_ok-note_type.ensures

pub returns : goal.returns
returns c =
    let p = c.args.file.now in
    sym (c.loop-field.invariant ∙ loop_end (of_fields p) c.args.fields.now c.loop-field.field-index c.loop-field.first (of_fields-none p) c.loop-field-test.false)
