use Rattle.std.proofs.Common.{sym, ◌∙◌}
use Rattle.c_check.specs.Files.{of_struct, of_structs}
use Rattle.c_check.proofs.NoteLemmas.{loop_step, loop_end}
use Rattle.c_check.proofs.FileLemmas.{of_structs-more, of_structs-none}
use Rattle.c_check.proofs.declared.structs.Goals as goal

pub loop-owner-preserved : goal.loop-owner-preserved
loop-owner-preserved c =
    let p = c.args.file.now in
    c.loop-owner.invariant
    ∙ loop_step (of_structs p) (of_struct p) c.args.structs.now c.loop-owner.owner-index c.owner-item.result c.loop-owner.first c.fields.new.first (of_structs-more p c.owner-item.result)
    c.loop-owner-test.true c.owner-item.is c.in_ok-fields.ensures

pub returns : goal.returns
returns c =
    let p = c.args.file.now in
    sym (c.loop-owner.invariant ∙ loop_end (of_structs p) c.args.structs.now c.loop-owner.owner-index c.loop-owner.first (of_structs-none p) c.loop-owner-test.false)
