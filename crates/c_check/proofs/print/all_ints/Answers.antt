use Rattle.std.proofs.Common.{sym, ◌∙◌}
use Rattle.c_check.specs.declared.types.Test.TheVariants as test
use Rattle.c_check.specs.Inner.{around}
use Rattle.c_check.specs.Words.{valued}
use Rattle.c_check.specs.Statements.{all_ints}
use Rattle.c_check.proofs.NoteLemmas.{loop_step, loop_end}
use Rattle.c_check.proofs.StatementLemmas.{all_ints-more, all_ints-none}
use Rattle.c_check.proofs.print.all_ints.Goals as goal

pub loop-arg-preserved : goal.loop-arg-preserved
loop-arg-preserved c =
    let sc = around c.args.file.now c.args.locals.now in
    c.loop-arg.invariant
    ∙ loop_step (all_ints sc) (valued sc test.Int) c.args.args.now c.loop-arg.arg-index c.arg-item.result c.loop-arg.first c.value.new.first (all_ints-more sc c.arg-item.result)
    c.loop-arg-test.true c.arg-item.is c.in_ok-value.ensures.faults

pub returns : goal.returns
returns c =
    let sc = around c.args.file.now c.args.locals.now in
    sym (c.loop-arg.invariant ∙ loop_end (all_ints sc) c.args.args.now c.loop-arg.arg-index c.loop-arg.first (all_ints-none sc) c.loop-arg-test.false)
