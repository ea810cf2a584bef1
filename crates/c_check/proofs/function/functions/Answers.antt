use Rattle.std.proofs.Common.{sym, ◌∙◌}
use Rattle.c_check.specs.Files.{of_function, of_functions}
use Rattle.c_check.proofs.NoteLemmas.{loop_step, loop_end}
use Rattle.c_check.proofs.FileLemmas.{of_functions-more, of_functions-none}
use Rattle.c_check.proofs.function.functions.Goals as goal

pub loop-f-preserved : goal.loop-f-preserved
loop-f-preserved c =
    let p = c.args.file.now in
    c.loop-f.invariant
    ∙ loop_step (of_functions p) (of_function p) c.args.functions.now c.loop-f.f-index c.f-item.result c.loop-f.first c.function.new.first (of_functions-more p c.f-item.result)
    c.loop-f-test.true c.f-item.is c.in_ok-function.ensures

pub returns : goal.returns
returns c =
    let p = c.args.file.now in
    sym (c.loop-f.invariant ∙ loop_end (of_functions p) c.args.functions.now c.loop-f.f-index c.loop-f.first (of_functions-none p) c.loop-f-test.false)
