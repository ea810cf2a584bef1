use Rattle.frame_transform.proofs.FunctionLemmas.{functions_more}
use Rattle.frame_transform.proofs.print.append_functions.Goals as goal

pub functions-preserved : goal.functions-preserved
functions-preserved c =
    functions_more c.args.program.now c.as_slice-functions.result.now c.functions.f c.index-functions-f.result c.args.out.now.items c.functions.out.items c.append_function.new.out.items
    c.functions-test.true c.index-functions-f.is c.functions.invariant c.in_ok-append_function.ensures
