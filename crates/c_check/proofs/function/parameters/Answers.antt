use Rattle.std.proofs.Common.{sym, ◌∙◌}
use Rattle.c_check.proofs.FileLemmas.{parameters_step, parameters_end, all_declared_step, all_declared_end}
use Rattle.c_check.proofs.function.parameters.Goals as goal

pub loop-param-preserved : goal.loop-param-preserved
loop-param-preserved c =
    record {
      faults = c.loop-param.invariant.faults
          ∙ parameters_step c.args.file.now c.loop-param.locals c.declare.new.locals c.args.params.now c.loop-param.param-index c.param-item.result c.loop-param.first c.declare.new.first
          c.loop-param-test.true c.param-item.is c.in_ok-declare.ensures.faults c.in_ok-declare.ensures.locals;
      locals = c.loop-param.invariant.locals
          ∙ all_declared_step c.loop-param.locals c.declare.new.locals c.args.params.now c.loop-param.param-index c.param-item.result
          c.loop-param-test.true c.param-item.is c.in_ok-declare.ensures.locals;
    }

pub returns-clause-locals : goal.returns-clause-locals
returns-clause-locals c = sym (c.loop-param.invariant.locals ∙ all_declared_end c.loop-param.locals c.args.params.now c.loop-param.param-index c.loop-param-test.false)

pub returns-clause-faults : goal.returns-clause-faults
returns-clause-faults c =
    sym (c.loop-param.invariant.faults ∙ parameters_end c.args.file.now c.loop-param.locals c.args.params.now c.loop-param.param-index c.loop-param.first c.loop-param-test.false)
