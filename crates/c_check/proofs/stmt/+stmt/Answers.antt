use Rattle.std.proofs.Common.{sym, ◌∙◌}
use Rattle.c_check.proofs.StatementLemmas.{if_left, if_noted, for_noted, in_body_noted, statements_step, passed_step, statements_end, passed_end}
use Rattle.c_check.proofs.stmt.+stmt.Goals as goal

pub statement-returns-in_ok-leave-in-If-clause-locals : goal.statement-returns-in_ok-leave-in-If-clause-locals
statement-returns-in_ok-leave-in-If-clause-locals t c =
    if_left c.args.locals.now c.statement.new.locals c.optional.new.locals c.leave.new.self c.args.stmt.now.at c.args.stmt.now.kind c.in-If.test c.in-If.body c.get.result.now c.in-If.other
    c.mark-mark.result.names c.mark-mark.result.block c.in-If.is c.get.ensures c.in_ok-statement-in-If.ensures.locals c.in_ok-optional-in-If.ensures.locals
    c.mark-mark.ensures.names c.mark-mark.ensures.block c.in_ok-leave-in-If.ensures

pub statement-returns-in_ok-leave-in-If-clause-faults : goal.statement-returns-in_ok-leave-in-If-clause-faults
statement-returns-in_ok-leave-in-If-clause-faults t c =
    let w = c.args.stand.now in
    if_noted w.file.now c.args.locals.now c.statement.new.locals w.ret.now w.in_loop c.args.stmt.now.at c.args.stmt.now.kind c.in-If.test c.in-If.body c.get.result.now c.in-If.other
    c.args.first.now c.value.new.first c.statement.new.first c.optional.new.first c.in-If.is c.get.ensures
    c.in_ok-value-in-If.ensures.faults c.in_ok-statement-in-If.ensures.faults c.in_ok-statement-in-If.ensures.locals c.in_ok-optional-in-If.ensures.faults

pub statement-returns-in_ok-leave-in-For-clause-faults : goal.statement-returns-in_ok-leave-in-For-clause-faults
statement-returns-in_ok-leave-in-For-clause-faults t c =
    let w = c.args.stand.now in
    let v = c.in_body-in-For.result in
    for_noted w.file.now c.args.locals.now c.enter.new.self c.statements.new.locals w.ret.now w.in_loop c.args.stmt.now.at c.args.stmt.now.kind
    c.in-For.starts c.as_slice-in-For.result.now c.in-For.test c.in-For.step c.in-For.body c.get-in-For.result.now
    c.args.first.now c.statements.new.first c.loop_test.new.first c.aside.new.first c.statement-in-For.new.first
    c.in-For.is c.as_slice-in-For.ensures c.get-in-For.ensures c.enter.ensures
    c.in_ok-statements-in-For.ensures.faults c.in_ok-statements-in-For.ensures.locals c.in_ok-loop_test-in-For.ensures c.in_ok-aside-in-For.ensures.faults
    (in_body_noted w.file.now v.file.now c.statements.new.locals c.aside.new.locals w.ret.now v.ret.now v.in_loop c.get-in-For.result.now c.aside.new.first c.statement-in-For.new.first
    c.in_body-in-For.ensures.file c.in_body-in-For.ensures.ret c.in_body-in-For.ensures.in_loop c.in_ok-aside-in-For.ensures.locals c.in_ok-statement-in-For.ensures.faults)

pub statements-loop-stmt-preserved : goal.statements-loop-stmt-preserved
statements-loop-stmt-preserved t c =
    record {
      faults = c.loop-stmt.invariant.faults
          ∙ statements_step c.args.stand.now.file.now c.loop-stmt.locals c.statement.new.locals c.args.stand.now.ret.now c.args.stand.now.in_loop c.args.body.now c.loop-stmt.stmt-index
          c.stmt-item.result c.loop-stmt.first c.statement.new.first c.loop-stmt-test.true c.stmt-item.is c.in_ok-statement.ensures.faults c.in_ok-statement.ensures.locals;
      locals = c.loop-stmt.invariant.locals
          ∙ passed_step c.loop-stmt.locals c.statement.new.locals c.args.body.now c.loop-stmt.stmt-index c.stmt-item.result c.loop-stmt-test.true c.stmt-item.is c.in_ok-statement.ensures.locals;
    }

pub statements-returns-clause-locals : goal.statements-returns-clause-locals
statements-returns-clause-locals t c =
    sym (c.loop-stmt.invariant.locals ∙ passed_end c.loop-stmt.locals c.args.body.now c.loop-stmt.stmt-index c.loop-stmt-test.false)

pub statements-returns-clause-faults : goal.statements-returns-clause-faults
statements-returns-clause-faults t c =
    sym (c.loop-stmt.invariant.faults
    ∙ statements_end c.args.stand.now.file.now c.loop-stmt.locals c.args.stand.now.ret.now c.args.stand.now.in_loop c.args.body.now c.loop-stmt.stmt-index
    c.loop-stmt.first c.loop-stmt-test.false)
