use Rattle.std.proofs.Common.{sym, ◌∙◌, arith, rules}
use Rattle.stack_map.proofs.StmtLemmas.{same-If-If, same-Loop-Loop}
use Rattle.stack_map.proofs.BodyLemmas.{other-lengths, stops-here, goes-on, none-left}
use Rattle.stack_map.proofs.stmt.+same_statements.Goals as goal

pub same_block-returns-then-a-b : goal.same_block-returns-then-a-b
same_block-returns-then-a-b t c = sym (other-lengths c.args.k.now c.args.a.now c.args.b.now c.if-a-b.true)

pub same_block-returns-then-not-same_stmt : goal.same_block-returns-then-not-same_stmt
same_block-returns-then-not-same_stmt t c =
    stops-here c.args.k.now c.args.a.now c.args.b.now c.loop-i.i _ _ c.index-a-i.result c.index-b-i.result c.same_stmt.result
    (omega (arith, c.loop-i-test.true)) (omega (arith, c.loop-i-test.true, c.if-a-b.false)) c.index-a-i.is c.index-b-i.is c.same_stmt.ensures c.loop-i.invariant c.if-not-same_stmt.true

pub same_block-loop-i-preserved : goal.same_block-loop-i-preserved
same_block-loop-i-preserved t c =
    goes-on c.args.k.now c.args.a.now c.args.b.now c.loop-i.i _ _ c.index-a-i.result c.index-b-i.result c.same_stmt.result
    (omega (arith, c.loop-i-test.true)) (omega (arith, c.loop-i-test.true, c.if-a-b.false)) c.index-a-i.is c.index-b-i.is c.same_stmt.ensures c.loop-i.invariant c.if-not-same_stmt.false

pub same_block-returns : goal.same_block-returns
same_block-returns t c =
    sym (c.loop-i.invariant ∙ none-left c.args.k.now c.args.a.now c.args.b.now c.loop-i.i (omega (arith, c.loop-i-test.false)) (omega (arith, c.loop-i-test.false, c.if-a-b.false)))

pub same_stmt-returns-in-If-b : goal.same_stmt-returns-in-If-b
same_stmt-returns-in-If-b t c = rw (c.in-If.is, c.in-If-b.is) (search (rules, same-If-If))

pub same_stmt-returns-in-Loop-b : goal.same_stmt-returns-in-Loop-b
same_stmt-returns-in-Loop-b t c = rw (c.in-Loop.is, c.in-Loop-b.is) (search (rules, same-Loop-Loop))
