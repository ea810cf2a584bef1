use Rattle.std.proofs.Common.{arith}
use Rattle.frame_transform.proofs.LoopLemmas.{loops_of-le, loops_of-drop, loops_of-end, size_of-drop, size_of-end}
use Rattle.frame_transform.proofs.extent.+extents.Goals as goal

pub extent_of_block-extent_of_statement-more-requires : goal.extent_of_block-extent_of_statement-more-requires
extent_of_block-extent_of_statement-more-requires t c =
    let e = size_of-drop c.args.block.now c.block.i c.index-block-i.result (omega arith) c.index-block-i.is in
    (omega (arith, e, c.block.invariant.0), omega (arith, e, c.block.invariant.0))

pub extent_of_block-overflow_add-places : goal.extent_of_block-overflow_add-places
extent_of_block-overflow_add-places t c =
    let e = size_of-drop c.args.block.now c.block.i c.index-block-i.result (omega arith) c.index-block-i.is in
    omega (arith, e, c.block.invariant.0)

pub extent_of_block-overflow_add-loops : goal.extent_of_block-overflow_add-loops
extent_of_block-overflow_add-loops t c =
    let e = loops_of-drop c.args.block.now c.block.i c.index-block-i.result (omega arith) c.index-block-i.is in
    omega (arith, e, c.block.invariant.1, loops_of-le c.args.block.now)

pub extent_of_block-block-preserved : goal.extent_of_block-block-preserved
extent_of_block-block-preserved t c =
    let e = size_of-drop c.args.block.now c.block.i c.index-block-i.result (omega arith) c.index-block-i.is in
    let f = loops_of-drop c.args.block.now c.block.i c.index-block-i.result (omega arith) c.index-block-i.is in
    (omega (arith, e, c.block.invariant.0), omega (arith, f, c.block.invariant.1))

pub extent_of_block-returns-clause-places : goal.extent_of_block-returns-clause-places
extent_of_block-returns-clause-places t c = omega (arith, size_of-end c.args.block.now c.block.i (omega arith), c.block.invariant.0)

pub extent_of_block-returns-clause-loops : goal.extent_of_block-returns-clause-loops
extent_of_block-returns-clause-loops t c = omega (arith, loops_of-end c.args.block.now c.block.i (omega arith), c.block.invariant.1)

pub extent_of_if-overflow_add-result-3 : goal.extent_of_if-overflow_add-result-3
extent_of_if-overflow_add-result-3 t c = omega (arith, loops_of-le c.args.yes.now, loops_of-le c.args.no.now)

pub extent_of_loop-overflow_add-result-5 : goal.extent_of_loop-overflow_add-result-5
extent_of_loop-overflow_add-result-5 t c = omega (arith, loops_of-le c.args.calls.now, loops_of-le c.args.body.now)

pub extent_of_loop-overflow_add-result-6 : goal.extent_of_loop-overflow_add-result-6
extent_of_loop-overflow_add-result-6 t c = omega (arith, loops_of-le c.args.calls.now, loops_of-le c.args.body.now, loops_of-le c.args.step.now)

pub extent_of_loop-overflow_add-result-7 : goal.extent_of_loop-overflow_add-result-7
extent_of_loop-overflow_add-result-7 t c = omega (arith, loops_of-le c.args.calls.now, loops_of-le c.args.body.now, loops_of-le c.args.step.now)
