use Rattle.std.proofs.Common.{arith}
use Rattle.lower.proofs.BlockLemmas.{block_size-drop, block_size-end, size_of-item}
use Rattle.lower.proofs.blocks.+sizes.Goals as goal

pub block_size-block-preserved : goal.block_size-block-preserved
block_size-block-preserved t c =
    let f = block_size-drop c.args.block.now c.block.i c.index-block-i.result (omega arith) c.index-block-i.is in
    (omega arith, omega (arith, f, c.block.invariant.1))

pub block_size-returns : goal.block_size-returns
block_size-returns t c = omega (arith, block_size-end c.args.block.now c.block.i (omega arith), c.block.invariant.0, c.block.invariant.1)

pub block_size-statement_size-requires : goal.block_size-statement_size-requires
block_size-statement_size-requires t c =
    let smaller = size_of-item c.args.block.now c.block.i c.index-block-i.result (omega arith) c.index-block-i.is in
    (omega (arith, smaller), tt)
