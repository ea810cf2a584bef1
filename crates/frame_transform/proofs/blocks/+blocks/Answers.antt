use Rattle.std.proofs.Common.{◌≤◌, arith}
use Rattle.c_tree.specs.Layout.{count, size_of}
use Rattle.frame_transform.specs.Inside.{reads}
use Rattle.frame_transform.proofs.LoopLemmas.{loops_of-drop, size_of-drop, size_of-item}
use Rattle.frame_transform.proofs.BlockLemmas.{if_appended, loop_appended, block_more, block_all}
use Rattle.frame_transform.proofs.blocks.+blocks.Goals as goal

pub append_block-extent_of_statement-more-requires : goal.append_block-extent_of_statement-more-requires
append_block-extent_of_statement-more-requires t c =
    let e = size_of-drop c.args.block.now c.block.i c.index-block-i.result (omega arith) c.index-block-i.is in
    omega (arith, e, c.block.invariant.1, c.requires.places)

pub append_block-append_statement-requires : goal.append_block-append_statement-requires
append_block-append_statement-requires t c =
    let e = size_of-drop c.args.block.now c.block.i c.index-block-i.result (omega arith) c.index-block-i.is in
    let f = loops_of-drop c.args.block.now c.block.i c.index-block-i.result (omega arith) c.index-block-i.is in
    let smaller : count c.index-block-i.result ≤ size_of c.args.block.now = size_of-item c.args.block.now c.block.i c.index-block-i.result (omega arith) c.index-block-i.is in
    (omega (arith, smaller), (omega (arith, smaller, c.requires.depth), (omega (arith, e, c.block.invariant.1, c.requires.places), omega (arith, f, c.block.invariant.2, c.requires.loops))))

pub append_block-overflow_add-at : goal.append_block-overflow_add-at
append_block-overflow_add-at t c =
    let e = size_of-drop c.args.block.now c.block.i c.index-block-i.result (omega arith) c.index-block-i.is in
    omega (arith, e, c.block.invariant.1, c.requires.places)

pub append_block-overflow_add-before : goal.append_block-overflow_add-before
append_block-overflow_add-before t c =
    let e = loops_of-drop c.args.block.now c.block.i c.index-block-i.result (omega arith) c.index-block-i.is in
    omega (arith, e, c.block.invariant.2, c.requires.loops)

pub append_block-block-preserved : goal.append_block-block-preserved
append_block-block-preserved t c =
    let e = size_of-drop c.args.block.now c.block.i c.index-block-i.result (omega arith) c.index-block-i.is in
    let f = loops_of-drop c.args.block.now c.block.i c.index-block-i.result (omega arith) c.index-block-i.is in (
      block_more (reads c.args.inside.now) c.args.depth c.args.label c.args.n c.args.k c.args.block.now c.block.i c.index-block-i.result c.block.at c.block.before c.extent_of_statement-more.result.places c.extent_of_statement-more.result.loops _ _
          c.args.out.now.items c.block.out.items c.append_statement.new.out.items
          (omega arith) c.index-block-i.is c.extent_of_statement-more.ensures.places c.extent_of_statement-more.ensures.loops (omega arith) (omega arith) c.block.invariant.0 c.in_ok-append_statement.ensures,
      omega (arith, e, c.block.invariant.1),
      omega (arith, f, c.block.invariant.2),
    )

pub append_block-returns : goal.append_block-returns
append_block-returns t c =
    block_all (reads c.args.inside.now) c.args.depth c.args.label c.args.n c.args.k c.block.at c.block.before c.args.block.now c.block.i c.args.out.now.items c.block.out.items (omega arith) c.block.invariant.0

pub append_if-returns : goal.append_if-returns
append_if-returns t c =
    if_appended c.append_line.result (reads c.args.inside.now) c.args.depth c.args.label c.args.n c.args.k c.args.test.now c.args.yes.now c.args.no.now _ _ c.args.out.now.items c.append_if_line.new.out.items c.append_block.new.out.items c.append_else_line.new.out.items c.append_block-2.new.out.items c.append_line.new.out.items
    (omega arith) (omega arith) c.in_ok-append_if_line.ensures c.in_ok-append_block.ensures c.in_ok-append_else_line.ensures c.in_ok-append_block-2.ensures c.append_line.ensures

pub append_loop-returns : goal.append_loop-returns
append_loop-returns t c =
    loop_appended c.append_line-2.result (reads c.args.inside.now) c.args.depth c.args.label c.args.n c.args.k c.args.calls.now c.args.test.now c.args.body.now c.args.step.now _ _ _ _ _ _
    c.args.out.now.items _ _ _ _ _ _ _ c.append_line-2.new.out.items
    (omega arith) (omega arith) (omega arith) (omega arith) (omega arith) (omega arith)
    c.in_ok-append_line.ensures c.in_ok-append_block.ensures c.in_ok-append_leave_line.ensures c.in_ok-append_block-2.ensures c.in_ok-append_numbered_line.ensures c.in_ok-append_block-3.ensures c.in_ok-append_mark.ensures c.append_line-2.ensures
