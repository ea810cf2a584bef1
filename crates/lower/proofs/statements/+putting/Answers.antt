use Rattle.std.proofs.Common.{◌≤◌, ◌+◌, arith}
use Rattle.c_tree.specs.Layout.{count, size_of}
use Rattle.lower.specs.Texts.{number}
use Rattle.lower.proofs.BlockLemmas.{block_size-drop, block_size-end, size_of-drop, size_of-end, size_of-item}
use Rattle.lower.proofs.StatementLemmas.{put-If, put-Loop, put-more, put-all}
use Rattle.lower.proofs.statements.+putting.Goals as goal

pub put_block-put_statement-requires : goal.put_block-put_statement-requires
put_block-put_statement-requires t c =
    let e = size_of-drop c.args.block.now c.block.i c.index-block-i.result (omega arith) c.index-block-i.is in
    let f = block_size-drop c.args.block.now c.block.i c.index-block-i.result (omega arith) c.index-block-i.is in
    let smaller : count c.index-block-i.result ≤ size_of c.args.block.now = size_of-item c.args.block.now c.block.i c.index-block-i.result (omega arith) c.index-block-i.is in
    (omega (arith, smaller), (omega (arith, e, c.block.invariant.2, c.requires.places), omega (arith, f, c.block.invariant.1, c.requires.positions)))

pub put_block-block-preserved : goal.put_block-block-preserved
put_block-block-preserved t c =
    let e = size_of-drop c.args.block.now c.block.i c.index-block-i.result (omega arith) c.index-block-i.is in
    let f = block_size-drop c.args.block.now c.block.i c.index-block-i.result (omega arith) c.index-block-i.is in
    let at = c.in_ok-spot.ensures.position in
    let place = c.in_ok-spot.ensures.place in (
      put-more (number c.args.numbers.now) c.args.exits c.args.at c.args.n c.args.block.now c.block.i c.index-block-i.result c.block.spot.at c.block.spot.place _ _
          c.args.out.now.items c.block.out.items c.put_statement.new.out.items
          (omega arith) c.index-block-i.is at place c.block.invariant.0 c.in_ok-spot.ensures.code,
      omega (arith, f, at, c.block.invariant.1),
      omega (arith, e, place, c.block.invariant.2),
    )

pub put_block-returns-clause-code : goal.put_block-returns-clause-code
put_block-returns-clause-code t c =
    put-all (number c.args.numbers.now) c.args.exits c.args.at c.args.n c.args.block.now c.block.i c.block.spot.at c.block.spot.place c.args.out.now.items c.block.out.items (omega arith) c.block.invariant.0

pub put_block-returns-clause-position : goal.put_block-returns-clause-position
put_block-returns-clause-position t c =
    let e = block_size-end c.args.block.now c.block.i (omega arith) in omega (arith, e, c.block.invariant.1)

pub put_block-returns-clause-place : goal.put_block-returns-clause-place
put_block-returns-clause-place t c =
    let e = size_of-end c.args.block.now c.block.i (omega arith) in omega (arith, e, c.block.invariant.2)

pub put_if-returns-clause-code : goal.put_if-returns-clause-code
put_if-returns-clause-code t c =
    let first = c.in_ok-first.ensures.place in
    put-If (number c.args.numbers.now) c.args.exits c.args.at c.args.n c.args.test.now c.args.yes.now c.args.no.now _ _ _ _
    c.args.out.now.items _ _ _ _ c.put_block-2.new.out.items
    (omega arith) (omega arith) (omega arith) (omega (arith, first))
    c.in_ok-put_test.ensures c.in_ok-put.ensures c.in_ok-first.ensures.code c.in_ok-put_jump_over.ensures c.in_ok-behind.ensures.code

pub put_loop-returns-clause-code : goal.put_loop-returns-clause-code
put_loop-returns-clause-code t c =
    let tested = c.in_ok-tested.tested in
    let body = tested.at + c.expr_size.result + 2 in
    let step = body + c.block_size.result in
    let end = step + c.block_size-2.result in
    put-Loop (number c.args.numbers.now) c.args.exits c.args.at c.args.n c.args.calls.now c.args.test.now c.args.body.now c.args.step.now tested.at body step end (end + 3) tested.place (tested.place + 1) c.in_ok-stepped.stepped.place c.in_ok-ended.ended.place
    c.args.out.now.items c.put_block.new.out.items c.put_test.new.out.items c.put.new.out.items c.put_block-2.new.out.items c.put_block-3.new.out.items c.put_back.new.out.items
    c.in_ok-tested.ensures.position (omega arith) (omega arith) (omega arith) (omega arith) c.in_ok-tested.ensures.place (omega arith) c.in_ok-stepped.ensures.place c.in_ok-ended.ensures.place
    c.in_ok-tested.ensures.code c.in_ok-put_test.ensures c.in_ok-put.ensures c.in_ok-stepped.ensures.code c.in_ok-ended.ensures.code c.in_ok-put_back.ensures
