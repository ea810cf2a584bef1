use Rattle.std.proofs.Common.{◌≤◌, ◌∙◌, ◌++◌, ap, sym, arith}
use Rattle.c_tree.specs.Layout.{count, size_of}
use Rattle.target_code.specs.Code.{stmt_marks}
use Rattle.lower.proofs.BlockLemmas.{block_size-drop, block_size-end, size_of-item}
use Rattle.lower.proofs.PlaceLemmas.{mark-If, mark-Loop, mark-Break, mark-Continue, mark-more, mark-all}
use Rattle.lower.proofs.marks.+marking.Goals as goal

pub mark_statement-returns-in-Break-clause-marks : goal.mark_statement-returns-in-Break-clause-marks
mark_statement-returns-in-Break-clause-marks t c = mark-Break c.args.at c.args.out.now.items ∙ ap (λ x. c.args.out.now.items ++ stmt_marks c.args.at x) (sym c.in-Break.is)

pub mark_statement-returns-in-Continue-clause-marks : goal.mark_statement-returns-in-Continue-clause-marks
mark_statement-returns-in-Continue-clause-marks t c = mark-Continue c.args.at c.args.out.now.items ∙ ap (λ x. c.args.out.now.items ++ stmt_marks c.args.at x) (sym c.in-Continue.is)

pub mark_block-mark_statement-requires : goal.mark_block-mark_statement-requires
mark_block-mark_statement-requires t c =
    let f = block_size-drop c.args.block.now c.block.i c.index-block-i.result (omega arith) c.index-block-i.is in
    let smaller : count c.index-block-i.result ≤ size_of c.args.block.now = size_of-item c.args.block.now c.block.i c.index-block-i.result (omega arith) c.index-block-i.is in
    (omega (arith, smaller), (omega (arith, smaller, c.requires.places), omega (arith, f, c.block.invariant.1, c.requires.positions)))

pub mark_block-block-preserved : goal.mark_block-block-preserved
mark_block-block-preserved t c =
    let f = block_size-drop c.args.block.now c.block.i c.index-block-i.result (omega arith) c.index-block-i.is in
    let behind = c.in_ok-from.ensures.behind in (
      mark-more c.args.at c.args.block.now c.block.i c.index-block-i.result c.block.from _
          c.args.out.now.items c.block.out.items c.mark_statement.new.out.items
          (omega arith) c.index-block-i.is behind c.block.invariant.0 c.in_ok-from.ensures.marks,
      omega (arith, f, behind, c.block.invariant.1, c.requires.positions),
    )

pub mark_block-returns-clause-marks : goal.mark_block-returns-clause-marks
mark_block-returns-clause-marks t c = mark-all c.args.at c.args.block.now c.block.i c.block.from c.args.out.now.items c.block.out.items (omega arith) c.block.invariant.0

pub mark_block-returns-clause-behind : goal.mark_block-returns-clause-behind
mark_block-returns-clause-behind t c =
    let e = block_size-end c.args.block.now c.block.i (omega arith) in
    omega (arith, e, c.block.invariant.1)

pub mark_if-returns-clause-marks : goal.mark_if-returns-clause-marks
mark_if-returns-clause-marks t c =
    let yes_behind = c.in_ok-no_at.ensures.behind in
    mark-If c.args.at c.args.test.now c.args.yes.now c.args.no.now _ _ c.args.out.now.items _ _ c.mark_block-2.new.out.items
    (omega arith) (omega (arith, yes_behind)) c.in_ok-mark.ensures c.in_ok-no_at.ensures.marks c.in_ok-behind.ensures.marks

pub mark_loop-returns-clause-marks : goal.mark_loop-returns-clause-marks
mark_loop-returns-clause-marks t c =
    let step_behind = c.in_ok-step_at.ensures.behind in
    mark-Loop c.args.at c.args.calls.now c.args.test.now c.args.body.now c.args.step.now _ _ _ _ c.args.out.now.items _ _ _ _ c.mark-2.new.out.items
    c.in_ok-test_at.ensures.behind (omega arith) step_behind c.in_ok-end_at.ensures.behind
    c.in_ok-test_at.ensures.marks c.in_ok-mark.ensures c.in_ok-step_at.ensures.marks c.in_ok-end_at.ensures.marks c.in_ok-mark-2.ensures
