use Rattle.std.proofs.Common.{◌++◌, sym, ap, ◌∙◌, arith}
use Rattle.std.proofs.lemmas.List.{append-nil}
use Rattle.c_tree.specs.Layout as spec
use Rattle.c_tree.proofs.LayoutLemmas.{layout-Break, layout-Continue}
use Rattle.c_places.proofs.SizeLemmas.{size_of-drop}
use Rattle.c_places.proofs.LayLemmas.{laid-If, laid-Loop, laid-more, laid-all, rest-of}
use Rattle.c_places.proofs.lay.+laying.Goals as goal

pub lay-returns-in-Break : goal.lay-returns-in-Break
lay-returns-in-Break t c =
    sym (append-nil c.args.out.now.items) ∙ ap (λ z. c.args.out.now.items ++ z) (sym (ap (spec.layout c.args.exits c.args.n c.args.next) c.in-Break.is ∙ layout-Break c.args.exits c.args.n c.args.next))

pub lay-returns-in-Continue : goal.lay-returns-in-Continue
lay-returns-in-Continue t c =
    sym (append-nil c.args.out.now.items) ∙ ap (λ z. c.args.out.now.items ++ z) (sym (ap (spec.layout c.args.exits c.args.n c.args.next) c.in-Continue.is ∙ layout-Continue c.args.exits c.args.n c.args.next))

pub lay_block-begin-follow-requires : goal.lay_block-begin-follow-requires
lay_block-begin-follow-requires t c =
    let e = size_of-drop c.args.block.now c.block.i c.index-block-i.result (omega arith) c.index-block-i.is in
    let f = ap spec.size_of (rest-of c.args.block.now c.block.i) in
    omega (arith, e, f, c.block.invariant.1)

pub lay_block-lay-requires : goal.lay_block-lay-requires
lay_block-lay-requires t c =
    let e = size_of-drop c.args.block.now c.block.i c.index-block-i.result (omega arith) c.index-block-i.is in
    (omega (arith, e, c.block.invariant.1, c.block.invariant.2), omega (arith, e, c.block.invariant.1))

pub lay_block-block-preserved : goal.lay_block-block-preserved
lay_block-block-preserved t c =
    let e = size_of-drop c.args.block.now c.block.i c.index-block-i.result (omega arith) c.index-block-i.is in (
      laid-more c.args.exits c.args.n c.args.next c.args.block.now c.block.i c.index-block-i.result c.block.at _ c.begin-follow.result c.args.out.now.items c.block.out.items c.lay.new.out.items
          (omega arith) c.index-block-i.is (omega (arith, e, c.block.invariant.1)) (c.begin-follow.ensures ∙ ap (spec.start_of c.args.exits _ c.args.next) (rest-of c.args.block.now c.block.i)) c.block.invariant.0 c.in_ok-lay.ensures,
      omega (arith, e, c.block.invariant.1),
      omega (arith, c.block.invariant.2),
    )

pub lay_block-returns : goal.lay_block-returns
lay_block-returns t c = laid-all c.args.exits c.args.n c.args.next c.block.at c.args.block.now c.block.i c.args.out.now.items c.block.out.items (omega arith) c.block.invariant.0

pub lay_if-returns : goal.lay_if-returns
lay_if-returns t c =
    laid-If c.args.exits c.args.n c.args.next _ c.begin-first.result c.begin-second.result c.args.test.now c.args.yes.now c.args.no.now c.args.out.now.items c.lay_test.new.out.items c.lay_block.new.out.items c.lay_block-2.new.out.items
    (omega arith) c.begin-first.ensures c.begin-second.ensures c.in_ok-lay_test.ensures c.in_ok-lay_block.ensures c.in_ok-lay_block-2.ensures

pub lay_loop-returns : goal.lay_loop-returns
lay_loop-returns t c =
    laid-Loop c.args.exits c.args.n c.args.next c.args.calls.now c.args.test.now c.args.body.now c.args.step.now _ _ _ c.begin-again.result c.begin-back.result c.begin-inside.result c.args.out.now.items _ _ _ _ _
    (omega arith) (omega arith) (omega arith) c.begin-again.ensures c.begin-back.ensures c.begin-inside.ensures c.in_ok-lay_block.ensures c.in_ok-lay_test.ensures c.in_ok-lay_block-2.ensures c.in_ok-lay_block-3.ensures c.in_ok-push.ensures
