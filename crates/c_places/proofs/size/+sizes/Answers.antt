use Rattle.std.proofs.Common.{arith}
use Rattle.c_places.proofs.SizeLemmas.{size_of-drop, size_of-end}
use Rattle.c_places.proofs.size.+sizes.Goals as goal

pub size_of-loop-s-preserved : goal.size_of-loop-s-preserved
size_of-loop-s-preserved t c =
    let e = size_of-drop c.args.block.now c.loop-s.s-index c.s-item.result (omega arith) c.s-item.is in
    (omega arith, omega (arith, e, c.loop-s.invariant.1))

pub size_of-returns : goal.size_of-returns
size_of-returns t c =
    let e = size_of-end c.args.block.now c.loop-s.s-index (omega arith) in
    omega (arith, e, c.loop-s.invariant.1, c.loop-s.invariant.0)
