use Rattle.std.proofs.Common.{◌+◌, ◌∷◌, drop, sym, ap, ◌∙◌}
use Rattle.std.proofs.lemmas.List.{drop_more, drop_all}
use Rattle.c_lift.proofs.PlaceLemmas.{room_more, room_done}
use Rattle.c_lift.proofs.places.+places.Goals as goal

pub left_after_all-loop-s-preserved : goal.left_after_all-loop-s-preserved
left_after_all-loop-s-preserved t c =
    let i = c.loop-s.s-index in
    room_more c.args.room c.loop-s.left c.left_after-left.result (drop i c.args.stmts.now) c.s-item.result (drop (i + 1) c.args.stmts.now) c.args.stmts.now
    (drop_more c.args.stmts.now i c.s-item.result c.loop-s-test.true ∙ ap (λ x. x ∷ drop (i + 1) c.args.stmts.now) (sym c.s-item.is)) c.loop-s.invariant c.left_after-left.ensures

pub left_after_all-returns : goal.left_after_all-returns
left_after_all-returns t c =
    room_done c.args.room c.loop-s.left (drop c.loop-s.s-index c.args.stmts.now) c.args.stmts.now (drop_all c.loop-s.s-index c.args.stmts.now c.loop-s-test.false) c.loop-s.invariant
