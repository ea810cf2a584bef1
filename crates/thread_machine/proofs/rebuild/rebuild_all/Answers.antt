use Rattle.std.proofs.Common.{◌≤◌, List, drop, subst, sym, ap, ◌∙◌, arith}
use Rattle.c_tree.specs.declared.state.Frame.{Frame}
use Rattle.thread_machine.specs.Rebuilt.{rebuilt_on, rebuilding_cost, AreReady}
use Rattle.thread_machine.specs.Room.{room_of}
use Rattle.thread_machine.proofs.RebuildLemmas.{ready_rest, next_rest}
use Rattle.thread_machine.proofs.rebuild.rebuild_all.Goals as goal

pub loop-k-preserved : goal.loop-k-preserved
loop-k-preserved g c =
    let code = c.args.code.now in
    let fs = c.args.frames.now in
    let k = c.loop-k.k in
    let inv = c.loop-k.invariant in
    let rest = c.behind-rest.result.now in
    let is = c.behind-rest.ensures in
    let next = ap (λ (l : List Frame). drop 1 l) is ∙ next_rest fs k in
    let acts = g.S.FrameStack.frames c.rebuild_first.new.stack in
    let all = ap (λ (l : List Frame). rebuilding_cost code l) is in
    let cost = ap (λ (l : List Frame). rebuilding_cost code l) next in
    let first = c.cost_of_first-cost.ensures in (
      ap (λ (l : List Frame). rebuilt_on code l acts) (sym next) ∙ c.rebuild_first.ensures.frames ∙ ap (λ (l : List Frame). rebuilt_on code l (g.S.FrameStack.frames c.loop-k.stack)) is ∙ inv.0,
      omega (arith, all, cost, first.cost, inv.1),
      subst (λ (l : List Frame). AreReady code l) next (ready_rest code rest (subst (λ (l : List Frame). AreReady code l) (sym is) inv.2)),
      subst (λ (l : List Frame). room_of l ≤ g.S.FrameStack.spare c.rebuild_first.new.stack) next c.rebuild_first.ensures.room,
      omega (arith, first.little, inv.4),
    )
