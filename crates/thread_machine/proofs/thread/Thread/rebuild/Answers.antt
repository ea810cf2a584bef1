use Rattle.std.proofs.Common.{◌+◌, List, subst, sym, ap, ◌∙◌, refl}
use Rattle.c_tree.specs.declared.state.Frame.{Frame}
use Rattle.target_code.specs.Target.{Target}
use Rattle.thread_machine.specs.Rebuilt.{AreReady, rebuilt_on, rebuilding_cost}
use Rattle.thread_machine.specs.Room.{KeepsRoom}
use Rattle.thread_machine.proofs.Rebuilding.{are_ready, has_rebuilt}
use Rattle.thread_machine.proofs.thread.Thread.rebuild.Goals as goal

pub rebuild_all-cost-requires-clause-ready : goal.rebuild_all-cost-requires-clause-ready
rebuild_all-cost-requires-clause-ready g c =
    subst (λ (l : List Frame). AreReady c.args.code.now l) (sym c.as_slice.ensures) (are_ready c.args.code.now _ c.args.self.now c.self.view_is c.requires.sound)

pub returns : goal.returns
returns g c =
    let code = c.args.code.now in
    let s = c.self.inside in
    let before = g.S.FrameStack.frames s.stack in
    let mode = ap (λ (x : Target). x.mode) c.self.view_is ∙ c.requires.saved in
    let room = subst (λ m. KeepsRoom m s.saved before (g.S.FrameStack.spare s.stack)) mode c.self.invariant in
    let saved = c.as_slice.ensures in
    has_rebuilt code _ c.args.self.now _ c.self.view_is c.requires.sound room.0 refl
    (c.rebuild_all-cost.ensures.frames ∙ ap (λ (l : List Frame). rebuilt_on code l before) saved)
    refl (c.from_vec.ensures ∙ c.new.ensures.items)
    (ap (λ k. s.count + k) (c.rebuild_all-cost.ensures.cost ∙ ap (λ (l : List Frame). rebuilding_cost code l) saved))
