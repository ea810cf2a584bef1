use Rattle.std.proofs.Common.{rules, ◌∙◌, pos, get_or, w32}
use Rattle.std.proofs.lemmas.Int.{to_z-of_z}
use mir.Val.{SFits}
use Rattle.thread_machine.proofs.StackLemmas.{fill_next}
use Rattle.thread_machine.proofs.stack.fill.Goals as goal

pub loop-at-preserved : goal.loop-at-preserved
loop-at-preserved g c =
    let v = get_or c.args.slots.now c.loop-at.at (pos 0) in
    let fits : SFits w32 v = search rules in
    let next = fill_next (g.S.FrameStack.frames c.args.stack.now) (g.S.FrameStack.frames c.loop-at.stack) c.args.slots.now c.loop-at.at _ c.loop-at-test.true c.requires.all (to_z-of_z w32 v fits) c.loop-at.invariant.0 in
    (c.set_slot.ensures.frames ∙ next, c.set_slot.ensures.spare ∙ c.loop-at.invariant.1)
