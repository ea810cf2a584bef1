use Rattle.std.proofs.Common.{◌∙◌, ap, sym, w32, ◌+◌, ◌-◌, List, reverse, set}
use Rattle.std.proofs.lemmas.Int.{to_z-of_z}
use Rattle.target_code.specs.declared.activation.FrameInfo.{FrameInfo}
use Rattle.target_code.specs.Stack.{Stack, frames_of, with_slot}
use Rattle.target_code.proofs.StackLemmas.{frames_of-set}
use Rattle.target_code.proofs.list_stack.ListStackFrameStack.set_slot.Goals as goal

pub returns-clause-frames : goal.returns-clause-frames
returns-clause-frames c =
    let heads = c.self.inside.heads.items in
    let slots = c.self.inside.slots.items in
    let head = c.last-head.result in
    let at = c.len.result - head.slots + c.args.k in
    ap (λ v. frames_of (reverse heads) (set slots at v)) (to_z-of_z w32 c.args.value c.ranges.value)
    ∙ frames_of-set (reverse heads) head _ slots c.args.k c.args.value c.len.result
    (ap (λ (l : List FrameInfo). reverse l) (sym c.as_slice.ensures.value) ∙ c.last-head.ensures)
    (c.len.ensures ∙ c.self.inside.slots.ok.0)
    ∙ ap (λ (s : Stack). with_slot c.args.k c.args.value s.frames) c.self.view_is
