use Rattle.std.proofs.Common.{◌∙◌, ap, sym, length, reverse}
use Rattle.std.proofs.lemmas.List.{length-reverse}
use Rattle.target_code.specs.Stack.{Stack}
use Rattle.target_code.proofs.StackLemmas.{frames_of-length}
use Rattle.target_code.proofs.list_stack.ListStackFrameStack.depth.Goals as goal

pub returns : goal.returns
returns c =
    c.len.ensures
    ∙ c.self.inside.heads.ok.0
    ∙ sym (length-reverse c.self.inside.heads.items)
    ∙ sym (frames_of-length (reverse c.self.inside.heads.items) c.self.inside.slots.items)
    ∙ ap (λ (s : Stack). length s.frames) c.self.view_is
