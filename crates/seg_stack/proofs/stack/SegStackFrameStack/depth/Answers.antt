use Rattle.std.proofs.Common.{◌∙◌, ap, sym, length}
use Rattle.target_code.specs.Stack.{Stack}
use Rattle.seg_stack.proofs.LaidLemmas.{frames-length}
use Rattle.seg_stack.proofs.stack.SegStackFrameStack.depth.Goals as goal

pub returns : goal.returns
returns c = sym (frames-length _ _ _ _) ∙ ap (λ (s : Stack). length s.frames) c.self.view_is
