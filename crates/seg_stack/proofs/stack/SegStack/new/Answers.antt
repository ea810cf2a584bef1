use Rattle.std.proofs.Common.{List, ℤ, sym, ap, ◌∙◌, subst}
use Rattle.target_code.specs.declared.activation.Activation.{Activation}
use Rattle.target_code.specs.Stack.{Stack}
use Rattle.seg_stack.specs.Layout.{IsStack, frames_in}
use Rattle.seg_stack.proofs.PopLemmas.{empty-stack}
use Rattle.seg_stack.proofs.stack.SegStack.new.Goals as goal

pub invariant_of-result : goal.invariant_of-result
invariant_of-result c = subst (λ (l : List (List ℤ)). IsStack l 0 0 0 0 0) (sym c.new.ensures.items) empty-stack.0

abbrev viewed : List (List ℤ) → Stack
viewed l = record { frames = frames_in l 0 0 0; spare = 0 }

abbrev with_frames : List Activation → Stack
with_frames fs = record { frames = fs; spare = 0 }

pub returns : goal.returns
returns c = ap viewed c.new.ensures.items ∙ ap with_frames empty-stack.1
