use Rattle.std.proofs.Common.{◌++◌, ◌∷◌, [], List, reverse, sym, ap, ◌∙◌, arith, append_assoc}
use Rattle.c_tree.specs.declared.state.Frame.{Frame}
use Rattle.target_code.specs.declared.activation.Activation.{Activation}
use Rattle.thread_machine.specs.Standing.{saved_frame, saved_frames, saving_cost}
use Rattle.thread_machine.proofs.StackLemmas.{saved_reverse, cost_snoc}
use Rattle.thread_machine.proofs.unwind.save_one.Goals as goal

pub returns-clause-frames : goal.returns-clause-frames
returns-clause-frames c =
    let code = c.args.code.now in
    let xs = c.pop.new.self in
    let a = c.in-Some.activation in
    let before = c.args.frames.now.items in
    let back = reverse (saved_frames code xs) in
    ap (λ (l : List Frame). l ++ back) c.save.ensures.frames
    ∙ append_assoc before (saved_frame code a ∷ []) back
    ∙ ap (λ (l : List Frame). before ++ l) (sym (saved_reverse code xs a))
    ∙ ap (λ (l : List Activation). before ++ reverse (saved_frames code l)) (sym c.in-Some.ensures.items)

pub returns-clause-cost : goal.returns-clause-cost
returns-clause-cost c =
    let code = c.args.code.now in
    let all = ap (λ (l : List Activation). saving_cost code l) c.in-Some.ensures.items in
    let more = cost_snoc code c.pop.new.self c.in-Some.activation in
    omega (arith, all, more, c.save.ensures.cost)
