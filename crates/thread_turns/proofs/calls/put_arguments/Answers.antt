use Rattle.std.proofs.Common.{rules, ◌≡◌, pos, ◌∙◌, ap, w32}
use Rattle.std.specs.Prelude.{slice_index_or}
use mir.Val.{to_z, of_z}
use Rattle.target_code.specs.Stack.{with_slot}
use Rattle.thread_turns.proofs.CallLemmas.{next_argument}
use Rattle.thread_turns.proofs.calls.put_arguments.Goals as goal

pub loop-k-preserved : goal.loop-k-preserved
loop-k-preserved g c =
    let frames = g.S.FrameStack.frames c.args.stack.now in
    let k = c.loop-k.k in
    let v = slice_index_or c.args.args.now k (pos 0) in
    let is : to_z w32 (of_z w32 c.argument.result) ≡ c.argument.result = search rules in
    c.put_argument.ensures
    ∙ (ap (λ v. with_slot k v (g.S.FrameStack.frames c.loop-k.stack)) (is ∙ c.argument.ensures)
    ∙ (ap (λ fs. with_slot k v fs) c.loop-k.invariant
    ∙ next_argument k c.args.args.now (pos 0) frames c.loop-k-test.true c.requires.fit))
