use Rattle.std.proofs.Common.{◌≡◌, ◌∷◌, ◌∙◌, ap, arith}
use Rattle.std.specs.Prelude.{length, nat_lt, ◌+◌}
use Rattle.c_tree.specs.Limits.{max_frames}
use Rattle.target_code.specs.Machine.{function_in, pushed}
use Rattle.target_code.specs.Stack.{blank}
use Rattle.target_code.specs.Target.{below_of}
use Rattle.thread_turns.specs.Now.{now}
use Rattle.thread_turns.proofs.CallLemmas.{called, function_is, is_few, with_arguments}
use Rattle.thread_turns.proofs.calls.call.Goals as goal

pub returns-clause-performs : goal.returns-clause-performs
returns-clause-performs g c w memory same =
    let frames = g.S.FrameStack.frames c.args.stack.now in
    let at = c.args.at.now in
    let callee = c.index-as_slice-function.result in
    let args = c.last.result.now in
    let back = c.in-Ok.back in
    let fits = nat_lt (length (below_of frames) + 1) max_frames in
    let shallow = c.if-depth-ge-MOST_FRAMES.false in
    let deep = c.depth.ensures in
    let few = is_few frames c.requires.live (omega (arith, shallow, deep)) in
    let is : function_in w.code c.args.function ≡ callee = ap (λ k. function_in k c.args.function) same ∙ function_is c.args.code.now c.args.function c.as_slice.result.now callee c.requires.fits.within (c.as_slice.ensures ∙ c.functions.ensures.value) c.index-as_slice-function.is in
    let pushed_is = c.in-Ok-push_frame.ensures.ok ∙ ap (λ fs. blank c.args.function callee.slots ∷ fs) c.set_pc.ensures.frames in
    let put = c.put_arguments.ensures ∙ ap (λ fs. with_arguments args fs) pushed_is in
    ap (λ k. pushed fits k c.args.function (now at c.args.words.now frames memory)) is
    ∙ called callee c.args.function at c.args.words.now frames (g.S.FrameStack.frames c.put_arguments.new.stack) memory c.available-params.result back args fits few c.requires.live c.in-Ok.ensures.1 c.available-params.ensures.taken c.available-params.ensures.left c.last.ensures put
