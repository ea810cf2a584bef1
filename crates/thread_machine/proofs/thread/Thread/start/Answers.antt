use Rattle.std.proofs.Common.{◌∷◌, List, length, w32, ap, ◌∙◌, arith}
use Rattle.std.proofs.lemmas.Int.{to_z-of_z}
use Rattle.target_code.specs.declared.activation.Activation.{Activation}
use Rattle.target_code.specs.Stack.{blank, with_pc}
use Rattle.target_code.specs.Target.{top_of}
use Rattle.thread_machine.specs.Started.{with_argument}
use Rattle.thread_machine.proofs.StartLemmas.{few_in_code, first_in_code, zeros_long, started}
use Rattle.thread_machine.proofs.thread.Thread.start.Goals as goal

pub push_frame-requires : goal.push_frame-requires
push_frame-requires g c =
    let few = few_in_code c.args.code.now c.args.function c.requires.code in
    record { few = omega (arith, few, c.slots_of.ensures) }

pub pass-requires-clause-fits : goal.pass-requires-clause-fits
pass-requires-clause-fits g c =
    let first = first_in_code c.args.code.now c.args.function c.requires.code in
    let long = ap (λ (l : List Activation). length (top_of l).slots) c.in_ok-push_frame.ensures.ok in
    let zeros = zeros_long c.slots_of.result in
    omega (arith, first, long, zeros, c.slots_of.ensures, c.params_of.ensures)

pub returns-clause-ok : goal.returns-clause-ok
returns-clause-ok g c =
    let params = c.params_of.result in
    let slots = c.slots_of.result in
    let pushed = c.in_ok-push_frame.ensures.ok ∙ ap (λ (l : List Activation). blank c.args.function slots ∷ l) c.requires.empty in
    let acts = c.set_pc.ensures.frames
    ∙ ap (λ (l : List Activation). with_pc 1 l) c.pass.ensures
    ∙ ap (λ v. with_pc 1 (with_argument params v (g.S.FrameStack.frames c.push_frame.new.self))) (to_z-of_z w32 c.args.argument c.ranges.argument)
    ∙ ap (λ (l : List Activation). with_pc 1 (with_argument params c.args.argument l)) pushed in
    started c.args.code.now c.args.function params slots c.args.argument _ _ c.requires.code c.requires.few c.params_of.ensures c.slots_of.ensures acts (c.from_vec.ensures ∙ c.new.ensures.items)
