use Rattle.std.proofs.Common.{ap, arith}
use Rattle.target_code.specs.declared.activation.Activation.{Activation}
use Rattle.target_code.specs.Stack.{words_of}
use Rattle.thread_machine.specs.Room.{words_of_all}
use Rattle.thread_machine.proofs.StackLemmas.{words_snoc}
use Rattle.thread_machine.proofs.stack.take_one.Goals as goal

pub returns-clause-spare : goal.returns-clause-spare
returns-clause-spare g c =
    let all = ap words_of_all c.in_ok-push.ensures.ok in
    let more = words_snoc c.args.taken.now c.in_ok-top.top in
    let same = ap (λ (a : Activation). words_of a) c.in_ok-top.ensures in
    omega (arith, all, more, same, c.pop_frame.ensures.spare)
