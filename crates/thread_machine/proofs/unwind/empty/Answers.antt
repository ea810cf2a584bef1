use Rattle.std.proofs.Common.{rules, ◌<◌, ◌++◌, List, subst, sym, ap, ◌∙◌}
use Rattle.target_code.specs.declared.activation.Activation.{Activation}
use Rattle.thread_machine.specs.Room.{HaveFewSlots}
use Rattle.thread_machine.proofs.StackLemmas.{few_front, saving_is_little}
use Rattle.thread_machine.proofs.unwind.empty.Goals as goal

pub put_back-requires-clause-few : goal.put_back-requires-clause-few
put_back-requires-clause-few g c =
    let before = g.S.FrameStack.frames c.args.stack.now in
    let none = c.from_vec-taken.ensures ∙ c.in_ok-with_capacity.ensures.items in
    let all = subst HaveFewSlots (sym (c.in-Err.ensures.taken ∙ ap (λ (l : List Activation). l ++ before) none)) c.requires.few in
    few_front c.take_all.new.taken (g.S.FrameStack.frames c.take_all.new.stack) all

pub returns-in-Ok-clause-little : goal.returns-in-Ok-clause-little
returns-in-Ok-clause-little g c =
    let before = g.S.FrameStack.frames c.args.stack.now in
    let none = c.from_vec-taken.ensures ∙ c.in_ok-with_capacity.ensures.items in
    let all = c.take_all.ensures.taken ∙ ap (λ (l : List Activation). l ++ before) none in
    let fits : c.depth-depth.result < 4294967296 = search rules in
    saving_is_little c.args.code.now c.take_all.new.taken (g.S.FrameStack.frames c.take_all.new.stack) before c.depth-depth.result c.save_all-cost.result all c.depth-depth.ensures fits c.save_all-cost.ensures.cost
