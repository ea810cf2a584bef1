use Rattle.target_code.specs.declared.instr.Instr.TheVariants as instr
use Rattle.thread_turns.specs.Now.{now}
use Rattle.thread_turns.proofs.PerformLemmas.{moves_done}
use Rattle.thread_turns.proofs.calls.end_or_give_back.Goals as goal

pub returns-then-depth-gt1-clause-done : goal.returns-then-depth-gt1-clause-done
returns-then-depth-gt1-clause-done g c w memory n =
    moves_done w instr.Ret c.give_back.result (now c.args.at.now c.args.words.now (g.S.FrameStack.frames c.args.stack.now) memory) (now c.give_back.new.at c.args.words.now (g.S.FrameStack.frames c.give_back.new.stack) memory) c.give_back.ensures.moves (c.give_back.ensures.performs w memory)
