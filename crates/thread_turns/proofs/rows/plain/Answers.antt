use Rattle.thread_turns.proofs.PlainLemmas.{evaluated_done}
use Rattle.thread_turns.proofs.rows.plain.Goals as goal

pub returns-in_default : goal.returns-in_default
returns-in_default g c =
    record {
      done = λ w f. evaluated_done w c.args.instr c.evaluate.result c.args.at.now c.evaluate.new.at c.args.words.now c.evaluate.new.words (g.S.FrameStack.frames c.args.stack.now) c.args.store.now c.requires.plain c.in_default.not-Jump c.in_default.not-Restore (c.evaluate.ensures.performs w f) c.evaluate.ensures.keeps;
      same = c.evaluate.ensures.same;
      depth = c.evaluate.ensures.depth;
      plain = c.requires.plain;
    }
