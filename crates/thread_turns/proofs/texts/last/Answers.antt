use Rattle.thread_turns.proofs.OperandLemmas.{last_words}
use Rattle.thread_turns.proofs.texts.last.Goals as goal

pub returns : goal.returns
returns c = last_words c.args.depth c.args.count c.args.words.now c.requires.some c.requires.within
