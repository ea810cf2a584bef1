use Rattle.std.proofs.Common.{arith}
use Rattle.thread_turns.proofs.OperandLemmas.{below_operands}
use Rattle.thread_turns.proofs.texts.available.Goals as goal

pub returns-then-asked-depth-clause-left : goal.returns-then-asked-depth-clause-left
returns-then-asked-depth-clause-left c =
    let less = c.if-asked-depth.true in
    below_operands c.args.depth c.args.asked c.args.words.now (omega (arith, less)) c.requires
