use Rattle.std.proofs.Common.{arith}
use Rattle.frame_transform.proofs.LoopLemmas.{loops_of-le}
use Rattle.frame_transform.proofs.function.append_body.Goals as goal

pub append_block-requires-clause-loops : goal.append_block-requires-clause-loops
append_block-requires-clause-loops c = omega (arith, c.requires, loops_of-le c.args.body.now)
