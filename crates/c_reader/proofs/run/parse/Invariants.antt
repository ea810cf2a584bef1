use Rattle.std.specs.Prelude.{map}
use Rattle.c_reader.specs.Stacks.{to_come, so_far}
use Rattle.c_reader.specs.Outcome.{FollowsAt}
use Rattle.c_reader.proofs.run.parse.Given as goal

abbrev pub invariant-loop-i : goal.invariant-loop-i
invariant-loop-i g l = FollowsAt l.begin (map g.T.Readable.piece l.tokens) l.i (to_come l.machine) (so_far l.machine)
