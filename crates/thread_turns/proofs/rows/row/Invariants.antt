use Rattle.std.proofs.Common.{◌-◌}
use Rattle.thread_turns.specs.Turns.{IsWay, thread_of}
use Rattle.thread_turns.proofs.rows.row.Given as goal

abbrev pub invariant-loop-at : goal.invariant-loop-at
invariant-loop-at g l =
    IsWay l.code l.number (thread_of l.fn.kept (g.S.FrameStack.frames l.fn.stack)) l.fn.store l.body l.place l.marked l.room l.most l.kept
    l.at l.words (g.S.FrameStack.frames l.stack) l.store

abbrev pub decreases-loop-at : goal.decreases-loop-at
decreases-loop-at g l = 18446744073709551615 - l.at.count
