use Rattle.std.proofs.Common.{◌≡◌}
use Rattle.thread_machine.proofs.StackLemmas.{filled}
use Rattle.thread_machine.proofs.stack.fill.Given as goal

abbrev pub invariant-loop-at : goal.invariant-loop-at
invariant-loop-at g l =
    (g.S.FrameStack.frames l.stack ≡ filled (g.S.FrameStack.frames l.initial.stack) l.slots l.at)
    × (g.S.FrameStack.spare l.stack ≡ g.S.FrameStack.spare l.initial.stack)
