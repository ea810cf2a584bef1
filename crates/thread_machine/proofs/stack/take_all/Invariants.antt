use Rattle.std.proofs.Common.{◌≡◌, ◌+◌, ◌++◌, length}
use Rattle.thread_machine.specs.Room.{words_of_all}
use Rattle.thread_machine.proofs.stack.take_all.Given as goal

abbrev pub invariant-loop : goal.invariant-loop
invariant-loop g l =
    (l.taken ++ g.S.FrameStack.frames l.stack ≡ l.initial.taken ++ g.S.FrameStack.frames l.initial.stack)
    × (length (g.S.FrameStack.frames l.stack) + l.counter ≡ l.depth)
    × (g.S.FrameStack.spare l.stack + words_of_all l.initial.taken ≡ g.S.FrameStack.spare l.initial.stack + words_of_all l.taken)
