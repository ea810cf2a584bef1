use Rattle.std.proofs.Common.{◌≡◌, ◌≤◌, ◌+◌, ◌++◌, length}
use Rattle.thread_machine.specs.Room.{words_of_all, HaveFewSlots}
use Rattle.thread_machine.proofs.stack.put_back.Given as goal

abbrev pub invariant-loop : goal.invariant-loop
invariant-loop g l =
    (l.taken ++ g.S.FrameStack.frames l.stack ≡ l.initial.taken ++ g.S.FrameStack.frames l.initial.stack)
    × (length l.taken + l.counter ≡ l.all)
    × HaveFewSlots l.taken
    × (words_of_all l.taken ≤ g.S.FrameStack.spare l.stack)
