use Rattle.std.proofs.Common.{◌≡◌, ◌≤◌, ◌+◌, ◌*◌, drop}
use Rattle.thread_machine.specs.Rebuilt.{rebuilt_on, rebuilding_cost, AreReady}
use Rattle.thread_machine.specs.Room.{room_of}
use Rattle.thread_machine.proofs.rebuild.rebuild_all.Given as goal

abbrev pub invariant-loop-k : goal.invariant-loop-k
invariant-loop-k g l =
    (rebuilt_on l.code (drop l.k l.frames) (g.S.FrameStack.frames l.stack) ≡ rebuilt_on l.code l.frames (g.S.FrameStack.frames l.initial.stack))
    × (l.cost + rebuilding_cost l.code (drop l.k l.frames) ≡ rebuilding_cost l.code l.frames)
    × AreReady l.code (drop l.k l.frames)
    × (room_of (drop l.k l.frames) ≤ g.S.FrameStack.spare l.stack)
    × (l.cost ≤ 4294967297 * l.k)
