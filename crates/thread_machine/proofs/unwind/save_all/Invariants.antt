use Rattle.std.proofs.Common.{◌≡◌, ◌≤◌, ◌+◌, ◌*◌, ◌++◌, length, reverse, vec_len, vec_capacity}
use Rattle.thread_machine.specs.Standing.{saved_frames, saving_cost}
use Rattle.thread_machine.proofs.unwind.save_all.Given as goal

abbrev pub invariant-loop : goal.invariant-loop
invariant-loop l =
    (l.frames.items ++ reverse (saved_frames l.code l.taken) ≡ l.initial.frames.items ++ reverse (saved_frames l.code l.initial.taken))
    × (length l.taken + l.counter ≡ l.all)
    × (vec_len l.frames + length l.taken ≤ vec_capacity l.frames)
    × (l.cost + saving_cost l.code l.taken ≡ saving_cost l.code l.initial.taken)
    × (l.cost ≤ 2 * l.counter)
