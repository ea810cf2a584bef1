use Rattle.std.proofs.Common.{◌≤◌, ◌<◌, ◌-◌, ℕ, length}
use Rattle.thread_machine.specs.Rebuilt.{place_at}
use Rattle.thread_machine.proofs.part.calls_before.Given as goal

abbrev pub invariant-loop-low : goal.invariant-loop-low
invariant-loop-low l =
    (l.low ≤ l.high)
    × (l.high ≤ length l.calls)
    × ((k : ℕ) → k < l.low → place_at l.calls k < l.place)
    × ((k : ℕ) → l.high ≤ k → k < length l.calls → l.place ≤ place_at l.calls k)

abbrev pub decreases-loop-low : goal.decreases-loop-low
decreases-loop-low l = l.high - l.low
