use Rattle.std.proofs.Common.{◌≡◌, ◌≤◌, ◌-◌}
use Rattle.seg_stack.proofs.stack.SegStackFrameStack.reserve.Given as goal

abbrev pub invariant-loop-self : goal.invariant-loop-self
invariant-loop-self l = (l.self.frames ≡ l.initial.self.frames) × (l.initial.self.spare ≤ l.self.spare)

abbrev pub decreases-loop-self : goal.decreases-loop-self
decreases-loop-self l = l.room - l.self.spare
