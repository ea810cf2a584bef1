use Rattle.std.proofs.Common.{length}
use Rattle.history.proofs.LineLemmas.{Listed}
use Rattle.history.proofs.listing.read_schedule.Given as goal

abbrev pub invariant-loop-event : goal.invariant-loop-event
invariant-loop-event l = Listed l.bytes l.events.items l.rest

abbrev pub decreases-loop-event : goal.decreases-loop-event
decreases-loop-event l = length l.rest
