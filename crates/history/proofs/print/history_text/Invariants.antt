use Rattle.std.proofs.Common.{◌≡◌, ◌++◌}
use Rattle.history.specs.History.{history}
use Rattle.history.proofs.print.history_text.Given as goal

abbrev pub invariant-loop-event : goal.invariant-loop-event
invariant-loop-event l = history l.events.items ≡ l.out.items ++ history l.event-iterator
