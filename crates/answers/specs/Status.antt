-- The numbers of the statuses.
use Rattle.std.specs.Prelude.{ℕ}
use Rattle.c_tree.specs.declared.run.End.{End}
use Rattle.c_tree.specs.declared.run.End.TheVariants as end
use Rattle.answers.specs.declared.status.Status.{Status}
use Rattle.answers.specs.declared.status.Status.TheVariants as s

-- the number of a status, with which the tool exits
abbrev pub code : Status → ℕ
code s.Done = 0
code s.Usage = 1
code s.SourceRefused = 2
code s.MapRefused = 3
code s.ReadFault = 4
code s.WriteFault = 5
code s.Trapped = 6
code s.Deadlock = 7
code s.StepLimit = 8
code s.NoMemory = 9
code s.ScheduleRefused = 10
code s.TooLong = 11

-- the status of a run by its end
abbrev pub status_of : End → Status
status_of (end.Finished code) = s.Done
status_of (end.Trapped t x) = s.Trapped
status_of end.Deadlock = s.Deadlock
status_of end.Limit = s.StepLimit
