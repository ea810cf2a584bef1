use Rattle.c_reader.proofs.Outcomes.{finishes_some}
use Rattle.c_reader.proofs.machine.Machine.finish.Goals as goal

pub returns-in-Some : goal.returns-in-Some
returns-in-Some c = finishes_some _ _ _ _ _ _ c.in_ok-advance.ensures.reached c.in-Some.is
