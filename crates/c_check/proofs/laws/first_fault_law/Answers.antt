use Rattle.c_check.proofs.CheckLemmas.{first-least, well_typed-none}
use Rattle.c_check.proofs.laws.first_fault_law.Goals as goal

pub returns-clause-least : goal.returns-clause-least
returns-clause-least c = first-least

pub returns-clause-none : goal.returns-clause-none
returns-clause-none c = well_typed-none
