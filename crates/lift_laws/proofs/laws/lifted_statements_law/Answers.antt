use Rattle.lift_laws.proofs.KeptLemmas.{loops_are_kept, prints_fit}
use Rattle.lift_laws.proofs.SlotLemmas.{slots_are_different}
use Rattle.lift_laws.proofs.FormSorts.{has_sorts}
use Rattle.lift_laws.proofs.laws.lifted_statements_law.Goals as goal

pub returns-clause-loops : goal.returns-clause-loops
returns-clause-loops c = loops_are_kept

pub returns-clause-prints : goal.returns-clause-prints
returns-clause-prints c = prints_fit

pub returns-clause-sorts : goal.returns-clause-sorts
returns-clause-sorts c = has_sorts

pub returns-clause-slots : goal.returns-clause-slots
returns-clause-slots c = slots_are_different
