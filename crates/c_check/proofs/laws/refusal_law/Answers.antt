use Rattle.c_check.proofs.CheckLemmas.{refused-first, refused-not}
use Rattle.c_check.proofs.laws.refusal_law.Goals as goal

pub returns-clause-first : goal.returns-clause-first
returns-clause-first c = refused-first

pub returns-clause-not_well_typed : goal.returns-clause-not_well_typed
returns-clause-not_well_typed c = refused-not
