use Rattle.target_laws.proofs.Inside.{slots_inside, functions_coded, parameters_fit}
use Rattle.target_laws.proofs.rows.code_lies_inside.Goals as goal

pub returns-clause-slots : goal.returns-clause-slots
returns-clause-slots c = slots_inside

pub returns-clause-parameters : goal.returns-clause-parameters
returns-clause-parameters c = parameters_fit

pub returns-clause-functions : goal.returns-clause-functions
returns-clause-functions c = functions_coded
