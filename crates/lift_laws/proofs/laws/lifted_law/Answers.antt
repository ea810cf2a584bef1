use Rattle.lift_laws.proofs.FormedLemmas.{within_limits, different_names, params_come_first, has_main, pointers_start_null, arrays_start_at_zero}
use Rattle.lift_laws.proofs.laws.lifted_law.Goals as goal

pub returns-clause-limits : goal.returns-clause-limits
returns-clause-limits c = within_limits

pub returns-clause-names : goal.returns-clause-names
returns-clause-names c = different_names

pub returns-clause-parameters : goal.returns-clause-parameters
returns-clause-parameters c = params_come_first

pub returns-clause-main : goal.returns-clause-main
returns-clause-main c = has_main

pub returns-clause-starts : goal.returns-clause-starts
returns-clause-starts c = pointers_start_null

pub returns-clause-arrays : goal.returns-clause-arrays
returns-clause-arrays c = arrays_start_at_zero
