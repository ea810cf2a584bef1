use Rattle.target_laws.proofs.Over.{one_end}
use Rattle.target_laws.proofs.OneTarget.{more_fuel, one_target}
use Rattle.target_laws.proofs.laws.a_run_has_one_target.Goals as goal

pub returns-clause-fuel : goal.returns-clause-fuel
returns-clause-fuel c = more_fuel

pub returns-clause-one : goal.returns-clause-one
returns-clause-one c = one_target

pub returns-clause-machine : goal.returns-clause-machine
returns-clause-machine c = one_end
