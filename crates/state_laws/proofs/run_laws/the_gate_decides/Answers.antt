use Rattle.state_laws.proofs.Gate.{gate_decides}
use Rattle.state_laws.proofs.Requests.{requests_in_time}
use Rattle.state_laws.proofs.run_laws.the_gate_decides.Goals as goal

pub returns-clause-outcome : goal.returns-clause-outcome
returns-clause-outcome c = gate_decides

pub returns-clause-request : goal.returns-clause-request
returns-clause-request c = requests_in_time
