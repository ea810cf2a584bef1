use Rattle.target_laws.proofs.Ahead.{jumps_stop, tests_go_forward}
use Rattle.target_laws.proofs.laws.jumps_stop.Goals as goal

pub returns-clause-jumps : goal.returns-clause-jumps
returns-clause-jumps c = jumps_stop

pub returns-clause-tests : goal.returns-clause-tests
returns-clause-tests c = tests_go_forward
