use Rattle.state_laws.proofs.Gate.{never_stuck}
use Rattle.state_laws.proofs.run_laws.the_gate_is_never_stuck.Goals as goal

pub returns : goal.returns
returns c = never_stuck
