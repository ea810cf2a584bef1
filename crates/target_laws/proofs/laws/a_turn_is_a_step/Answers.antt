use Rattle.target_laws.proofs.TurnIsStep.{turn_is_step, turn_ends_as_step, blocked_turn_waits}
use Rattle.target_laws.proofs.laws.a_turn_is_a_step.Goals as goal

pub returns-clause-turn : goal.returns-clause-turn
returns-clause-turn c = turn_is_step

pub returns-clause-waits : goal.returns-clause-waits
returns-clause-waits c = blocked_turn_waits

pub returns-clause-ends : goal.returns-clause-ends
returns-clause-ends c = turn_ends_as_step
