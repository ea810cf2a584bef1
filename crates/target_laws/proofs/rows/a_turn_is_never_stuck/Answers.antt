use Rattle.target_laws.proofs.Threads.{turn_never_stuck}
use Rattle.target_laws.proofs.rows.a_turn_is_never_stuck.Goals as goal

pub returns : goal.returns
returns c = turn_never_stuck
