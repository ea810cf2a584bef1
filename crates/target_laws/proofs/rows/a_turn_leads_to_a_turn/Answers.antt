use Rattle.target_laws.proofs.Threads.{turn_ends_standing, turn_leads_on}
use Rattle.target_laws.proofs.rows.a_turn_leads_to_a_turn.Goals as goal

pub returns-clause-turn : goal.returns-clause-turn
returns-clause-turn c = turn_leads_on

pub returns-clause-stands : goal.returns-clause-stands
returns-clause-stands c = turn_ends_standing
