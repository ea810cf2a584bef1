use Rattle.state_laws.proofs.PlanEnds.{plan_has_a_list}
use Rattle.state_laws.proofs.run_laws.each_plan_has_a_list.Goals as goal

pub returns : goal.returns
returns c = plan_has_a_list
