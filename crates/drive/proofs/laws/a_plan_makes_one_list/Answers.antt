use Rattle.drive.proofs.OnePlan.{one_plan}
use Rattle.drive.proofs.laws.a_plan_makes_one_list.Goals as goal

pub returns : goal.returns
returns c = one_plan
