use Rattle.plain_run.proofs.OutcomeLemmas.{refuse_makes}
use Rattle.plain_run.proofs.decision.refuse.Goals as goal

pub returns : goal.returns
returns c k ps a d = refuse_makes c.args.reason c.args.now.now k ps a d
