use Rattle.plain_run.proofs.EventLemmas.{request_makes}
use Rattle.plain_run.proofs.event.request.Goals as goal

pub returns : goal.returns
returns c k ps s m = request_makes c.args.now.now k ps s m
