use Rattle.c_places.proofs.EnterLemmas.{begins-nowhere}
use Rattle.c_places.proofs.enter.+entering.Goals as goal

pub begin-returns-in-None : goal.begin-returns-in-None
begin-returns-in-None t c = begins-nowhere c.args.exits c.args.n c.args.next c.args.block.now c.in-None.ensures.cases
