use Rattle.c_places.proofs.FlowLemmas.{stays-inside, goes-on}
use Rattle.c_places.proofs.laws.flow_goes_on.Goals as goal

pub returns-clause-inside : goal.returns-clause-inside
returns-clause-inside c = stays-inside

pub returns-clause-on : goal.returns-clause-on
returns-clause-on c = goes-on
