use Rattle.c_places.proofs.FlowLemmas.{length-places}
use Rattle.c_places.proofs.laws.all_places_are_counted.Goals as goal

pub returns : goal.returns
returns c = length-places
