use Rattle.reports.proofs.PartLemmas.{slots_of_parts}
use Rattle.reports.proofs.laws.slots_are_those_of_the_parts.Goals as goal

pub returns : goal.returns
returns c = slots_of_parts
