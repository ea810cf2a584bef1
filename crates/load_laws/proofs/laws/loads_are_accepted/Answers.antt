use Rattle.load_laws.proofs.Law.{law}
use Rattle.load_laws.proofs.laws.loads_are_accepted.Goals as goal

pub returns : goal.returns
returns c = law
