use Rattle.answers.proofs.Reading.{asks}
use Rattle.answers.proofs.read.ask.Goals as goal

pub returns : goal.returns
returns g c = asks _ _ _ _ _ _ c.name.ensures c.limit.ensures c.read.ensures
