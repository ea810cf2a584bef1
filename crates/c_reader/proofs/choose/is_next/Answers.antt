use Rattle.c_reader.proofs.KindNumbers.{decided}
use Rattle.c_reader.proofs.choose.is_next.Goals as goal

pub returns-in-Some : goal.returns-in-Some
returns-in-Some c = decided _ _ _ c.in-Some.is
