use Rattle.c_reader.proofs.Answered.{answered}
use Rattle.c_reader.proofs.laws.each_source_has_one_answer.Goals as goal

pub returns-clause-some : goal.returns-clause-some
returns-clause-some c = answered
