use Rattle.c_grammar.proofs.OneAnswer.{one_answer}
use Rattle.c_grammar.proofs.laws.a_source_has_one_answer.Goals as goal

pub returns : goal.returns
returns c = one_answer
