use Rattle.c_source.proofs.Verdicts.{one_verdict}
use Rattle.c_source.proofs.laws.a_source_has_one_verdict.Goals as goal

pub returns : goal.returns
returns c = one_verdict c.a_source_has_one_answer.ensures c.refusal_law.ensures.not_well_typed
