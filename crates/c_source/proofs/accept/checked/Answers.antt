use Rattle.c_source.proofs.Refusing.{unread, ill_typed}
use Rattle.c_source.proofs.accept.checked.Goals as goal

pub returns-in-Err-clause-answer : goal.returns-in-Err-clause-answer
returns-in-Err-clause-answer c = unread _ _ _ c.unread.ensures c.in-Err.ensures.answer

pub returns-in-Err-check-clause-answer : goal.returns-in-Err-check-clause-answer
returns-in-Err-check-clause-answer c = ill_typed _ _ _ _ c.ill_typed.ensures c.in-Ok.ensures.answer c.in-Err-check.ensures.refused
