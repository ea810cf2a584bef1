use Rattle.c_source.proofs.Refusing.{too_large}
use Rattle.c_source.proofs.accept.accepted.Goals as goal

pub returns-clause-verdict : goal.returns-clause-verdict
returns-clause-verdict c = too_large _ _ _ _ c.too_large.ensures c.in_ok-checked.ensures.answer c.in_ok-checked.ensures.well_typed c.in-Err.ensures.limit
