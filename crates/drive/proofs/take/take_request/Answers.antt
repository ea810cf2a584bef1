use Rattle.std.proofs.Common.{refl, sym}
use Rattle.drive.proofs.TakeLemmas.{bad-Request}
use Rattle.drive.proofs.take.take_request.Goals as goal

pub returns-then-not-may_request-clause-taken : goal.returns-then-not-may_request-clause-taken
returns-then-not-may_request-clause-taken c = (bad-Request c.args.world.now (sym c.if-not-may_request.ensures), refl)
