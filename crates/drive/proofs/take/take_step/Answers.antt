use Rattle.std.proofs.Common.{refl, sym}
use Rattle.drive.proofs.TakeLemmas.{bad-Step}
use Rattle.drive.proofs.take.take_step.Goals as goal

pub returns-then-not-may_turn-clause-taken : goal.returns-then-not-may_turn-clause-taken
returns-then-not-may_turn-clause-taken c = (bad-Step c.args.world.now c.args.t (sym c.if-not-may_turn.ensures), refl)
