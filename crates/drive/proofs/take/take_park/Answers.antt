use Rattle.std.proofs.Common.{refl, sym}
use Rattle.drive.proofs.TakeLemmas.{bad-Park}
use Rattle.drive.proofs.take.take_park.Goals as goal

pub returns-then-not-may_park-clause-taken : goal.returns-then-not-may_park-clause-taken
returns-then-not-may_park-clause-taken c = (bad-Park c.args.world.now c.args.t (sym c.if-not-may_park.ensures), refl)
