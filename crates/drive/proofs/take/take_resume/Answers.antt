use Rattle.std.proofs.Common.{refl, sym}
use Rattle.drive.proofs.TakeLemmas.{bad-Resume}
use Rattle.drive.proofs.take.take_resume.Goals as goal

pub returns-then-not-may_resume-clause-taken : goal.returns-then-not-may_resume-clause-taken
returns-then-not-may_resume-clause-taken c = (bad-Resume c.args.world.now c.args.t (sym c.if-not-may_resume.ensures), refl)
