use Rattle.std.proofs.Common.{sym, subst}
use Rattle.plain_run.specs.Settled.{Settles}
use Rattle.plain_run.specs.declared.decision.Decision.{Decision}
use Rattle.plain_run.proofs.decision.settle.Goals as goal

pub returns-in-Refused : goal.returns-in-Refused
returns-in-Refused c =
    subst (λ (d : Decision). Settles d c.args.places.now c.args.now.now c.args.places.now c.refuse.new.now) (sym c.in-Refused.is)
    (λ k a d. c.refuse.ensures k c.args.places.now a d)
