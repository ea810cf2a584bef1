use Rattle.lift_laws.proofs.Formed.{formed}
use Rattle.lift_laws.proofs.laws.a_lifted_program_is_formed.Goals as goal

pub returns : goal.returns
returns c = record { formed = formed }
