use Rattle.c_lift.specs.Around.{around}
use Rattle.c_lift.proofs.BuildLemmas.{member_told}
use Rattle.c_lift.proofs.taken.field_of.Goals as goal

pub returns-clause-ty : goal.returns-clause-ty
returns-clause-ty c =
    member_told (around c.args.at.now).scope c.args.owner.now c.args.name.now c.fields_of-fields.result.now c.in_ok-ty.ty
    c.fields_of-fields.ensures c.in_ok-ty.ensures
