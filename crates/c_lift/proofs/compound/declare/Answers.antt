use Rattle.c_lift.proofs.StmtLemmas.{lifts_declared}
use Rattle.c_lift.proofs.compound.declare.Goals as goal

pub returns : goal.returns
returns c =
    lifts_declared c.args.at c.args.ty.now c.args.name.now c.args.value.now c.in_ok-slot.slot c.in_ok-slot.ensures.names c.in_ok-slot.ensures.slots c.in_ok-slot.ensures.slot
    c.in_ok-start_value.ensures
