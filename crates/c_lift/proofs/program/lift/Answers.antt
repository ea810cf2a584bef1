use Rattle.std.proofs.Common.{sym, subst}
use Rattle.c_tree.specs.Formed.{IsFormed}
use Rattle.c_tree.specs.ReadForm.{HasReadForm}
use Rattle.c_tree.specs.Typing.{IsWellTyped}
use Rattle.lift_laws.proofs.Formed.{formed}
use Rattle.c_lift.proofs.program.lift.Goals as goal

pub returns-clause-formed : goal.returns-clause-formed
returns-clause-formed c =
    let same = sym c.program.ensures.same in
    let typed = subst IsWellTyped same c.program.ensures.well_typed in
    let read = subst HasReadForm same c.program.ensures.read_form in
    subst IsFormed (sym c.in_ok-lifted.ensures.lifted) (formed c.program.result.now typed read c.in_ok-lifted.ensures.within)
