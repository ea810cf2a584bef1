use Rattle.std.proofs.Common.{sym, subst}
use Rattle.c_tree.specs.Formed.{IsFormed}
use Rattle.c_source.proofs.laws.accepted_programs_are_formed.Goals as goal

pub returns : goal.returns
returns c = λ source p accepted.
    let form = c.readings_have_their_form.ensures source accepted.tree accepted.read in
    subst IsFormed (sym accepted.lifted) (c.a_lifted_program_is_formed.ensures.formed accepted.tree accepted.typed form accepted.small)
