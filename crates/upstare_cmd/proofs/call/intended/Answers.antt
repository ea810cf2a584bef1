use Rattle.std.proofs.Common.{ap, ◌∙◌}
use Rattle.answers.specs.Views as view
use Rattle.upstare_cmd.proofs.Refusing.{intended}
use Rattle.upstare_cmd.proofs.call.intended.Goals as goal

pub returns-in-Texts-clause-meant : goal.returns-in-Texts-clause-meant
returns-in-Texts-clause-meant g c =
    intended _ _ _ _ c.in-Texts.texts c.as_slice.result.now _ (ap view.files c.deref.ensures.value ∙ c.in_ok-wanted.ensures)
    (rw c.in-Texts.is at c.in_ok-texts.ensures.taken) c.as_slice.ensures c.meant.ensures
