use Rattle.std.proofs.Common.{◌∙◌, ap, sym}
use Rattle.std.specs.List.{list_any}
use Rattle.patch_maker.specs.Subjects.{is_about_some}
use Rattle.patch_maker.proofs.SubjectLemmas.{about_none}
use Rattle.patch_maker.proofs.subjects.has.Goals as goal

pub returns-in-None : goal.returns-in-None
returns-in-None c = λ es h. about_none es ∙ ap (λ o. list_any (is_about_some o) es) (sym c.in-None.is)
