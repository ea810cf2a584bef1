use Rattle.std.proofs.Common.{sym, ◌∙◌, ap}
use Rattle.std.specs.Prelude.{◌||◌}
use Rattle.std.specs.List.{list_any}
use Rattle.patch_maker.specs.Subjects.{second_subject, is_about_some}
use Rattle.patch_maker.proofs.SubjectLemmas.{any_clash}
use Rattle.patch_maker.proofs.subjects.clashes.Goals as goal

pub returns-then-has : goal.returns-then-has
returns-then-has c = λ es h.
    let e = c.args.entry.now in
    let first = c.has.ensures es h ∙ ap (λ o. list_any (is_about_some o) es) c.first_subject.ensures in
    c.if-has.true ∙ (ap (λ b. b || list_any (is_about_some (second_subject e)) es) (sym c.if-has.true ∙ first) ∙ sym (any_clash e es))

pub returns-else-has : goal.returns-else-has
returns-else-has c = λ es h.
    let e = c.args.entry.now in
    let first = c.has.ensures es h ∙ ap (λ o. list_any (is_about_some o) es) c.first_subject.ensures in
    let second = c.has-else-has.ensures es h ∙ ap (λ o. list_any (is_about_some o) es) c.second_subject.ensures in
    second ∙ (ap (λ b. b || list_any (is_about_some (second_subject e)) es) (sym c.if-has.false ∙ first) ∙ sym (any_clash e es))
