use Rattle.std.proofs.Common.{◌≡◌, ◌∙◌, IfOk, sym, ap, subst}
use Rattle.c_places.specs.Limit.{KeepsLimit}
use Rattle.c_tree.specs.Link.{link_of}
use Rattle.reports.specs.Words as spec
use Rattle.reports.proofs.reason.reason_words.Goals as goal

pub linked_words-requires : goal.linked_words-requires
linked_words-requires c = subst (λ k. KeepsLimit k.old) (sym c.in-Ok.ensures) c.requires

pub returns-in-Ok : goal.returns-in-Ok
returns-in-Ok c =
    let p = c.args.patch.now in
    let is = c.in-Ok.ensures ∙ ap (λ es. link_of p.old p.new es) c.as_slice.ensures in
    subst (λ es. IfOk c.linked_words.result (λ words. words ≡ spec.reason (link_of p.old p.new p.entries) es c.args.at c.args.reason)) c.as_slice-in-Ok.ensures
    (subst (λ k. IfOk c.linked_words.result (λ words. words ≡ spec.reason k c.as_slice-in-Ok.result.now c.args.at c.args.reason)) is c.linked_words.ensures)
