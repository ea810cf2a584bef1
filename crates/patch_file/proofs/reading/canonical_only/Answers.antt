use Rattle.std.proofs.Common.{◌≡◌, ◌∙◌, ℕ, List, ap, subst}
use Rattle.c_tree.specs.Canonical.{canonical_text}
use Rattle.patch_file.specs.Refused.{IsFirstDifference}
use Rattle.patch_file.specs.Whole.{map_of}
use Rattle.patch_file.proofs.Refusals.{of_difference}
use Rattle.patch_file.proofs.reading.canonical_only.Goals as goal

pub returns-in-Some : goal.returns-in-Some
returns-in-Some c =
    let frame = c.args.frame.now in
    let made = c.requires.made in
    let whole = c.patch-whole.result.now in
    let text : c.deref.result.now ≡ map_of c.args.patch =
    c.deref.ensures.value ∙ c.in-Ok.ensures ∙ ap (λ es. canonical_text whole.old whole.new es) c.as_slice.ensures ∙ ap map_of c.patch-whole.ensures.same in
    let found = c.first_difference.ensures.differ c.in-Some.i c.in-Some.is in
    let differs : IsFirstDifference c.in-Some.i frame.map.text.now (map_of c.args.patch) =
    subst (λ (t : List ℕ). IsFirstDifference c.in-Some.i frame.map.text.now t) text found.0 in
    of_difference frame c.args.patch made.0 c.in-Some.i c.refused_at.result c.requires.placed made.1 made.2 differs c.refused_at.ensures
