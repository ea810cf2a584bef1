-- A patch that was made reads back.
use Rattle.std.proofs.Common.{◌≡◌, ◌∙◌, ℕ, ◌≤◌, List, length, map, refl, sym, ap, subst, Result, Ok}
use Rattle.c_grammar.specs.Mapping.{IsMappingOf}
use Rattle.c_tree.specs.declared.lifted.Lifted.{Lifted}
use Rattle.c_tree.specs.declared.mapping.Mapping.{Mapping}
use Rattle.c_tree.specs.declared.mapping.Patch.{Patch}
use Rattle.c_tree.specs.Canonical.{canonical_entries}
use Rattle.patch_form.specs.declared.format.Format.TheVariants.{Two}
use Rattle.patch_maker.specs.Made.{IsPatch}
use Rattle.c_source.specs.Source.{IsAccepted}
use Rattle.patch_file.specs.Laws.{OneAnswer, MadePatchesReadBack}
use Rattle.patch_file.specs.Whole.{IsWhole, IsFileOf, file_of, max_file}

made_whole : (old new text : List ℕ) (p q : Lifted) (m : Mapping) (x : Patch) → IsAccepted old p → IsAccepted new q → IsMappingOf text m → IsPatch old p new q m x
    → length (file_of x) ≤ max_file → IsWhole x
made_whole old new text p q m x a b is made small = record {
  old = subst (λ (t : List ℕ). IsAccepted t x.old) (sym made.old_text) (subst (λ (z : Lifted). IsAccepted old z) (sym made.old) a);
  new = subst (λ (t : List ℕ). IsAccepted t x.new) (sym made.new_text) (subst (λ (z : Lifted). IsAccepted new z) (sym made.new) b);
  text = text;
  mapping = m;
  read = is;
  entries =
      ap (λ z. canonical_entries z x.new (map (λ y. y.it) m.entries)) made.old ∙ ap (λ z. canonical_entries p z (map (λ y. y.it) m.entries)) made.new ∙ made.entries.are;
  small = small;
}

pub made_read_back : OneAnswer → MadePatchesReadBack
made_read_back one old new text p q m x a b is made small =
    let file : IsFileOf (file_of x) x = (made_whole old new text p q m x a b is made small, (Two, tt, refl)) in
    (file, (λ y other. one.one_patch (file_of x) y x other file), λ at why refused. one.never_both (file_of x) at x why file refused)
