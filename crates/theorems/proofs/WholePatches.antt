-- Whole patches are sound, of their source's program, and lead to formed ones.
use Rattle.std.proofs.Common.{◌≡◌, ℕ, List, map, Result, Ok, Err, refl, subst}
use Rattle.c_tree.specs.declared.lifted.Lifted.{Lifted}
use Rattle.c_tree.specs.declared.mapping.LEntry.{LEntry}
use Rattle.c_tree.specs.declared.mapping.Mapping.{Mapping}
use Rattle.c_tree.specs.declared.mapping.Patch.{Patch}
use Rattle.c_tree.specs.Canonical.{canonical}
use Rattle.c_tree.specs.Entries.{Unsound, lifted_entries}
use Rattle.c_tree.specs.MapForm.{HasMapForm}
use Rattle.c_tree.specs.Refusal.{onward}
use Rattle.c_tree.specs.Sound.{Sound}
use Rattle.map_lang.specs.Formed.{EachMappingHasTheForm}
use Rattle.patch_file.specs.Whole.{IsWhole}
use Rattle.patch_laws.specs.Laws.{LiftedEntriesAreSound}
use Rattle.c_source.specs.Laws.{AcceptedIsFormed, OneVerdict}
use Rattle.c_source.specs.Source.{IsAccepted}
use Rattle.state_laws.specs.Laws.{IsArmedBy}

abbrev ok : List LEntry → Result (List LEntry) Unsound
ok es = Ok es

of_lifted : (old new : Lifted) (m : Mapping) (es : List LEntry) (r : Result (List LEntry) Unsound) → LiftedEntriesAreSound → HasMapForm m
    → lifted_entries old new (map (λ x. x.it) m.entries) ≡ r → onward r (λ xs. Ok (canonical xs)) ≡ ok es → Sound old new es
of_lifted old new m es (Ok xs) law form is e =
    let same : canonical xs ≡ es = cc in
    subst (λ ys. Sound old new ys) same (law old new m xs form is)
of_lifted old new m es (Err u) law form is e = absurd (let no : ⊥ = cc in no)

-- a whole patch is sound
pub whole_is_sound : (p : Patch) → IsWhole p → LiftedEntriesAreSound → EachMappingHasTheForm → Sound p.old p.new p.entries
whole_is_sound p whole law formed =
    of_lifted p.old p.new whole.mapping p.entries (lifted_entries p.old p.new (map (λ x. x.it) whole.mapping.entries)) law
    (formed whole.text whole.mapping whole.read) refl whole.entries

-- a whole patch of a source arms its program well
pub armed_by : (source : List ℕ) (p : Lifted) (patch : Patch) → IsAccepted source p → IsWhole patch → source ≡ patch.old_text → AcceptedIsFormed → OneVerdict → LiftedEntriesAreSound
    → EachMappingHasTheForm → IsArmedBy p patch
armed_by source p patch accepted whole of formed one law form = record {
  old = one.one_program patch.old_text patch.old p whole.old (subst (λ t. IsAccepted t p) of accepted);
  new = formed patch.new_text patch.new whole.new;
  sound = whole_is_sound patch whole law form;
}
