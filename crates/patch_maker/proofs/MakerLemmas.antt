-- The canonical entries of a mapping make a sound patch.
use Rattle.std.proofs.Common.{◌≡◌, ◌∙◌, List, [], map, refl, sym, ap, subst}
use Rattle.std.specs.Prelude.{Result, Ok, Err, MatchResult}
use Rattle.c_tree.specs.declared.lifted.Lifted.{Lifted}
use Rattle.c_tree.specs.declared.program.At.{At}
use Rattle.c_tree.specs.declared.mapping.Entry.{Entry}
use Rattle.c_tree.specs.declared.mapping.LEntry.{LEntry}
use Rattle.c_tree.specs.declared.mapping.Mapping.{Mapping}
use Rattle.c_tree.specs.Canonical.{canonical, canonical_entries}
use Rattle.c_tree.specs.Entries.{Unsound, all_entries, lifted_entries, link_by_names}
use Rattle.c_tree.specs.Link.{Link}
use Rattle.c_tree.specs.MapForm.{HasMapForm}
use Rattle.c_tree.specs.Refusal.{onward}
use Rattle.c_tree.specs.Sound.{Sound}
use Rattle.patch_laws.proofs.Kept.{canonical_kept}
use Rattle.patch_laws.proofs.LiftedSound.{lifted_entries_sound}
use Rattle.patch_maker.specs.declared.refused.PatchRefused.{PatchRefused}
use Rattle.patch_maker.specs.declared.refused.PatchRefused.TheVariants as refused
use Rattle.patch_maker.specs.Judged.{AreJudged, AreLifted, AreUnlifted, Stops}
use Rattle.patch_maker.specs.Made.{AreCanonical, AreRefused}

-- canonical entries are lifted ones in order
pub record Ordered (old new : Lifted) (xs : List Entry) (es : List LEntry) : Type 0 where
  pub lifted : List LEntry
  pub are : lifted_entries old new xs ≡ Ok lifted
  pub order : es ≡ canonical lifted

ordered : (old new : Lifted) (xs : List Entry) (es : List LEntry) → canonical_entries old new xs ≡ Ok es → Ordered old new xs es
ordered old new xs es is = go (lifted_entries old new xs) refl is
  where
    go : (r : Result (List LEntry) Unsound) → lifted_entries old new xs ≡ r → onward r (λ ys. Ok (canonical ys)) ≡ Ok es → Ordered old new xs es
    go (Ok ys) e is = record { lifted = ys; are = e; order = cc }
    go (Err u) e is = cc

pub canonical_are_sound : (old new : Lifted) (m : Mapping) (es : List LEntry) → HasMapForm m → AreCanonical old new (map (λ x. x.it) m.entries) es → Sound old new es
canonical_are_sound old new m es form is =
    let o = ordered old new _ es is.are in subst (Sound old new) (sym o.order) (lifted_entries_sound old new m o.lifted form o.are)

pub canonical_are_kept : (old new : Lifted) (xs : List Entry) (es : List LEntry) → AreCanonical old new xs es → canonical es ≡ es
canonical_are_kept old new xs es is =
    let o = ordered old new xs es is.are in ap canonical o.order ∙ canonical_kept o.lifted ∙ sym o.order

-- entries that were judged under the link of the mapping
pub lifted_by : (p q : Lifted) (xs : List Entry) (k : Link) (es : List LEntry) → k ≡ link_by_names p q xs → AreJudged k xs es → AreLifted p q xs es
lifted_by p q xs k es link judged = record { are = ap (λ (j : Link). all_entries j 1 [] xs) (sym link) ∙ judged.are }

pub unlifted_by : (p q : Lifted) (xs : List Entry) (k : Link) (why : PatchRefused) → k ≡ link_by_names p q xs → Stops k xs why → AreUnlifted p q xs why
unlifted_by p q xs k (refused.Entry number cause) link stop = record { is = ap (λ (j : Link). all_entries j 1 [] xs) (sym link) ∙ stop.is }
unlifted_by p q xs k (refused.Memory e) link stop = tt

pub lifted_result : {V : Type 0} (items : V → List LEntry) (p q : Lifted) (xs : List Entry) (k : Link) (r : Result V PatchRefused) → k ≡ link_by_names p q xs
    → MatchResult r (λ v. AreJudged k xs (items v)) (Stops k xs) → MatchResult r (λ v. AreLifted p q xs (items v)) (AreUnlifted p q xs)
lifted_result items p q xs k (Ok v) link judged = lifted_by p q xs k (items v) link judged
lifted_result items p q xs k (Err why) link stops = unlifted_by p q xs k why link stops

-- entries in order
pub in_order : (p q : Lifted) (xs : List Entry) (done es : List LEntry) → AreLifted p q xs done → es ≡ canonical done → AreCanonical p q xs es
in_order p q xs done es lifted order = record { are = ap (λ r. onward r (λ ys. Ok (canonical ys))) lifted.are ∙ ap Ok (sym order) }

pub refused_in_order : (p q : Lifted) (xs : List Entry) (why : PatchRefused) → AreUnlifted p q xs why → AreRefused p q xs why
refused_in_order p q xs (refused.Entry number cause) unlifted = record { is = ap (λ r. onward r (λ ys. Ok (canonical ys))) unlifted.is }
refused_in_order p q xs (refused.Memory e) unlifted = tt

pub ruleset order_rules = (in_order, refused_in_order)

-- what is made of the canonical entries of a mapping is sound and in order
pub made : (p q : Lifted) (m : Mapping) (given : List (At Entry)) (items es : List LEntry) → HasMapForm m → given ≡ m.entries → AreCanonical p q (map (λ x. x.it) given) items → es ≡ items
    → Sound p q es × (canonical es ≡ es)
made p q m given items es form same canonical_are is =
    let theirs : AreCanonical p q (map (λ x. x.it) m.entries) items = subst (λ (xs : List (At Entry)). AreCanonical p q (map (λ x. x.it) xs) items) same canonical_are in
    let here : AreCanonical p q (map (λ x. x.it) m.entries) es = subst (λ (ys : List LEntry). AreCanonical p q (map (λ x. x.it) m.entries) ys) (sym is) theirs in
    (canonical_are_sound p q m es form here, canonical_are_kept p q _ es here)
