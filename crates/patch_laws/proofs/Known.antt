-- What is known of entries that all lift.
use Rattle.std.proofs.Common.{◌≡◌, ℕ, ◌+◌, Bool, true, false, List, [], ◌∷◌, Result, Ok, Err, refl, sym, ◌∙◌, ap, subst}
use Rattle.std.specs.Prelude.{◌||◌}
use Rattle.std.specs.List.{list_any}
use Rattle.std.proofs.lemmas.Bool.{or_parts, or_from}
use Rattle.c_tree.specs.declared.cause.EntryCause.{EntryCause}
use Rattle.c_tree.specs.declared.mapping.Entry.{Entry}
use Rattle.c_tree.specs.declared.mapping.LEntry.{LEntry}
use Rattle.c_tree.specs.Link.{Link}
use Rattle.c_tree.specs.Causes.{clash}
use Rattle.c_tree.specs.Entries.{sound_entry, with_number, all_entries}
use Rattle.c_tree.specs.Sound.{numbers_clash}
use Rattle.c_tree.specs.Chain.{lifted_entry}
use Rattle.patch_laws.proofs.Sorting.{any_pair}
use Rattle.patch_laws.proofs.LiftedForms.{onward_known, refuse_known, same_ok}
use Rattle.patch_laws.proofs.Clash.{clash_swapped, AllLift, clashes_by_numbers}
use Rattle.patch_laws.proofs.AskedInOrder.{asked_in_order}

numbered_known : (i : ℕ) (r : Result LEntry EntryCause) (y : LEntry) → with_number i r ≡ Ok y → r ≡ Ok y
numbered_known i (Ok x) y e = ap (λ z. Ok z) (same_ok x y e)
numbered_known i (Err t) y e = absurd (let k : ⊥ = cc in k)

-- the first of entries that all lift, and the others
pub record FirstKnown (k : Link) (i : ℕ) (earlier : List Entry) (x : Entry) (rest : List Entry) (es : List LEntry) : Type 0 where
  pub first : LEntry
  pub others : List LEntry
  pub lifts : lifted_entry k x ≡ Ok first
  pub free : list_any (clash x) earlier ≡ false
  pub others_lift : all_entries k (i + 1) (x ∷ earlier) rest ≡ Ok others
  pub is : first ∷ others ≡ es

pub first_known : (k : Link) (i : ℕ) (earlier : List Entry) (x : Entry) (rest : List Entry) (es : List LEntry) → all_entries k i earlier (x ∷ rest) ≡ Ok es → FirstKnown k i earlier x rest es
first_known k i earlier x rest es w =
    let s = onward_known _ _ es w in
    let ys = onward_known _ _ es s.2 in
    let y = onward_known _ _ s.0 (asked_in_order k earlier x ∙ numbered_known i (sound_entry k earlier x) s.0 s.1) in
    let q = refuse_known _ _ _ s.0 y.2 in
    record { first = s.0; others = ys.0; lifts = y.1 ∙ q.1; free = q.0; others_lift = ys.1; is = same_ok _ es ys.2 }

-- each entry lifts
pub all_lift : (k : Link) (i : ℕ) (earlier xs : List Entry) (es : List LEntry) → all_entries k i earlier xs ≡ Ok es → AllLift k xs es
all_lift k i earlier [] es w = subst (λ z. AllLift k [] z) (same_ok [] es w) tt
all_lift k i earlier (x ∷ rest) es w =
    let q = first_known k i earlier x rest es w in
    subst (λ z. AllLift k (x ∷ rest) z) q.is (q.lifts, all_lift k (i + 1) (x ∷ earlier) rest q.others q.others_lift)

-- no two clash, nor one with an earlier entry
swapped_any : (y : LEntry) (done es : List LEntry) → list_any (λ z. list_any (numbers_clash z) (y ∷ done)) es ≡ (list_any (numbers_clash y) es || list_any (λ z. list_any (numbers_clash z) done) es)
swapped_any y done [] = refl
swapped_any y done (z ∷ es) =
    ap (λ t. (t || list_any (numbers_clash z) done) || list_any (λ z. list_any (numbers_clash z) (y ∷ done)) es) (clash_swapped z y)
    ∙ (ap (λ t. (numbers_clash y z || list_any (numbers_clash z) done) || t) (swapped_any y done es)
    ∙ middle (numbers_clash y z) (list_any (numbers_clash z) done) (list_any (numbers_clash y) es) (list_any (λ z. list_any (numbers_clash z) done) es))
  where
    middle : (a b c d : Bool) → ((a || b) || (c || d)) ≡ ((a || c) || (b || d))
    middle true b c d = refl
    middle false true true d = refl
    middle false true false d = refl
    middle false false c d = refl

pub entries_apart : (k : Link) (i : ℕ) (earlier xs : List Entry) (done es : List LEntry) → AllLift k earlier done → all_entries k i earlier xs ≡ Ok es →
    (list_any (λ z. list_any (numbers_clash z) done) es ≡ false) × (any_pair numbers_clash es ≡ false)
entries_apart k i earlier [] done es a w = subst (λ es. (list_any (λ z. list_any (numbers_clash z) done) es ≡ false) × (any_pair numbers_clash es ≡ false)) (same_ok [] es w) (refl, refl)
entries_apart k i earlier (x ∷ rest) done es a w =
    let q = first_known k i earlier x rest es w in
    let more = entries_apart k (i + 1) (x ∷ earlier) rest (q.first ∷ done) q.others (q.lifts, a) q.others_lift in
    let parts = or_parts (list_any (numbers_clash q.first) q.others) (list_any (λ z. list_any (numbers_clash z) done) q.others) (sym (swapped_any q.first done q.others) ∙ more.0) in
    let free : list_any (numbers_clash q.first) done ≡ false = sym (clashes_by_numbers k x q.first earlier done q.lifts a) ∙ q.free in
    subst (λ es. (list_any (λ z. list_any (numbers_clash z) done) es ≡ false) × (any_pair numbers_clash es ≡ false)) q.is
    (or_from (list_any (numbers_clash q.first) done) (list_any (λ z. list_any (numbers_clash z) done) q.others) free parts.1, or_from (list_any (numbers_clash q.first) q.others) (any_pair numbers_clash q.others) parts.0 more.1)
