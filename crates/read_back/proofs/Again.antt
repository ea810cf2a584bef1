-- Entries that lift and do not clash lift as a whole mapping.
use Rattle.std.proofs.Common.{◌≡◌, ℕ, ◌+◌, Bool, false, List, [], ◌∷◌, Ok, refl, sym, ◌∙◌, ap}
use Rattle.std.specs.Prelude.{◌||◌}
use Rattle.std.specs.List.{list_any}
use Rattle.std.proofs.lemmas.Bool.{or_parts, or_from}
use Rattle.c_tree.specs.declared.cause.EntryCause.TheVariants as c
use Rattle.c_tree.specs.declared.lifted.Lifted.{Lifted}
use Rattle.c_tree.specs.declared.mapping.Entry.{Entry}
use Rattle.c_tree.specs.declared.mapping.LEntry.{LEntry}
use Rattle.c_tree.specs.Link.{Link, Claim, link_of}
use Rattle.c_tree.specs.Refusal.{onward, refuse_if}
use Rattle.c_tree.specs.Sound.{numbers_clash}
use Rattle.c_tree.specs.Canonical.{canonical, canonical_entries}
use Rattle.c_tree.specs.Causes.{clash}
use Rattle.c_tree.specs.Entries.{with_number, all_claims, all_entries, link_by_names, lifted_entries}
use Rattle.patch_laws.proofs.AskedInOrder.{asked_in_order}
use Rattle.patch_laws.proofs.Sorting.{any_pair}
use Rattle.patch_laws.proofs.Clash.{AllLift, clashes_by_numbers, clash_swapped}
use Rattle.patch_laws.proofs.Kept.{canonical_kept}
use Rattle.patch_laws.proofs.LiftedLink.{claims, built, claims_lifted}
use Rattle.patch_laws.proofs.LiftedSound.{lifted_apart}
use Rattle.patch_laws.proofs.OrderedLink.{canonical_pairs}

-- no entry of the first list clashes with one of the second
abbrev apart : List LEntry → List LEntry → Bool
apart done es = list_any (λ z. list_any (numbers_clash z) done) es

-- one more that is done
grown : (y : LEntry) (done es : List LEntry) → list_any (numbers_clash y) es ≡ false → apart done es ≡ false → apart (y ∷ done) es ≡ false
grown y done [] a b = refl
grown y done (z ∷ es) a b =
    let p = or_parts (numbers_clash y z) (list_any (numbers_clash y) es) a in
    let q = or_parts (list_any (numbers_clash z) done) (apart done es) b in
    or_from (numbers_clash z y || list_any (numbers_clash z) done) (apart (y ∷ done) es) (or_from (numbers_clash z y) (list_any (numbers_clash z) done) (clash_swapped z y ∙ p.0) q.0) (grown y done es p.1 q.1)

pub entries_again : (k : Link) (i : ℕ) (earlier xs : List Entry) (done es : List LEntry) → AllLift k earlier done → AllLift k xs es → apart done es ≡ false → any_pair numbers_clash es ≡ false
    → all_entries k i earlier xs ≡ Ok es
entries_again k i earlier [] done [] a b free pairs = refl
entries_again k i earlier [] done (y ∷ es) a b free pairs = absurd b
entries_again k i earlier (x ∷ xs) done [] a b free pairs = absurd b
entries_again k i earlier (x ∷ xs) done (y ∷ es) a b free pairs =
    let p = or_parts (list_any (numbers_clash y) done) (apart done es) free in
    let q = or_parts (list_any (numbers_clash y) es) (any_pair numbers_clash es) pairs in
    let more : all_entries k (i + 1) (x ∷ earlier) xs ≡ Ok es = entries_again k (i + 1) (x ∷ earlier) xs (y ∷ done) es (b.0, a) b.1 (grown y done es q.0 p.1) q.1 in
    ap (λ r. onward (with_number i r) (λ z. onward (all_entries k (i + 1) (x ∷ earlier) xs) (λ zs. Ok (z ∷ zs)))) (sym (asked_in_order k earlier x))
    ∙ ap (λ o. onward (with_number i (onward o (λ z. refuse_if (list_any (clash x) earlier) c.Twice (Ok z)))) (λ z. onward (all_entries k (i + 1) (x ∷ earlier) xs) (λ zs. Ok (z ∷ zs)))) b.0
    ∙ ap (λ t. onward (with_number i (refuse_if t c.Twice (Ok y))) (λ z. onward (all_entries k (i + 1) (x ∷ earlier) xs) (λ zs. Ok (z ∷ zs)))) (clashes_by_numbers k x y earlier done b.0 a ∙ p.0)
    ∙ ap (λ o. onward o (λ zs. Ok (y ∷ zs))) more

-- entries that lift by the link of their numbers make that link by their names
pub link_again : (old new : Lifted) (xs : List Entry) (es : List LEntry) → AllLift (link_of old new es) xs es → any_pair numbers_clash es ≡ false → link_by_names old new xs ≡ link_of old new es
link_again old new xs es lift pairs =
    ap (λ z. built old new z (by 1) (by 2) (by 3)) (same 0)
    ∙ (ap (λ z. built old new (claims 0 es) z (by 2) (by 3)) (same 1)
    ∙ (ap (λ z. built old new (claims 0 es) (claims 1 es) z (by 3)) (same 2) ∙ ap (λ z. built old new (claims 0 es) (claims 1 es) (claims 2 es) z) (same 3)))
  where
    by : ℕ → List Claim
    by kind = all_claims old new kind [] xs

    none : (es : List LEntry) → apart [] es ≡ false
    none [] = refl
    none (y ∷ es) = none es

    same : (kind : ℕ) → by kind ≡ claims kind es
    same kind = claims_lifted (link_of old new es) kind 1 [] xs es (entries_again (link_of old new es) 1 [] xs [] es tt lift (none es) pairs)

none_before : (es : List LEntry) → apart [] es ≡ false
none_before [] = refl
none_before (y ∷ es) = none_before es

-- What lifts to the canonical entries of a mapping, entry by entry, has these canonical entries.
pub canonical_again : (old new : Lifted) (xs ys : List Entry) (ds : List LEntry) → lifted_entries old new xs ≡ Ok ds → AllLift (link_of old new (canonical ds)) ys (canonical ds)
    → canonical_entries old new ys ≡ Ok (canonical ds)
canonical_again old new xs ys ds w lift =
    let es = canonical ds in
    let pairs : any_pair numbers_clash es ≡ false = canonical_pairs ds ∙ lifted_apart old new xs ds w in
    let k = link_of old new es in
    let whole : lifted_entries old new ys ≡ Ok es =
    ap (λ z. all_entries z 1 [] ys) (link_again old new ys es lift pairs) ∙ entries_again k 1 [] ys [] es tt lift (none_before es) pairs in
    ap (λ o. onward o (λ zs. Ok (canonical zs))) whole ∙ ap (λ zs. Ok zs) (canonical_kept ds)
