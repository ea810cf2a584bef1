-- The link by names of entries that all lift is the link of their numbers.
use Rattle.std.proofs.Common.{◌≡◌, ℕ, ◌+◌, Bool, true, false, not, List, [], ◌∷◌, ◌++◌, Option, Some, None, Ok, refl, sym, ◌∙◌, ap}
use Rattle.std.specs.Prelude.{◌==◌, ◌&&◌, is_ok, if◌then◌else◌}
use Rattle.std.specs.List.{list_any, flat_map}
use Rattle.std.proofs.lemmas.Bool.{eqb-true, and_from, not_from_false}
use Rattle.c_tree.specs.declared.lifted.Lifted.{Lifted}
use Rattle.c_tree.specs.declared.mapping.Entry.{Entry}
use Rattle.c_tree.specs.declared.mapping.Entry.TheVariants as n
use Rattle.c_tree.specs.declared.mapping.LEntry.{LEntry}
use Rattle.c_tree.specs.Names.{find_name, names_in}
use Rattle.c_tree.specs.Link.{Link, Claim, claim_of, matches, link_of, start_alike, any_two}
use Rattle.c_tree.specs.Causes.{clash}
use Rattle.c_tree.specs.Entries.{can_match, side_number, claims_of, all_claims, link_by_names, all_entries, lifted_entries}
use Rattle.c_tree.specs.Chain.{new_number, lifted_match, lifted_entry}
use Rattle.patch_laws.proofs.LiftedForms.{there_known, same_ok, MatchForm, match_form, entry_form}
use Rattle.c_tree.proofs.CanMatch.{match_passes}
use Rattle.patch_laws.proofs.Known.{first_known}

-- what entries by numbers name in one kind
abbrev pub claims : ℕ → List LEntry → List Claim
claims kind entries = flat_map (claim_of kind) entries

-- a match that stands
abbrev pub claim : ℕ → Option ℕ → Claim
claim a b = record { old = Some a; new = b; stands = true }

pub side_known : (kind : ℕ) (new : Lifted) (b : Option (List ℕ)) (j : Option ℕ) → new_number kind new b ≡ Ok j → side_number kind new b ≡ j
side_known kind new None j e = same_ok None j e
side_known kind new (Some name) j e = let q = there_known _ _ _ j e in q.1 ∙ same_ok (Some q.0) j q.2

match_claim : (old new : Lifted) (kind i : ℕ) (a : List ℕ) (b : Option (List ℕ)) (earlier : List Entry) (y : LEntry) → lifted_match old new i a b ≡ Ok y →
    list_any (clash (n.Match i a b)) earlier ≡ false → claims_of old new kind earlier (n.Match i a b) ≡ claim_of kind y
match_claim old new kind i a b earlier y w free = pick (match_form old new i a b y w) where
  stands : ℕ → Bool
  stands z = can_match old new z a b && not (list_any (clash (n.Match i a b)) earlier)

  sure : stands i ≡ true
  sure = and_from (can_match old new i a b) (not (list_any (clash (n.Match i a b)) earlier)) (sym (match_passes old new i a b) ∙ ap (λ r. is_ok r) w) (not_from_false (list_any (clash (n.Match i a b)) earlier) free)

  said : (z : ℕ) → Claim
  said z = record { old = find_name a (names_in old z); new = side_number z new b; stands = stands z }

  one : (f : ℕ) (j : Option ℕ) → find_name a (names_in old i) ≡ Some f → side_number i new b ≡ j → (t : Bool) → (i == kind) ≡ t → (if t then said kind ∷ [] else []) ≡ (if t then claim f j ∷ [] else [])
  one f j p s false g = refl
  one f j p s true g =
      ap (λ z. said z ∷ []) (sym (eqb-true i kind g))
      ∙ (ap (λ o. record { old = o; new = side_number i new b; stands = stands i } ∷ []) p
      ∙ (ap (λ o. record { old = Some f; new = o; stands = stands i } ∷ []) s ∙ ap (λ t. record { old = Some f; new = j; stands = t } ∷ []) sure))

  pick : MatchForm old new i a b y → claims_of old new kind earlier (n.Match i a b) ≡ claim_of kind y
  pick q = one q.from q.to q.from_found (side_known i new b q.to q.to_found) (i == kind) refl ∙ ap (λ z. claim_of kind z) q.is

other_claim : (kind : ℕ) (z y : LEntry) → z ≡ y → claim_of kind z ≡ [] → [] ≡ claim_of kind y
other_claim kind z y e w = sym w ∙ ap (λ x. claim_of kind x) e

-- an entry that lifts and clashes with none before it names what its numbers name
pub one_claim : (k : Link) (kind : ℕ) (earlier : List Entry) (x : Entry) (y : LEntry) → lifted_entry k x ≡ Ok y → list_any (clash x) earlier ≡ false →
    claims_of k.old k.new kind earlier x ≡ claim_of kind y
one_claim k kind earlier (n.Match i a b) y w free = match_claim k.old k.new kind i a b earlier y w free
one_claim k kind earlier (n.Field owner name x) y w free = other_claim kind _ y (entry_form k (n.Field owner name x) y w).is refl
one_claim k kind earlier (n.Init name x) y w free = other_claim kind _ y (entry_form k (n.Init name x) y w).is refl
one_claim k kind earlier (n.Point f from parts) y w free = other_claim kind _ y (entry_form k (n.Point f from parts) y w).is refl
one_claim k kind earlier (n.Check x) y w free = other_claim kind _ y (entry_form k (n.Check x) y w).is refl

pub claims_lifted : (k : Link) (kind i : ℕ) (earlier xs : List Entry) (es : List LEntry) → all_entries k i earlier xs ≡ Ok es → all_claims k.old k.new kind earlier xs ≡ claims kind es
claims_lifted k kind i earlier [] es w = ap (λ z. claims kind z) (same_ok [] es w)
claims_lifted k kind i earlier (x ∷ rest) es w =
    let q = first_known k i earlier x rest es w in
    ap (λ z. z ++ all_claims k.old k.new kind (x ∷ earlier) rest) (one_claim k kind earlier x q.first q.lifts q.free)
    ∙ (ap (λ z. claim_of kind q.first ++ z) (claims_lifted k kind (i + 1) (x ∷ earlier) rest q.others q.others_lift) ∙ ap (λ z. claims kind z) q.is)

-- a link of claims, kind by kind
abbrev pub built : Lifted → Lifted → List Claim → List Claim → List Claim → List Claim → Link
built old new a b c d = record {
  old = old;
  new = new;
  functions = matches a (names_in old 0) (names_in new 0) (start_alike old new);
  structs = matches b (names_in old 1) (names_in new 1) any_two;
  globals = matches c (names_in old 2) (names_in new 2) any_two;
  mutexes = matches d (names_in old 3) (names_in new 3) any_two;
}

-- entries that all lift make one link by their names and by their numbers
pub link_lifted : (old new : Lifted) (xs : List Entry) (es : List LEntry) → lifted_entries old new xs ≡ Ok es → link_by_names old new xs ≡ link_of old new es
link_lifted old new xs es w =
    ap (λ z. built old new z (by 1) (by 2) (by 3)) (same 0)
    ∙ (ap (λ z. built old new (claims 0 es) z (by 2) (by 3)) (same 1)
    ∙ (ap (λ z. built old new (claims 0 es) (claims 1 es) z (by 3)) (same 2) ∙ ap (λ z. built old new (claims 0 es) (claims 1 es) (claims 2 es) z) (same 3)))
  where
    by : ℕ → List Claim
    by kind = all_claims old new kind [] xs

    same : (kind : ℕ) → by kind ≡ claims kind es
    same kind = claims_lifted (link_by_names old new xs) kind 1 [] xs es w
