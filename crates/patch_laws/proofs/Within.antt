-- The matches that the entries of a mapping make lie inside the new program.
use Rattle.std.proofs.Common.{◌≡◌, ℕ, zero, suc, Bool, true, false, not, List, [], ◌∷◌, ◌++◌, Option, Some, None, refl, sym, ◌∙◌, ap, length}
use Rattle.std.specs.Prelude.{map, find, ◌==◌, ◌&&◌, ◌||◌, cond, nat_lt, if◌then◌else◌}
use Rattle.std.specs.List.{list_any, list_all, enumerate_from}
use Rattle.std.proofs.lemmas.Option.{none-some}
use Rattle.std.proofs.lemmas.Bool.{and_parts, and_from}
use Rattle.std.proofs.lemmas.List.{length-map}
use Rattle.std.proofs.lemmas.List.Folds.{list_all-append}
use Rattle.c_tree.specs.declared.lifted.Lifted.{Lifted}
use Rattle.c_tree.specs.declared.mapping.Entry.{Entry}
use Rattle.c_tree.specs.declared.mapping.Entry.TheVariants as n
use Rattle.c_tree.specs.Names.{is_number, find_name, names_in}
use Rattle.c_tree.specs.Link.{Link, Claim, new_side, unclaimed, match_of, matches, start_alike, match_at}
use Rattle.c_tree.specs.Causes.{clash}
use Rattle.c_tree.specs.Entries.{can_match, side_number, claims_of, all_claims, link_by_names}
use Rattle.c_tree.specs.Sound.{below}
use Rattle.patch_laws.proofs.Numbers.{number_within}

-- the match of each function is there
abbrev pub MatchesWithin : Link → Type 0
MatchesWithin k = (f g : ℕ) → match_at k.functions f ≡ Some g → nat_lt g (length k.new.functions) ≡ true

-- what claims name is there
abbrev claims_below : ℕ → List Claim → Bool
claims_below m cs = list_all (λ c. below c.new m) cs

name_below : (names : List (List ℕ)) (name : List ℕ) → below (find_name name names) (length names) ≡ true
name_below names name = pick (find_name name names) refl where
  pick : (o : Option ℕ) → find_name name names ≡ o → below o (length names) ≡ true
  pick None e = refl
  pick (Some j) e = number_within names name j e

side_below : (new : Lifted) (kind : ℕ) (b : Option (List ℕ)) → below (side_number kind new b) (length (names_in new kind)) ≡ true
side_below new kind None = refl
side_below new kind (Some name) = name_below (names_in new kind) name

one_below : (old new : Lifted) (kind : ℕ) (earlier : List Entry) (x : Entry) → claims_below (length (names_in new kind)) (claims_of old new kind earlier x) ≡ true
one_below old new kind earlier (n.Match i a b) = pick (i == kind) where
  said : Claim
  said = record {
    old = find_name a (names_in old kind);
    new = side_number kind new b;
    stands = can_match old new kind a b && not (list_any (clash (n.Match i a b)) earlier);
  }

  pick : (t : Bool) → claims_below (length (names_in new kind)) (if t then said ∷ [] else []) ≡ true
  pick true = and_from (below said.new (length (names_in new kind))) true (side_below new kind b) refl
  pick false = refl
one_below old new kind earlier (n.Field owner name x) = refl
one_below old new kind earlier (n.Init name x) = refl
one_below old new kind earlier (n.Point f from parts) = refl
one_below old new kind earlier (n.Check x) = refl

both_below : (m : ℕ) (cs ds : List Claim) → claims_below m cs ≡ true → claims_below m ds ≡ true → claims_below m (cs ++ ds) ≡ true
both_below m cs ds p q = list_all-append (λ c. below c.new m) cs ds ∙ and_from (claims_below m cs) (claims_below m ds) p q

all_below : (old new : Lifted) (kind : ℕ) (earlier xs : List Entry) → claims_below (length (names_in new kind)) (all_claims old new kind earlier xs) ≡ true
all_below old new kind earlier [] = refl
all_below old new kind earlier (x ∷ rest) =
    both_below (length (names_in new kind)) (claims_of old new kind earlier x) (all_claims old new kind (x ∷ earlier) rest) (one_below old new kind earlier x) (all_below old new kind (x ∷ earlier) rest)

-- so are the matches that they make
found_below : (m : ℕ) (p : Claim → Bool) (cs : List Claim) → claims_below m cs ≡ true → below (new_side (find p cs)) m ≡ true
found_below m p [] e = refl
found_below m p (c ∷ cs) e =
    let s = and_parts (below c.new m) (claims_below m cs) e in
    pick (p c) s.0 (found_below m p cs s.1)
  where
    pick : (t : Bool) → below c.new m ≡ true → below (new_side (find p cs)) m ≡ true → below (new_side (cond t (Some c) (find p cs))) m ≡ true
    pick true first rest = first
    pick false first rest = rest

open_below : (m : ℕ) (cs : List Claim) (may : ℕ → Bool) (o : Option ℕ) → below o m ≡ true → below (unclaimed cs may o) m ≡ true
open_below m cs may None e = refl
open_below m cs may (Some j) e = pick (list_any (λ c. is_number c.new j) cs || not (may j)) where
  pick : (t : Bool) → below (if t then None else Some j) m ≡ true
  pick true = refl
  pick false = e

match_below : (cs : List Claim) (new : List (List ℕ)) (may : ℕ → Bool) (i : ℕ) (name : List ℕ) → claims_below (length new) cs ≡ true → below (match_of cs new may i name) (length new) ≡ true
match_below cs new may i name e = pick (list_any (λ c. is_number c.old i) cs) where
  pick : (t : Bool) → below (if t then new_side (find (λ c. is_number c.old i && c.stands) cs) else unclaimed cs may (find_name name new)) (length new) ≡ true
  pick true = found_below (length new) (λ c. is_number c.old i && c.stands) cs e
  pick false = open_below (length new) cs may (find_name name new) (name_below new name)

each_below : {A : Type 0} (m : ℕ) (f : A → Option ℕ) → ((x : A) → below (f x) m ≡ true) → (xs : List A) → list_all (λ o. below o m) (map f xs) ≡ true
each_below m f sure [] = refl
each_below m f sure (x ∷ xs) = and_from (below (f x) m) (list_all (λ o. below o m) (map f xs)) (sure x) (each_below m f sure xs)

at_below : (m : ℕ) (found : List (Option ℕ)) (i g : ℕ) → list_all (λ o. below o m) found ≡ true → match_at found i ≡ Some g → nat_lt g m ≡ true
at_below m [] zero g e w = absurd (none-some g w)
at_below m [] (suc i) g e w = absurd (none-some g w)
at_below m (o ∷ found) zero g e w = ap (λ z. below z m) (sym w) ∙ (and_parts (below o m) (list_all (λ o. below o m) found) e).0
at_below m (o ∷ found) (suc i) g e w = at_below m found i g (and_parts (below o m) (list_all (λ o. below o m) found) e).1 w

pub matches_within : (old new : Lifted) (xs : List Entry) → MatchesWithin (link_by_names old new xs)
matches_within old new xs f g e =
    ap (λ z. nat_lt g z) (sym (length-map new.functions (λ x. x.name)))
    ∙ at_below (length (names_in new 0)) (matches claims (names_in old 0) (names_in new 0) (start_alike old new)) f g
    (each_below (length (names_in new 0)) (λ x. match_of claims (names_in new 0) (start_alike old new x.0) x.0 x.1)
    (λ x. match_below claims (names_in new 0) (start_alike old new x.0) x.0 x.1 (all_below old new 0 [] xs)) (enumerate_from 0 (names_in old 0))) e
  where
    claims : List Claim
    claims = all_claims old new 0 [] xs
