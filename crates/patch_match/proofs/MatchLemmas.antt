-- The matches of one kind are what the sides tell.
use Rattle.std.proofs.Common.{◌≡◌, ℕ, suc, ◌+◌, ◌<◌, ◌≤◌, Bool, true, false, List, [], ◌∷◌, length, Option, Some, None, refl, ◌∙◌, ap, arith}
use Rattle.std.specs.Prelude.{◌&&◌, ◌||◌, not, map, if◌then◌else◌, find}
use Rattle.std.specs.List.{list_any, enumerate_from}
use Rattle.c_tree.specs.declared.lifted.Lifted.{Lifted}
use Rattle.c_tree.specs.Names.{is_number, find_name, names_in}
use Rattle.c_tree.specs.Link.{Claim, new_side, unclaimed, match_of}
use Rattle.patch_match.specs.declared.sides.Sides.{Sides}
use Rattle.patch_match.specs.Sides.{Tells, said_by, said_in}
use Rattle.patch_match.specs.Matching.{TellsIn, may, free, match_from, match_beside, matched, matches_in}
use Rattle.patch_match.proofs.AnyLemmas.{found_any, found_within}

-- the match by equal names
free_is : (s : Sides) (claims : List Claim) (n m : ℕ) (test : ℕ → Bool) (o : Option ℕ) → Tells s claims n m → ((j : ℕ) → o ≡ Some j → j < m) →
    free s.named.items test o ≡ unclaimed claims test o
free_is s claims n m test None h lt = refl
free_is s claims n m test (Some j) h lt = ap (λ b. if b || not (test j) then None else Some j) (h.named j (lt j refl))

-- what is said is the match
said_is : (claims : List Claim) (i : ℕ) (other : Option ℕ) →
    match_from (said_in claims i) other ≡ (if list_any (λ c. is_number c.old i) claims then new_side (find (λ c. is_number c.old i && c.stands) claims) else other)
said_is claims i other = pick (list_any (λ c. is_number c.old i) claims) (find (λ c. is_number c.old i && c.stands) claims) refl refl where
  pick : (b : Bool) (o : Option Claim) → b ≡ list_any (λ c. is_number c.old i) claims → find (λ c. is_number c.old i && c.stands) claims ≡ o →
      match_from (said_by b o) other ≡ (if b then new_side o else other)
  pick true None e f = refl
  pick false None e f = refl
  pick true (Some x) e f = refl
  pick false (Some x) e f = absurd (let g : list_any (λ c. is_number c.old i) claims ≡ true = found_any (λ c. is_number c.old i) (λ c. c.stands) claims x f in let no : ⊥ = cc in no)

match_is : (old new : Lifted) (kind : ℕ) (s : Sides) (claims : List Claim) (i : ℕ) (name : List ℕ) → TellsIn s kind old new claims → i < length (names_in old kind) →
    match_beside s kind old new i name ≡ match_of claims (names_in new kind) (may kind old new i) i name
match_is old new kind s claims i name h lt =
    ap (λ x. match_from x (free s.named.items (may kind old new i) (find_name name (names_in new kind)))) (h.said i lt)
    ∙ (said_is claims i (free s.named.items (may kind old new i) (find_name name (names_in new kind)))
    ∙ ap (λ o. if list_any (λ c. is_number c.old i) claims then new_side (find (λ c. is_number c.old i && c.stands) claims) else o)
    (free_is s claims (length (names_in old kind)) (length (names_in new kind)) (may kind old new i) (find_name name (names_in new kind)) h
    (λ j e. found_within name (names_in new kind) j e)))

all_matches : (old new : Lifted) (kind : ℕ) (s : Sides) (claims : List Claim) (i : ℕ) (names : List (List ℕ)) → TellsIn s kind old new claims → i + length names ≤ length (names_in old kind) →
    matched s kind old new i names ≡ map (λ x. match_of claims (names_in new kind) (may kind old new x.0) x.0 x.1) (enumerate_from i names)
all_matches old new kind s claims i [] h le = refl
all_matches old new kind s claims i (name ∷ rest) h le =
    let le' : i + suc (length rest) ≤ length (names_in old kind) = le in
    let lt : i < length (names_in old kind) = omega arith in
    let further : i + 1 + length rest ≤ length (names_in old kind) = omega arith in
    ap (λ o. o ∷ matched s kind old new (i + 1) rest) (match_is old new kind s claims i name h lt)
    ∙ ap (λ os. match_of claims (names_in new kind) (may kind old new i) i name ∷ os) (all_matches old new kind s claims (i + 1) rest h further)

-- all matches of a kind
pub matched_is : (old new : Lifted) (kind : ℕ) (s : Sides) (claims : List Claim) → TellsIn s kind old new claims → matched s kind old new 0 (names_in old kind) ≡ matches_in kind old new claims
matched_is old new kind s claims h =
    let le : 0 + length (names_in old kind) ≤ length (names_in old kind) = omega arith in
    all_matches old new kind s claims 0 (names_in old kind) h le
