-- Entries in canonical order make the link that they make in any order.
use Rattle.std.proofs.Common.{◌≡◌, ℕ, Bool, true, false, not, List, [], ◌∷◌, ◌++◌, Option, Some, None, refl, sym, ◌∙◌, ap}
use Rattle.std.specs.Prelude.{map, find, ◌==◌, ◌&&◌, ◌||◌, cond, if◌then◌else◌}
use Rattle.std.specs.Option.{option_or}
use Rattle.std.specs.List.{list_any, flat_map, enumerate_from}
use Rattle.std.proofs.lemmas.Option.{none-some}
use Rattle.std.proofs.lemmas.Bool.{and_parts, and_from, or_left, eqb-true, eq-eqb}
use Rattle.std.proofs.lemmas.List.Folds.{list_any-append}
use Rattle.c_tree.specs.declared.lifted.Lifted.{Lifted}
use Rattle.c_tree.specs.declared.mapping.LEntry.{LEntry}
use Rattle.c_tree.specs.declared.mapping.LEntry.TheVariants as l
use Rattle.c_tree.specs.Refusal.{first_some}
use Rattle.c_tree.specs.Names.{is_number, find_name, names_in, same_number}
use Rattle.c_tree.specs.Link.{Link, Claim, claim_of, new_side, unclaimed, match_of, matches, link_of, start_alike, any_two}
use Rattle.c_tree.specs.Sound.{numbers_clash}
use Rattle.c_tree.specs.Canonical.{with_fills_in_order, canonical}
use Rattle.patch_laws.proofs.Sorting.{any_pair, sorted_any, sorted_first, sorted_pairs, first_or}
use Rattle.patch_laws.proofs.Kept.{entry_before}
use Rattle.patch_laws.proofs.Clash.{clash_swapped}
use Rattle.patch_laws.proofs.LiftedLink.{claims, claim}

-- an entry with its slots in order names what it named
pub claim_kept : (kind : ℕ) (x : LEntry) → claim_of kind (with_fills_in_order x) ≡ claim_of kind x
claim_kept kind (l.Match i a b) = refl
claim_kept kind (l.Field s i x) = refl
claim_kept kind (l.Init g x) = refl
claim_kept kind (l.Point f p parts) = refl
claim_kept kind (l.Check x) = refl

-- and clashes with what it clashed with
first_clash : (x y : LEntry) → numbers_clash (with_fills_in_order x) y ≡ numbers_clash x y
first_clash (l.Match i a b) y = refl
first_clash (l.Field s i x) y = refl
first_clash (l.Init g x) y = refl
first_clash (l.Check x) y = refl
first_clash (l.Point f p parts) (l.Match i a b) = refl
first_clash (l.Point f p parts) (l.Field s i x) = refl
first_clash (l.Point f p parts) (l.Init g x) = refl
first_clash (l.Point f p parts) (l.Point g r others) = refl
first_clash (l.Point f p parts) (l.Check x) = refl

pub clash_kept : (x y : LEntry) → numbers_clash (with_fills_in_order x) (with_fills_in_order y) ≡ numbers_clash x y
clash_kept x y =
    first_clash x (with_fills_in_order y)
    ∙ (clash_swapped x (with_fills_in_order y) ∙ (first_clash y x ∙ clash_swapped y x))

any_clash_kept : (x : LEntry) (ys : List LEntry) → list_any (numbers_clash (with_fills_in_order x)) (map with_fills_in_order ys) ≡ list_any (numbers_clash x) ys
any_clash_kept x [] = refl
any_clash_kept x (y ∷ ys) = ap (λ z. z || list_any (numbers_clash (with_fills_in_order x)) (map with_fills_in_order ys)) (clash_kept x y) ∙ ap (λ z. numbers_clash x y || z) (any_clash_kept x ys)

pairs_kept : (xs : List LEntry) → any_pair numbers_clash (map with_fills_in_order xs) ≡ any_pair numbers_clash xs
pairs_kept [] = refl
pairs_kept (x ∷ rest) =
    ap (λ z. z || any_pair numbers_clash (map with_fills_in_order rest)) (any_clash_kept x rest) ∙ ap (λ z. list_any (numbers_clash x) rest || z) (pairs_kept rest)

-- as many clashes in canonical order
pub canonical_pairs : (es : List LEntry) → any_pair numbers_clash (canonical es) ≡ any_pair numbers_clash es
canonical_pairs es = sorted_pairs entry_before numbers_clash clash_swapped (map with_fills_in_order es) ∙ pairs_kept es

-- a claim that passes
any_flat : {A B : Type 0} (p : B → Bool) (f : A → List B) (xs : List A) → list_any p (flat_map f xs) ≡ list_any (λ x. list_any p (f x)) xs
any_flat p f [] = refl
any_flat p f (x ∷ rest) = list_any-append p (f x) (flat_map f rest) ∙ ap (λ z. list_any p (f x) || z) (any_flat p f rest)

any_kept : (kind : ℕ) (p : Claim → Bool) (es : List LEntry) → list_any (λ x. list_any p (claim_of kind x)) (map with_fills_in_order es) ≡ list_any (λ x. list_any p (claim_of kind x)) es
any_kept kind p [] = refl
any_kept kind p (x ∷ rest) =
    ap (λ z. list_any p z || list_any (λ x. list_any p (claim_of kind x)) (map with_fills_in_order rest)) (claim_kept kind x)
    ∙ ap (λ z. list_any p (claim_of kind x) || z) (any_kept kind p rest)

pub any_claim : (kind : ℕ) (p : Claim → Bool) (es : List LEntry) → list_any p (claims kind (canonical es)) ≡ list_any p (claims kind es)
any_claim kind p es =
    any_flat p (claim_of kind) (canonical es)
    ∙ (sorted_any entry_before (λ x. list_any p (claim_of kind x)) (map with_fills_in_order es) ∙ (any_kept kind p es ∙ sym (any_flat p (claim_of kind) es)))

-- the claim that is found
find_append : {A : Type 0} (p : A → Bool) (xs ys : List A) → find p (xs ++ ys) ≡ option_or (find p xs) (find p ys)
find_append p [] ys = refl
find_append p (x ∷ xs) ys = elim (p x) as (λ t. cond t (Some x) (find p (xs ++ ys)) ≡ option_or (cond t (Some x) (find p xs)) (find p ys)) [
  | true ↦ refl
  | false ↦ find_append p xs ys
]

find_flat : {A B : Type 0} (p : B → Bool) (f : A → List B) (xs : List A) → find p (flat_map f xs) ≡ first_some (map (λ x. find p (f x)) xs)
find_flat p f [] = refl
find_flat p f (x ∷ rest) =
    find_append p (f x) (flat_map f rest)
    ∙ (ap (λ z. option_or (find p (f x)) z) (find_flat p f rest) ∙ sym (first_or (find p (f x)) (map (λ x. find p (f x)) rest)))

find_kept : (kind : ℕ) (p : Claim → Bool) (es : List LEntry) → map (λ x. find p (claim_of kind x)) (map with_fills_in_order es) ≡ map (λ x. find p (claim_of kind x)) es
find_kept kind p [] = refl
find_kept kind p (x ∷ rest) =
    ap (λ z. find p z ∷ map (λ x. find p (claim_of kind x)) (map with_fills_in_order rest)) (claim_kept kind x)
    ∙ ap (λ z. find p (claim_of kind x) ∷ z) (find_kept kind p rest)

-- a claim on an old one is that of a match
match_known : (kind i : ℕ) (x : LEntry) (c : Claim) → find (λ c. is_number c.old i && c.stands) (claim_of kind x) ≡ Some c → (side : Option ℕ) × (x ≡ l.Match kind i side)
match_known kind i (l.Match j a b) c e = pick (j == kind) refl e where
  here : (t : Bool) → (is_number (Some a) i && true) ≡ t → (j == kind) ≡ true → cond t (Some (claim a b)) None ≡ Some c → (side : Option ℕ) × (l.Match j a b ≡ l.Match kind i side)
  here false f g e = absurd (none-some c e)
  here true f g e = (b, ap (λ z. l.Match z a b) (eqb-true j kind g) ∙ ap (λ z. l.Match kind z b) (eqb-true a i (and_parts (a == i) true f).0))

  pick : (t : Bool) → (j == kind) ≡ t → find (λ c. is_number c.old i && c.stands) (if t then claim a b ∷ [] else []) ≡ Some c → (side : Option ℕ) × (l.Match j a b ≡ l.Match kind i side)
  pick false g e = absurd (none-some c e)
  pick true g e = here (is_number (Some a) i && true) refl g e
match_known kind i (l.Field s j x) c e = absurd (none-some c e)
match_known kind i (l.Init g x) c e = absurd (none-some c e)
match_known kind i (l.Point f p parts) c e = absurd (none-some c e)
match_known kind i (l.Check x) c e = absurd (none-some c e)

matches_clash : (kind i : ℕ) (x y : LEntry) (c d : Claim) → find (λ c. is_number c.old i && c.stands) (claim_of kind x) ≡ Some c → find (λ c. is_number c.old i && c.stands) (claim_of kind y) ≡ Some d →
    numbers_clash x y ≡ true
matches_clash kind i x y c d e f =
    let p = match_known kind i x c e in
    let q = match_known kind i y d f in
    ap (λ z. numbers_clash z y) p.1
    ∙ (ap (λ z. numbers_clash (l.Match kind i p.0) z) q.1
    ∙ and_from (kind == kind) (i == i || same_number p.0 q.0) (eq-eqb kind kind refl) (or_left (i == i) (same_number p.0 q.0) (eq-eqb i i refl)))

pub find_claim : (kind i : ℕ) (es : List LEntry) → any_pair numbers_clash es ≡ false →
    find (λ c. is_number c.old i && c.stands) (claims kind (canonical es)) ≡ find (λ c. is_number c.old i && c.stands) (claims kind es)
find_claim kind i es free =
    let p : Claim → Bool = λ c. is_number c.old i && c.stands in
    find_flat p (claim_of kind) (canonical es)
    ∙ (sorted_first entry_before numbers_clash (λ x. find p (claim_of kind x)) (matches_clash kind i) (map with_fills_in_order es) (pairs_kept es ∙ free)
    ∙ (ap (λ z. first_some z) (find_kept kind p es) ∙ sym (find_flat p (claim_of kind) es)))

-- the match of each old one
same_match : (kind : ℕ) (es : List LEntry) (new : List (List ℕ)) (may : ℕ → Bool) (i : ℕ) (name : List ℕ) → any_pair numbers_clash es ≡ false →
    match_of (claims kind (canonical es)) new may i name ≡ match_of (claims kind es) new may i name
same_match kind es new may i name free =
    let cs = claims kind (canonical es) in
    let ds = claims kind es in
    ap (λ t. if t then new_side (find (λ c. is_number c.old i && c.stands) cs) else unclaimed cs may (find_name name new)) (any_claim kind (λ c. is_number c.old i) es)
    ∙ (ap (λ z. if list_any (λ c. is_number c.old i) ds then new_side z else unclaimed cs may (find_name name new)) (find_claim kind i es free)
    ∙ ap (λ z. if list_any (λ c. is_number c.old i) ds then new_side (find (λ c. is_number c.old i && c.stands) ds) else z) (open_side (find_name name new)))
  where
    open_side : (o : Option ℕ) → unclaimed (claims kind (canonical es)) may o ≡ unclaimed (claims kind es) may o
    open_side None = refl
    open_side (Some j) = ap (λ t. if t || not (may j) then None else Some j) (any_claim kind (λ c. is_number c.new j) es)

map_same : {A B : Type 0} (f g : A → B) → ((x : A) → f x ≡ g x) → (xs : List A) → map f xs ≡ map g xs
map_same f g same [] = refl
map_same f g same (x ∷ rest) = ap (λ z. z ∷ map f rest) (same x) ∙ ap (λ z. g x ∷ z) (map_same f g same rest)

same_matches : (kind : ℕ) (es : List LEntry) (old new : List (List ℕ)) (may : ℕ → ℕ → Bool) → any_pair numbers_clash es ≡ false →
    matches (claims kind (canonical es)) old new may ≡ matches (claims kind es) old new may
same_matches kind es old new may free =
    map_same (λ x. match_of (claims kind (canonical es)) new (may x.0) x.0 x.1) (λ x. match_of (claims kind es) new (may x.0) x.0 x.1)
    (λ x. same_match kind es new (may x.0) x.0 x.1 free) (enumerate_from 0 old)

-- a link of matches, kind by kind
abbrev filled : Lifted → Lifted → List (Option ℕ) → List (Option ℕ) → List (Option ℕ) → List (Option ℕ) → Link
filled old new a b c d = record { old = old; new = new; functions = a; structs = b; globals = c; mutexes = d }

-- entries that do not clash make one link in any order
pub link_ordered : (old new : Lifted) (es : List LEntry) → any_pair numbers_clash es ≡ false → link_of old new (canonical es) ≡ link_of old new es
link_ordered old new es free =
    let k : Link = link_of old new (canonical es) in
    let m : Link = link_of old new es in
    ap (λ z. filled old new z k.structs k.globals k.mutexes) (same_matches 0 es (names_in old 0) (names_in new 0) (start_alike old new) free)
    ∙ (ap (λ z. filled old new m.functions z k.globals k.mutexes) (same_matches 1 es (names_in old 1) (names_in new 1) any_two free)
    ∙ (ap (λ z. filled old new m.functions m.structs z k.mutexes) (same_matches 2 es (names_in old 2) (names_in new 2) any_two free)
    ∙ ap (λ z. filled old new m.functions m.structs m.globals z) (same_matches 3 es (names_in old 3) (names_in new 3) any_two free)))
