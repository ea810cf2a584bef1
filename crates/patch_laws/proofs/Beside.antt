-- Lists of which each item is there, and lists whose items belong together one by one.
use Rattle.std.proofs.Common.{◌≡◌, Bool, true, false, not, List, [], ◌∷◌, Option, Some, None, refl, ◌∙◌, ap, subst}
use Rattle.std.specs.Prelude.{map, ◌&&◌, ◌||◌, is_some}
use Rattle.std.specs.Option.{option_map}
use Rattle.std.specs.List.{list_any, zip, AllZip}
use Rattle.std.proofs.lemmas.Option.{none-some, same_Some}
use Rattle.std.proofs.lemmas.Bool.{or_parts}
use Rattle.c_tree.specs.Suits.{some_neighbours, last_is}
use Rattle.c_tree.specs.Entries.{both, all_there}

-- what a change gives is there where what is changed is
pub mapped_some : {A B : Type 0} (f : A → B) (o : Option A) → is_some o ≡ is_some (option_map f o)
mapped_some f None = refl
mapped_some f (Some x) = refl

pub mapped_known : {A B : Type 0} (f : A → B) (o : Option A) (y : B) → option_map f o ≡ Some y → (x : A) × (o ≡ Some x) × (f x ≡ y)
mapped_known f None y e = absurd (none-some y e)
mapped_known f (Some x) y e = (x, refl, same_Some (f x) y e)

-- all of a list are there where its first and its others are
pub both_known : {A : Type 0} (o : Option A) (r : Option (List A)) (xs : List A) → both o r ≡ Some xs → (x : A) × (y : List A) × (o ≡ Some x) × (r ≡ Some y) × (x ∷ y ≡ xs)
both_known None r xs e = absurd (none-some xs e)
both_known (Some x) None xs e = absurd (none-some xs e)
both_known (Some x) (Some y) xs e = (x, y, refl, refl, same_Some (x ∷ y) xs e)

pub not_both : (a b : Bool) → (not a || not b) ≡ not (a && b)
not_both true b = refl
not_both false b = refl

some_both : {A : Type 0} (o : Option A) (r : Option (List A)) → (is_some o && is_some r) ≡ is_some (both o r)
some_both None r = refl
some_both (Some x) None = refl
some_both (Some x) (Some xs) = refl

one_less : {A : Type 0} (o : Option A) (r : Option (List A)) (b t : Bool) → b ≡ not (is_some o) → t ≡ not (is_some r) → (b || t) ≡ not (is_some (both o r))
one_less o r b t e f = ap (λ z. z || t) e ∙ (ap (λ z. not (is_some o) || z) f ∙ (not_both (is_some o) (is_some r) ∙ ap not (some_both o r)))

-- some item is missing exactly where not all are there
pub one_missing : {A B : Type 0} (test : A → Bool) (go : A → Option B) → ((x : A) → test x ≡ not (is_some (go x))) → (xs : List A) →
    list_any test xs ≡ not (is_some (all_there (map go xs)))
one_missing test go same [] = refl
one_missing test go same (x ∷ rest) = one_less (go x) (all_there (map go rest)) (test x) (list_any test rest) (same x) (one_missing test go same rest)

pub zip_missing : {A B C : Type 0} (R : A → B → Type 0) (test : A → Bool) (go : B × A → Option C) → ((x : A) (y : B) → R x y → test x ≡ not (is_some (go (y, x)))) →
    (xs : List A) (ys : List B) → AllZip R xs ys → list_any test xs ≡ not (is_some (all_there (map go (zip ys xs))))
zip_missing R test go same [] [] r = refl
zip_missing R test go same [] (y ∷ ys) r = absurd r
zip_missing R test go same (x ∷ xs) [] r = absurd r
zip_missing R test go same (x ∷ xs) (y ∷ ys) r =
    one_less (go (y, x)) (all_there (map go (zip ys xs))) (test x) (list_any test xs) (same x y r.0) (zip_missing R test go same xs ys r.1)

-- what is known of each where all are there
pub all_known : {A B : Type 0} (S : A → B → Type 0) (go : A → Option B) → ((x : A) (y : B) → go x ≡ Some y → S x y) →
    (xs : List A) (ys : List B) → all_there (map go xs) ≡ Some ys → AllZip S xs ys
all_known S go known [] ys e = subst (λ z. AllZip S [] z) (same_Some [] ys e) tt
all_known S go known (x ∷ rest) ys e =
    let q = both_known (go x) (all_there (map go rest)) ys e in
    subst (λ z. AllZip S (x ∷ rest) z) q.4 (known x q.0 q.2, all_known S go known rest q.1 q.3)

pub zip_known : {A B C : Type 0} (R : A → B → Type 0) (S : A → C → Type 0) (go : B × A → Option C) → ((x : A) (y : B) (z : C) → R x y → go (y, x) ≡ Some z → S x z) →
    (xs : List A) (ys : List B) (zs : List C) → AllZip R xs ys → all_there (map go (zip ys xs)) ≡ Some zs → AllZip S xs zs
zip_known R S go known [] [] zs r e = subst (λ z. AllZip S [] z) (same_Some [] zs e) tt
zip_known R S go known [] (y ∷ ys) zs r e = absurd r
zip_known R S go known (x ∷ xs) [] zs r e = absurd r
zip_known R S go known (x ∷ xs) (y ∷ ys) zs r e =
    let q = both_known (go (y, x)) (all_there (map go (zip ys xs))) zs e in
    subst (λ z. AllZip S (x ∷ xs) z) q.4 (known x y q.0 r.0 q.2, zip_known R S go known xs ys q.1 r.1 q.3)

-- the list beside which the items stood
pub zip_back : {A B C : Type 0} (R : A → B → Type 0) (go : B × A → Option C) (back : C → B) → ((x : A) (y : B) (z : C) → go (y, x) ≡ Some z → back z ≡ y) →
    (xs : List A) (ys : List B) (zs : List C) → AllZip R xs ys → all_there (map go (zip ys xs)) ≡ Some zs → ys ≡ map back zs
zip_back R go back known [] [] zs r e = ap (λ z. map back z) (same_Some [] zs e)
zip_back R go back known [] (y ∷ ys) zs r e = absurd r
zip_back R go back known (x ∷ xs) [] zs r e = absurd r
zip_back {A} {B} R go back known (x ∷ xs) (y ∷ ys) zs r e =
    let q = both_known (go (y, x)) (all_there (map go (zip ys xs))) zs e in
    ap (λ z. y ∷ z) (zip_back R go back known xs ys q.1 r.1 q.3)
    ∙ (ap (λ z. z ∷ map back q.1) (turned (back q.0) (known x y q.0 q.2)) ∙ ap (λ z. map back z) q.4)
  where
    turned : (b : B) → b ≡ y → y ≡ b
    turned b s = cc

-- all are there where each is
pub all_from : {A B : Type 0} (go : A → Option B) (xs : List A) (ys : List B) → AllZip (λ x y. go x ≡ Some y) xs ys → all_there (map go xs) ≡ Some ys
all_from go [] [] r = refl
all_from go [] (y ∷ ys) r = absurd r
all_from go (x ∷ xs) [] r = absurd r
all_from go (x ∷ xs) (y ∷ ys) r = ap (λ o. both o (all_there (map go xs))) r.0 ∙ ap (λ o. both (Some y) o) (all_from go xs ys r.1)

pub zip_weaker : {A B : Type 0} (R S : A → B → Type 0) → ((x : A) (y : B) → R x y → S x y) → (xs : List A) (ys : List B) → AllZip R xs ys → AllZip S xs ys
zip_weaker R S known [] [] r = tt
zip_weaker R S known [] (y ∷ ys) r = absurd r
zip_weaker R S known (x ∷ xs) [] r = absurd r
zip_weaker R S known (x ∷ xs) (y ∷ ys) r = (known x y r.0, zip_weaker R S known xs ys r.1)

-- a test of some
pub zip_any : {A B : Type 0} (R : A → B → Type 0) (t : A → Bool) (u : B → Bool) → ((x : A) (y : B) → R x y → t x ≡ u y) →
    (xs : List A) (ys : List B) → AllZip R xs ys → list_any t xs ≡ list_any u ys
zip_any R t u same [] [] r = refl
zip_any R t u same [] (y ∷ ys) r = absurd r
zip_any R t u same (x ∷ xs) [] r = absurd r
zip_any R t u same (x ∷ xs) (y ∷ ys) r = ap (λ b. b || list_any t xs) (same x y r.0) ∙ ap (λ b. u y || b) (zip_any R t u same xs ys r.1)

-- a test of neighbours, and of the last one, where another test fails
pub zip_neighbours : {A B : Type 0} (R : A → B → Type 0) (c t : A → A → Bool) (u : B → B → Bool) → ((x w : A) (y z : B) → R x y → R w z → c x w ≡ false → t x w ≡ u y z) →
    (xs : List A) (ys : List B) → AllZip R xs ys → some_neighbours c xs ≡ false → some_neighbours t xs ≡ some_neighbours u ys
zip_neighbours R c t u same [] [] r e = refl
zip_neighbours R c t u same [] (y ∷ ys) r e = absurd r
zip_neighbours R c t u same (x ∷ xs) [] r e = absurd r
zip_neighbours R c t u same (x ∷ []) (y ∷ []) r e = refl
zip_neighbours R c t u same (x ∷ []) (y ∷ z ∷ ys) r e = absurd r.1
zip_neighbours R c t u same (x ∷ w ∷ xs) (y ∷ []) r e = absurd r.1
zip_neighbours R c t u same (x ∷ w ∷ xs) (y ∷ z ∷ ys) r e =
    let q = or_parts (c x w) (some_neighbours c (w ∷ xs)) e in
    ap (λ b. b || some_neighbours t (w ∷ xs)) (same x w y z r.0 r.1.0 q.0) ∙ ap (λ b. u y z || b) (zip_neighbours R c t u same (w ∷ xs) (z ∷ ys) r.1 q.1)

pub zip_last : {A B : Type 0} (R : A → B → Type 0) (c t : A → Bool) (u : B → Bool) → ((x : A) (y : B) → R x y → c x ≡ false → t x ≡ u y) →
    (xs : List A) (ys : List B) → AllZip R xs ys → last_is c xs ≡ false → last_is t xs ≡ last_is u ys
zip_last R c t u same [] [] r e = refl
zip_last R c t u same [] (y ∷ ys) r e = absurd r
zip_last R c t u same (x ∷ xs) [] r e = absurd r
zip_last R c t u same (x ∷ []) (y ∷ []) r e = same x y r.0 e
zip_last R c t u same (x ∷ []) (y ∷ z ∷ ys) r e = absurd r.1
zip_last R c t u same (x ∷ w ∷ xs) (y ∷ []) r e = absurd r.1
zip_last R c t u same (x ∷ w ∷ xs) (y ∷ z ∷ ys) r e = zip_last R c t u same (w ∷ xs) (z ∷ ys) r.1 e

-- a test that always fails
pub no_neighbours : {A : Type 0} (xs : List A) → some_neighbours (λ x y. false) xs ≡ false
no_neighbours [] = refl
no_neighbours (x ∷ []) = refl
no_neighbours (x ∷ y ∷ rest) = no_neighbours (y ∷ rest)

pub no_last : {A : Type 0} (xs : List A) → last_is (λ x. false) xs ≡ false
no_last [] = refl
no_last (x ∷ []) = refl
no_last (x ∷ y ∷ rest) = no_last (y ∷ rest)
