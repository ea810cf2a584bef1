-- One item of a list, and of two lists whose items belong together one by one.
use Rattle.std.proofs.Common.{◌≡◌, ℕ, zero, suc, List, [], ◌∷◌, ◌++◌, length, Some, refl, subst, arith}
use Rattle.std.specs.Prelude.{slice_get, slice_index_or, slice_set, All}
use Rattle.std.specs.List.{AllZip}
use Rattle.std.proofs.lemmas.List.{get_or_append_left, get_or_at, length-append}
use Rattle.std.proofs.lemmas.Option.{slice_get_within, get_or_from_slice_get}

-- what holds of each item holds of one
pub all_at : {X : Type 0} (P : X → Type 0) (xs : List X) (i : ℕ) (x : X) → All P xs → slice_get xs i ≡ Some x → P x
all_at P xs i x all e = subst P (get_or_from_slice_get xs i x x e) (all i x (slice_get_within xs i x e))

-- of two parts
pub all_front : {X : Type 0} (P : X → Type 0) (xs ys : List X) → All P (xs ++ ys) → All P xs
all_front P xs ys all = λ k d h. subst P (get_or_append_left xs ys d k h) (all k d (omega (arith, h, length-append xs ys)))

pub all_last : {X : Type 0} (P : X → Type 0) (xs : List X) (x : X) → All P (xs ++ x ∷ []) → P x
all_last P xs x all = subst P (get_or_at xs x [] x (length xs) refl) (all (length xs) x (omega (arith, length-append xs (x ∷ []))))

-- the item of the second list that stands at an item of the first
pub zip_at : {A B : Type 0} (R : A → B → Type 0) (xs : List A) (ys : List B) (i : ℕ) (x : A) (d : B) → AllZip R xs ys → slice_get xs i ≡ Some x → R x (slice_index_or ys i d)
zip_at R [] ys i x d z e = absurd (let k : ⊥ = cc in k)
zip_at R (a ∷ xs) [] i x d z e = absurd z
zip_at R (a ∷ xs) (b ∷ ys) zero x d z e = let same : a ≡ x = cc in subst (λ q. R q b) same z.0
zip_at R (a ∷ xs) (b ∷ ys) (suc i) x d z e = zip_at R xs ys i x d z.1 e

-- another item in its place
pub zip_set : {A B : Type 0} (R : A → B → Type 0) (xs : List A) (ys : List B) (i : ℕ) (y : B) → AllZip R xs ys → ((x : A) → slice_get xs i ≡ Some x → R x y) → AllZip R xs (slice_set ys i y)
zip_set R [] [] i y z new = tt
zip_set R [] (b ∷ ys) i y z new = absurd z
zip_set R (a ∷ xs) [] i y z new = absurd z
zip_set R (a ∷ xs) (b ∷ ys) zero y z new = (new a refl, z.1)
zip_set R (a ∷ xs) (b ∷ ys) (suc i) y z new = (z.0, zip_set R xs ys i y z.1 new)

pub zip_weaker : {A B : Type 0} (R S : A → B → Type 0) (xs : List A) (ys : List B) → ((x : A) (y : B) → R x y → S x y) → AllZip R xs ys → AllZip S xs ys
zip_weaker R S [] [] f z = tt
zip_weaker R S [] (b ∷ ys) f z = absurd z
zip_weaker R S (a ∷ xs) [] f z = absurd z
zip_weaker R S (a ∷ xs) (b ∷ ys) f z = (f a b z.0, zip_weaker R S xs ys f z.1)
