-- Reading and writing at an index of a list.
use Rattle.std.proofs.Common.{◌≡◌, ℕ, zero, suc, ◌<◌, List, [], ◌∷◌, ◌++◌, length, map, Some, None, refl, ap, arith}
use Rattle.std.specs.Prelude.{slice_get, slice_set}

-- what a map makes of an element
pub get_map : {A B : Type 0} (g : A → B) (xs : List A) (i : ℕ) (x : A) → slice_get xs i ≡ Some x → slice_get (map g xs) i ≡ Some (g x)
get_map g [] i x e = cc
get_map g (y ∷ xs) zero x e = let same : y ≡ x = cc in ap (λ k. Some (g k)) same
get_map g (y ∷ xs) (suc i) x e = get_map g xs i x e

-- a map of a list with another element
pub map_set : {A B : Type 0} (g : A → B) (xs : List A) (i : ℕ) (x : A) → map g (slice_set xs i x) ≡ slice_set (map g xs) i (g x)
map_set g [] i x = refl
map_set g (y ∷ xs) zero x = refl
map_set g (y ∷ xs) (suc i) x = ap (λ l. g y ∷ l) (map_set g xs i x)

-- an element is set that is there
pub set_same : {A : Type 0} (xs : List A) (i : ℕ) (x : A) → slice_get xs i ≡ Some x → slice_set xs i x ≡ xs
set_same [] i x e = refl
set_same (y ∷ xs) zero x e = let same : x ≡ y = cc in ap (λ k. k ∷ xs) same
set_same (y ∷ xs) (suc i) x e = ap (λ l. y ∷ l) (set_same xs i x e)

-- an element of the front part is set
pub set_front : {A : Type 0} (xs ys : List A) (i : ℕ) (x : A) → i < length xs → slice_set (xs ++ ys) i x ≡ slice_set xs i x ++ ys
set_front [] ys i x h = absurd (omega (arith, h))
set_front (y ∷ xs) ys zero x h = refl
set_front (y ∷ xs) ys (suc i) x h = ap (λ l. y ∷ l) (set_front xs ys i x (omega (arith, h)))

-- the last element
pub get_last : {A : Type 0} (xs : List A) (x : A) → slice_get (xs ++ x ∷ []) (length xs) ≡ Some x
get_last [] x = refl
get_last (y ∷ xs) x = get_last xs x

-- another last element
pub set_last : {A : Type 0} (xs : List A) (x y : A) → slice_set (xs ++ x ∷ []) (length xs) y ≡ xs ++ y ∷ []
set_last [] x y = refl
set_last (z ∷ xs) x y = ap (λ l. z ∷ l) (set_last xs x y)

-- nothing is there past the end
pub get_past : {A : Type 0} (xs : List A) → slice_get xs (length xs) ≡ None
get_past [] = refl
get_past (x ∷ xs) = get_past xs

-- a map of a list with one more element
pub map_more : {A B : Type 0} (g : A → B) (xs : List A) (x : A) → map g (xs ++ x ∷ []) ≡ map g xs ++ g x ∷ []
map_more g [] x = refl
map_more g (y ∷ xs) x = ap (λ l. g y ∷ l) (map_more g xs x)

-- a list with another element is as long
pub length_set : {A : Type 0} (xs : List A) (i : ℕ) (x : A) → length (slice_set xs i x) ≡ length xs
length_set [] i x = refl
length_set (y ∷ xs) zero x = refl
length_set (y ∷ xs) (suc i) x = ap suc (length_set xs i x)

-- a map of a list is as long
pub length_map : {A B : Type 0} (g : A → B) (xs : List A) → length (map g xs) ≡ length xs
length_map g [] = refl
length_map g (y ∷ xs) = ap suc (length_map g xs)
