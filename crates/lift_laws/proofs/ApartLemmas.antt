-- Lists of which each element and each later one are apart.
use Rattle.std.proofs.Common.{◌≡◌, ℕ, Bool, true, false, cond, List, [], ◌∷◌, ◌++◌, refl, sym, subst, nat_eq, nat_lt}
use Rattle.std.specs.Prelude.{map, filter, if◌then◌else◌}
use Rattle.std.specs.List.{AllByRecursion, IsDistinct}
use Rattle.std.specs.Cmp.Lexicographic.{same_text, other_text}
use Rattle.c_tree.specs.declared.scope.Named.{Named}
use Rattle.c_tree.specs.Scope.{is_same_name, placed, in_order}

abbrev pub Apart : {A : Type 0} → (A → A → Type 0) → List A → Type 0
Apart R [] = Unit {0}
Apart R (x ∷ xs) = AllByRecursion (R x) xs × Apart R xs

pub each_weaker : {A : Type 0} {P Q : A → Type 0} → ((x : A) → P x → Q x) → (xs : List A) → AllByRecursion P xs → AllByRecursion Q xs
each_weaker h [] e = tt
each_weaker h (x ∷ xs) e = (h x e.0, each_weaker h xs e.1)

pub apart_weaker : {A : Type 0} {R S : A → A → Type 0} → ((x y : A) → R x y → S x y) → (xs : List A) → Apart R xs → Apart S xs
apart_weaker h [] e = tt
apart_weaker h (x ∷ xs) e = (each_weaker (h x) xs e.0, apart_weaker h xs e.1)

-- parts of a list
pub each_left : {A : Type 0} (P : A → Type 0) (xs ys : List A) → AllByRecursion P (xs ++ ys) → AllByRecursion P xs
each_left P [] ys e = tt
each_left P (x ∷ xs) ys e = (e.0, each_left P xs ys e.1)

pub each_right : {A : Type 0} (P : A → Type 0) (xs ys : List A) → AllByRecursion P (xs ++ ys) → AllByRecursion P ys
each_right P [] ys e = e
each_right P (x ∷ xs) ys e = each_right P xs ys e.1

pub each_push : {A : Type 0} (P : A → Type 0) (xs : List A) (y : A) → AllByRecursion P xs → P y → AllByRecursion P (xs ++ y ∷ [])
each_push P [] y e h = (h, tt)
each_push P (x ∷ xs) y e h = (e.0, each_push P xs y e.1 h)

pub apart_left : {A : Type 0} (R : A → A → Type 0) (xs ys : List A) → Apart R (xs ++ ys) → Apart R xs
apart_left R [] ys e = tt
apart_left R (x ∷ xs) ys e = (each_left (R x) xs ys e.0, apart_left R xs ys e.1)

pub apart_right : {A : Type 0} (R : A → A → Type 0) (xs ys : List A) → Apart R (xs ++ ys) → Apart R ys
apart_right R [] ys e = e
apart_right R (x ∷ xs) ys e = apart_right R xs ys e.1

pub apart_push : {A : Type 0} (R : A → A → Type 0) (xs : List A) (y : A) → Apart R xs → AllByRecursion (λ x. R x y) xs → Apart R (xs ++ y ∷ [])
apart_push R [] y e h = (tt, tt)
apart_push R (x ∷ xs) y e h = (each_push (R x) xs y e.0 h.0, apart_push R xs y e.1 h.1)

pub each_kept : {A : Type 0} (P : A → Type 0) (b : Bool) (x : A) (xs : List A) → P x → AllByRecursion P xs → AllByRecursion P (cond b (x ∷ xs) xs)
each_kept P true x xs h e = (h, e)
each_kept P false x xs h e = e

pub each_filter : {A : Type 0} (P : A → Type 0) (p : A → Bool) (xs : List A) → AllByRecursion P xs → AllByRecursion P (filter p xs)
each_filter P p [] e = tt
each_filter P p (x ∷ xs) e = each_kept P (p x) x (filter p xs) e.0 (each_filter P p xs e.1)

-- what passes a test, where two that pass it are apart
pub each_passing : {A : Type 0} (P Q : A → Type 0) (p : A → Bool) → ((y : A) → P y → p y ≡ true → Q y) → (ys : List A) → AllByRecursion P ys → AllByRecursion Q (filter p ys)
each_passing P Q p h [] e = tt
each_passing P Q p h (y ∷ ys) e = pick (p y) refl (each_passing P Q p h ys e.1) where
  pick : (b : Bool) → b ≡ p y → AllByRecursion Q (filter p ys) → AllByRecursion Q (cond b (y ∷ filter p ys) (filter p ys))
  pick true u more = (h y e.0 (sym u), more)
  pick false u more = more

pub apart_filter : {A : Type 0} (R S : A → A → Type 0) (p : A → Bool) → ((x y : A) → R x y → p x ≡ true → p y ≡ true → S x y) → (xs : List A) → Apart R xs → Apart S (filter p xs)
apart_filter R S p h [] e = tt
apart_filter R S p h (x ∷ xs) e = pick (p x) refl (apart_filter R S p h xs e.1) where
  pick : (b : Bool) → b ≡ p x → Apart S (filter p xs) → Apart S (cond b (x ∷ filter p xs) (filter p xs))
  pick true t more = (each_passing (R x) (S x) p (λ y r u. h x y r (sym t) u) xs e.0, more)
  pick false t more = more

-- names that are apart
pub same_flip : (a b : List ℕ) → is_same_name a b ≡ false → is_same_name b a ≡ false
same_flip a b e = pick (is_same_name b a) refl where
  pick : (r : Bool) → r ≡ is_same_name b a → is_same_name b a ≡ false
  pick false h = sym h
  pick true h = absurd (other_text a b (sym e) (sym (same_text b a h)))

pub unlike : (a b : List ℕ) → (a ≡ b → ⊥) → is_same_name a b ≡ false
unlike a b other = pick (is_same_name a b) refl where
  pick : (r : Bool) → r ≡ is_same_name a b → is_same_name a b ≡ false
  pick false h = sym h
  pick true h = absurd (other (same_text a b h))

pub all_unlike : {A : Type 0} (f : A → List ℕ) (name : List ℕ) (xs : List A) → AllByRecursion (λ y. name ≡ f y → ⊥) xs → AllByRecursion (λ n. is_same_name name n ≡ false) (map f xs)
all_unlike f name [] e = tt
all_unlike f name (x ∷ xs) e = (unlike name (f x) e.0, all_unlike f name xs e.1)

pub distinct : {A : Type 0} (f : A → List ℕ) (xs : List A) → Apart (λ x y. f x ≡ f y → ⊥) xs → IsDistinct is_same_name (map f xs)
unfolding IsDistinct
distinct f [] e = tt
distinct f (x ∷ xs) e = (all_unlike f (f x) xs e.0, distinct f xs e.1)

-- the order of the text
pub each_placed : (P : Named → Type 0) (x : Named) (ys : List Named) → AllByRecursion P (placed x ys) → P x × AllByRecursion P ys
each_placed P x [] e = e
each_placed P x (y ∷ ys) e = pick (nat_lt y.at x.at) e (each_placed P x ys) where
  pick : (b : Bool) → AllByRecursion P (if b then y ∷ placed x ys else x ∷ y ∷ ys) → (AllByRecursion P (placed x ys) → P x × AllByRecursion P ys) → P x × AllByRecursion P (y ∷ ys)
  pick true e more = let r = more e.1 in (r.0, (e.0, r.1))
  pick false e more = e

pub each_in_order : (P : Named → Type 0) (xs : List Named) → AllByRecursion P (in_order xs) → AllByRecursion P xs
each_in_order P [] e = tt
each_in_order P (x ∷ xs) e = let r = each_placed P x (in_order xs) e in (r.0, each_in_order P xs r.1)

pub apart_placed : (R : Named → Named → Type 0) → ((x y : Named) → R x y → R y x) → (x : Named) (ys : List Named) → Apart R (placed x ys) → AllByRecursion (R x) ys × Apart R ys
apart_placed R flip x [] e = (tt, tt)
apart_placed R flip x (y ∷ ys) e = pick (nat_lt y.at x.at) e (apart_placed R flip x ys) where
  pick : (b : Bool) → Apart R (if b then y ∷ placed x ys else x ∷ y ∷ ys) → (Apart R (placed x ys) → AllByRecursion (R x) ys × Apart R ys) → AllByRecursion (R x) (y ∷ ys) × Apart R (y ∷ ys)
  pick true e more = let here = each_placed (R y) x ys e.0 in let r = more e.1 in ((flip y x here.0, r.0), (here.1, r.1))
  pick false e more = e

pub apart_in_order : (R : Named → Named → Type 0) → ((x y : Named) → R x y → R y x) → (xs : List Named) → Apart R (in_order xs) → Apart R xs
apart_in_order R flip [] e = tt
apart_in_order R flip (x ∷ xs) e = let r = apart_placed R flip x (in_order xs) e in (each_in_order (R x) xs r.0, apart_in_order R flip xs r.1)
