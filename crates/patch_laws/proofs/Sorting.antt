-- Sorting keeps what a list holds, and a list in order.
use Rattle.std.proofs.Common.{◌≡◌, Bool, true, false, List, [], ◌∷◌, Option, Some, None, refl, sym, ◌∙◌, ap}
use Rattle.std.specs.Prelude.{map, ◌&&◌, ◌||◌, if◌then◌else◌, ⊤}
use Rattle.std.specs.Option.{option_or}
use Rattle.std.specs.List.{list_any, list_all}
use Rattle.std.proofs.lemmas.Bool.{both_ways, or_parts}
use Rattle.std.specs.List.Sorted.{IsPermutation}
use Rattle.std.proofs.lemmas.List.Sorted.{IsPermutation-refl, IsPermutation-cons, IsPermutation-middle, IsPermutation-trans}
use Rattle.c_tree.specs.Refusal.{first_some}
use Rattle.c_tree.specs.Canonical.{placed_by, sorted_by}

-- two items, an earlier one and a later one, of which a relation holds
abbrev pub any_pair : {A : Type 0} → (A → A → Bool) → List A → Bool
any_pair holds [] = false
any_pair holds (x ∷ rest) = list_any (holds x) rest || any_pair holds rest

or_swapped : (a b c : Bool) → (a || (b || c)) ≡ (b || (a || c))
or_swapped true true c = refl
or_swapped true false c = refl
or_swapped false b c = refl

and_swapped : (a b c : Bool) → (a && (b && c)) ≡ (b && (a && c))
and_swapped true b c = refl
and_swapped false true c = refl
and_swapped false false c = refl

-- what is sorted holds the same items
pub placed_permutation : {A : Type 0} (before : A → A → Bool) (x : A) (ys : List A) → IsPermutation (x ∷ ys) (placed_by before x ys)
placed_permutation before x [] = IsPermutation-refl (x ∷ [])
placed_permutation before x (y ∷ rest) = elim (before y x) as (λ t. IsPermutation (x ∷ y ∷ rest) (if t then y ∷ placed_by before x rest else x ∷ y ∷ rest)) [
  | true ↦ IsPermutation-trans (x ∷ y ∷ rest) (y ∷ x ∷ rest) (y ∷ placed_by before x rest) (IsPermutation-middle (x ∷ []) y rest)
      (IsPermutation-cons y (x ∷ rest) (placed_by before x rest) (placed_permutation before x rest))
  | false ↦ IsPermutation-refl (x ∷ y ∷ rest)
]

pub sorted_permutation : {A : Type 0} (before : A → A → Bool) (xs : List A) → IsPermutation xs (sorted_by before xs)
sorted_permutation before [] = IsPermutation-refl []
sorted_permutation before (x ∷ rest) =
    IsPermutation-trans (x ∷ rest) (x ∷ sorted_by before rest) (placed_by before x (sorted_by before rest))
    (IsPermutation-cons x rest (sorted_by before rest) (sorted_permutation before rest)) (placed_permutation before x (sorted_by before rest))

-- `list_any`
pub placed_any : {A : Type 0} (before : A → A → Bool) (p : A → Bool) (x : A) (ys : List A) → list_any p (placed_by before x ys) ≡ (p x || list_any p ys)
placed_any before p x [] = refl
placed_any before p x (y ∷ rest) = elim (before y x) as (λ t. list_any p (if t then y ∷ placed_by before x rest else x ∷ y ∷ rest) ≡ (p x || list_any p (y ∷ rest))) [
  | true ↦ ap (λ z. p y || z) (placed_any before p x rest) ∙ or_swapped (p y) (p x) (list_any p rest)
  | false ↦ refl
]

pub sorted_any : {A : Type 0} (before : A → A → Bool) (p : A → Bool) (xs : List A) → list_any p (sorted_by before xs) ≡ list_any p xs
sorted_any before p [] = refl
sorted_any before p (x ∷ rest) = placed_any before p x (sorted_by before rest) ∙ ap (λ z. p x || z) (sorted_any before p rest)

-- `list_all`
pub placed_all : {A : Type 0} (before : A → A → Bool) (p : A → Bool) (x : A) (ys : List A) → list_all p (placed_by before x ys) ≡ (p x && list_all p ys)
placed_all before p x [] = refl
placed_all before p x (y ∷ rest) = elim (before y x) as (λ t. list_all p (if t then y ∷ placed_by before x rest else x ∷ y ∷ rest) ≡ (p x && list_all p (y ∷ rest))) [
  | true ↦ ap (λ z. p y && z) (placed_all before p x rest) ∙ and_swapped (p y) (p x) (list_all p rest)
  | false ↦ refl
]

pub sorted_all : {A : Type 0} (before : A → A → Bool) (p : A → Bool) (xs : List A) → list_all p (sorted_by before xs) ≡ list_all p xs
sorted_all before p [] = refl
sorted_all before p (x ∷ rest) = placed_all before p x (sorted_by before rest) ∙ ap (λ z. p x && z) (sorted_all before p rest)

-- `any_pair`, where it does not matter which of two stands first
pairs_swapped : (a b c d : Bool) → ((a || b) || (c || d)) ≡ ((a || c) || (b || d))
pairs_swapped true b c d = refl
pairs_swapped false true true d = refl
pairs_swapped false true false d = refl
pairs_swapped false false c d = refl

pub placed_pairs : {A : Type 0} (before q : A → A → Bool) → ((x y : A) → q x y ≡ q y x) → (x : A) (ys : List A) →
    any_pair q (placed_by before x ys) ≡ (list_any (q x) ys || any_pair q ys)
placed_pairs before q swap x [] = refl
placed_pairs before q swap x (y ∷ rest) = elim (before y x) as (λ t. any_pair q (if t then y ∷ placed_by before x rest else x ∷ y ∷ rest) ≡ (list_any (q x) (y ∷ rest) || any_pair q (y ∷ rest))) [
  | true ↦ ap (λ z. list_any (q y) (placed_by before x rest) || z) (placed_pairs before q swap x rest)
      ∙ (ap (λ z. z || (list_any (q x) rest || any_pair q rest)) (placed_any before (q y) x rest)
      ∙ (ap (λ z. (z || list_any (q y) rest) || (list_any (q x) rest || any_pair q rest)) (swap y x)
      ∙ pairs_swapped (q x y) (list_any (q y) rest) (list_any (q x) rest) (any_pair q rest)))
  | false ↦ refl
]

pub sorted_pairs : {A : Type 0} (before q : A → A → Bool) → ((x y : A) → q x y ≡ q y x) → (xs : List A) → any_pair q (sorted_by before xs) ≡ any_pair q xs
sorted_pairs before q swap [] = refl
sorted_pairs before q swap (x ∷ rest) =
    placed_pairs before q swap x (sorted_by before rest)
    ∙ (ap (λ z. z || any_pair q (sorted_by before rest)) (sorted_any before (q x) rest)
    ∙ ap (λ z. list_any (q x) rest || z) (sorted_pairs before q swap rest))

-- the first that is found, where no two are
pub found_apart : {A C : Type 0} (q : A → A → Bool) (h : A → Option C) → ((x y : A) (c d : C) → h x ≡ Some c → h y ≡ Some d → q x y ≡ true) →
    (x : A) (c : C) (ys : List A) → h x ≡ Some c → list_any (q x) ys ≡ false → first_some (map h ys) ≡ None
found_apart q h clash x c [] e free = refl
found_apart {A} {C} q h clash x c (y ∷ rest) e free = pick (h y) refl (found_apart q h clash x c rest e) where
  parts : (q x y ≡ false) × (list_any (q x) rest ≡ false)
  parts = or_parts (q x y) (list_any (q x) rest) free

  pick : (o : Option C) → h y ≡ o → (list_any (q x) rest ≡ false → first_some (map h rest) ≡ None) → first_some (o ∷ map h rest) ≡ None
  pick None f more = more parts.1
  pick (Some d) f more = absurd (both_ways (q x y) parts.0 (clash x y c d e f))

pub first_or : {C : Type 0} (o : Option C) (rest : List (Option C)) → first_some (o ∷ rest) ≡ option_or o (first_some rest)
first_or None rest = refl
first_or (Some c) rest = refl

pub placed_first : {A C : Type 0} (before q : A → A → Bool) (h : A → Option C) → ((x y : A) (c d : C) → h x ≡ Some c → h y ≡ Some d → q x y ≡ true) →
    (x : A) (ys : List A) → list_any (q x) ys ≡ false → first_some (map h (placed_by before x ys)) ≡ first_some (h x ∷ map h ys)
placed_first before q h clash x [] free = refl
placed_first {A} {C} before q h clash x (y ∷ rest) free = cases (before y x) (placed_first before q h clash x rest) where
  parts : (q x y ≡ false) × (list_any (q x) rest ≡ false)
  parts = or_parts (q x y) (list_any (q x) rest) free

  swapped : (o p : Option C) (r : Option C) → h x ≡ o → h y ≡ p → option_or p (option_or o r) ≡ option_or o (option_or p r)
  swapped None p r e f = refl
  swapped (Some c) None r e f = refl
  swapped (Some c) (Some d) r e f = absurd (both_ways (q x y) parts.0 (clash x y c d e f))

  cases : (t : Bool) → (list_any (q x) rest ≡ false → first_some (map h (placed_by before x rest)) ≡ first_some (h x ∷ map h rest)) →
      first_some (map h (if t then y ∷ placed_by before x rest else x ∷ y ∷ rest)) ≡ first_some (h x ∷ h y ∷ map h rest)
  cases false more = refl
  cases true more =
      first_or (h y) (map h (placed_by before x rest))
      ∙ (ap (λ r. option_or (h y) r) (more parts.1 ∙ first_or (h x) (map h rest))
      ∙ (swapped (h x) (h y) (first_some (map h rest)) refl refl
      ∙ (ap (λ r. option_or (h x) r) (sym (first_or (h y) (map h rest))) ∙ sym (first_or (h x) (h y ∷ map h rest)))))

pub sorted_first : {A C : Type 0} (before q : A → A → Bool) (h : A → Option C) → ((x y : A) (c d : C) → h x ≡ Some c → h y ≡ Some d → q x y ≡ true) →
    (xs : List A) → any_pair q xs ≡ false → first_some (map h (sorted_by before xs)) ≡ first_some (map h xs)
sorted_first before q h clash [] free = refl
sorted_first before q h clash (x ∷ rest) free =
    let parts = or_parts (list_any (q x) rest) (any_pair q rest) free in
    placed_first before q h clash x (sorted_by before rest) (sorted_any before (q x) rest ∙ parts.0)
    ∙ (first_or (h x) (map h (sorted_by before rest))
    ∙ (ap (λ r. option_or (h x) r) (sorted_first before q h clash rest parts.1) ∙ sym (first_or (h x) (map h rest))))

-- order
abbrev pub IsAhead : {A : Type 0} → (A → A → Bool) → A → List A → Type 0
IsAhead before x [] = ⊤
IsAhead before x (y ∷ rest) = before y x ≡ false

abbrev pub InOrder : {A : Type 0} → (A → A → Bool) → List A → Type 0
InOrder before [] = ⊤
InOrder before (x ∷ rest) = IsAhead before x rest × InOrder before rest

pub placed_in_order : {A : Type 0} (before : A → A → Bool) → ((x y : A) → before x y ≡ true → before y x ≡ false) → (x : A) (ys : List A) →
    InOrder before ys → InOrder before (placed_by before x ys)
placed_in_order before once x [] r = (tt, tt)
placed_in_order {A} before once x (y ∷ rest) r = cases (before y x) refl (placed_in_order before once x rest r.1) where
  ahead : (rest : List A) → before y x ≡ true → IsAhead before y rest → IsAhead before y (placed_by before x rest)
  ahead [] e s = once y x e
  ahead (z ∷ rest) e s = elim (before z x) as (λ t. IsAhead before y (if t then z ∷ placed_by before x rest else x ∷ z ∷ rest)) [
    | true ↦ s
    | false ↦ once y x e
  ]

  cases : (t : Bool) → before y x ≡ t → InOrder before (placed_by before x rest) → InOrder before (if t then y ∷ placed_by before x rest else x ∷ y ∷ rest)
  cases true e more = (ahead rest e r.0, more)
  cases false e more = (e, r)

pub sorted_in_order : {A : Type 0} (before : A → A → Bool) → ((x y : A) → before x y ≡ true → before y x ≡ false) → (xs : List A) → InOrder before (sorted_by before xs)
sorted_in_order before once [] = tt
sorted_in_order before once (x ∷ rest) = placed_in_order before once x (sorted_by before rest) (sorted_in_order before once rest)

pub ahead_placed : {A : Type 0} (before : A → A → Bool) (x : A) (ys : List A) → IsAhead before x ys → placed_by before x ys ≡ x ∷ ys
ahead_placed before x [] r = refl
ahead_placed before x (y ∷ rest) r = ap (λ t. if t then y ∷ placed_by before x rest else x ∷ y ∷ rest) r

pub in_order_kept : {A : Type 0} (before : A → A → Bool) (xs : List A) → InOrder before xs → sorted_by before xs ≡ xs
in_order_kept before [] r = refl
in_order_kept before (x ∷ rest) r = ap (λ ys. placed_by before x ys) (in_order_kept before rest r.1) ∙ ahead_placed before x rest r.0

pub sorted_twice : {A : Type 0} (before : A → A → Bool) → ((x y : A) → before x y ≡ true → before y x ≡ false) → (xs : List A) →
    sorted_by before (sorted_by before xs) ≡ sorted_by before xs
sorted_twice before once xs = in_order_kept before (sorted_by before xs) (sorted_in_order before once xs)

-- a change of the items that keeps their order
pub placed_map : {A B : Type 0} (s : A → A → Bool) (t : B → B → Bool) (f : A → B) → ((x y : A) → t (f x) (f y) ≡ s x y) → (x : A) (ys : List A) →
    map f (placed_by s x ys) ≡ placed_by t (f x) (map f ys)
placed_map s t f same x [] = refl
placed_map s t f same x (y ∷ rest) =
    (elim (s y x) as (λ b. map f (if b then y ∷ placed_by s x rest else x ∷ y ∷ rest) ≡ (if b then f y ∷ placed_by t (f x) (map f rest) else f x ∷ f y ∷ map f rest)) [
      | true ↦ ap (λ z. f y ∷ z) (placed_map s t f same x rest)
      | false ↦ refl
    ])
    ∙ ap (λ b. if b then f y ∷ placed_by t (f x) (map f rest) else f x ∷ f y ∷ map f rest) (sym (same y x))

pub sorted_map : {A B : Type 0} (s : A → A → Bool) (t : B → B → Bool) (f : A → B) → ((x y : A) → t (f x) (f y) ≡ s x y) → (xs : List A) →
    map f (sorted_by s xs) ≡ sorted_by t (map f xs)
sorted_map s t f same [] = refl
sorted_map s t f same (x ∷ rest) = placed_map s t f same x (sorted_by s rest) ∙ ap (λ z. placed_by t (f x) z) (sorted_map s t f same rest)
