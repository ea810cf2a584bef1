-- Loops over parts, and over what stands beside them.
use Rattle.std.proofs.Common.{◌≡◌, ◌∙◌, ℕ, ◌+◌, ◌-◌, ◌<◌, ◌≤◌, suc, min, Bool, true, false, List, [], ◌∷◌, ◌++◌, length, get_or, drop, map, Option, Some, None, refl, sym, ap, append_assoc, append-nil, arith, length-drop}
use Rattle.std.specs.Prelude.{◌||◌, slice_get}
use Rattle.std.specs.Option.{option_map}
use Rattle.std.specs.List.{zip}
use Rattle.std.proofs.lemmas.Option.{none-some, same_Some}
use Rattle.std.proofs.lemmas.List.{drop_more, nil_from_length, length-map, get_or-map}
use Rattle.std.proofs.lemmas.Slice.Zip.{length-zip}
use Rattle.c_tree.specs.Suits.{some_neighbours, last_is}
use Rattle.c_tree.specs.Entries.{both, all_there}

-- two lists beside each other, one place further
left_more : {X : Type 0} (xs : List X) (i : ℕ) (x : X) → i < length xs → x ≡ get_or xs i x → drop i xs ≡ x ∷ drop (i + 1) xs
left_more xs i x l is = drop_more xs i x l ∙ ap (λ z. z ∷ drop (i + 1) xs) (sym is)

zip_more : {A B : Type 0} (ys : List B) (xs : List A) (i : ℕ) (y : B) (x : A) → i < length ys → i < length xs → y ≡ get_or ys i y → x ≡ get_or xs i x →
    zip (drop i ys) (drop i xs) ≡ (y, x) ∷ zip (drop (i + 1) ys) (drop (i + 1) xs)
zip_more ys xs i y x l m is are = ap (λ z. zip z (drop i xs)) (left_more ys i y l is) ∙ ap (λ z. zip (y ∷ drop (i + 1) ys) z) (left_more xs i x m are)

pushed : {C : Type 0} (made : List C) (z : C) (r : Option (List C)) → option_map (λ rest. made ++ rest) (both (Some z) r) ≡ option_map (λ rest. (made ++ z ∷ []) ++ rest) r
pushed made z None = refl
pushed made z (Some xs) = ap (λ z. Some z) (sym (append_assoc made (z ∷ []) xs))

-- what is made so far, and what is made of the rest
abbrev pub SoFar : {A B C : Type 0} → (B × A → Option C) → List B → List A → List C → ℕ → Type 0
SoFar go ys xs made i = all_there (map go (zip ys xs)) ≡ option_map (λ rest. made ++ rest) (all_there (map go (zip (drop i ys) (drop i xs))))

abbrev next : {A B C : Type 0} → (B × A → Option C) → List B → List A → List C → ℕ → B → A → Option C → Option (List C)
next go ys xs made i y x o = option_map (λ rest. made ++ rest) (both o (all_there (map go (zip (drop (i + 1) ys) (drop (i + 1) xs)))))

module _ {A B C : Type 0} (go : B × A → Option C) (ys : List B) (xs : List A) (made : List C) where
  module _ (i : ℕ) (y : B) (x : A) (in_ys : i < length ys) (in_xs : i < length xs) (y_is : y ≡ get_or ys i y) (x_is : x ≡ get_or xs i x) (so : SoFar go ys xs made i) where
    here : all_there (map go (zip ys xs)) ≡ next go ys xs made i y x (go (y, x))
    here = so ∙ ap (λ l. option_map (λ rest. made ++ rest) (all_there (map go l))) (zip_more ys xs i y x in_ys in_xs y_is x_is)

    -- one more is there
    pub one_more : (z : C) → go (y, x) ≡ Some z → SoFar go ys xs (made ++ z ∷ []) (i + 1)
    one_more z e = here ∙ (ap (λ o. next go ys xs made i y x o) e ∙ pushed made z (all_there (map go (zip (drop (i + 1) ys) (drop (i + 1) xs)))))

    -- one is missing
    pub one_lacks : go (y, x) ≡ None → all_there (map go (zip ys xs)) ≡ None
    one_lacks e = here ∙ ap (λ o. next go ys xs made i y x o) e

  -- all are there
  pub all_made : (i : ℕ) → min (length ys) (length xs) ≤ i → SoFar go ys xs made i → all_there (map go (zip ys xs)) ≡ Some made
  all_made i l so =
      let empty : zip (drop i ys) (drop i xs) ≡ [] =
      nil_from_length (zip (drop i ys) (drop i xs)) (omega (arith, l, length-zip (drop i ys) (drop i xs), length-drop i ys, length-drop i xs)) in
      so ∙ (ap (λ l. option_map (λ rest. made ++ rest) (all_there (map go l))) empty ∙ ap (λ z. Some z) (append-nil made))

-- beside what is seen of a list
module _ {A B C D : Type 0} (f : D → B) (go : B × A → Option C) (zs : List D) (xs : List A) (made : List C) (i : ℕ) where
  module _ (d : D) (x : A) (in_zs : i < length zs) (in_xs : i < length xs) (x_is : x ≡ get_or xs i x) (so : SoFar go (map f zs) xs made i) where
    in_seen : i < length (map f zs)
    in_seen = omega (arith, in_zs, length-map zs f)

    seen_at : f (get_or zs i d) ≡ get_or (map f zs) i (f (get_or zs i d))
    seen_at = sym (get_or-map f zs i d (f (get_or zs i d)) in_zs)

    pub one_more_seen : (z : C) → go (f (get_or zs i d), x) ≡ Some z → SoFar go (map f zs) xs (made ++ z ∷ []) (i + 1)
    one_more_seen z e = one_more go (map f zs) xs made i (f (get_or zs i d)) x in_seen in_xs seen_at x_is so z e

    pub one_lacks_seen : go (f (get_or zs i d), x) ≡ None → None ≡ all_there (map go (zip (map f zs) xs))
    one_lacks_seen e = sym (one_lacks go (map f zs) xs made i (f (get_or zs i d)) x in_seen in_xs seen_at x_is so e)

  pub all_made_seen : min (length zs) (length xs) ≤ i → SoFar go (map f zs) xs made i → all_there (map go (zip (map f zs) xs)) ≡ Some made
  all_made_seen l so = all_made go (map f zs) xs made i (omega (arith, l, length-map zs f)) so

-- neighbours among what is seen of a list
neighbours_seen : {A B : Type 0} (f : A → B) (t : B → B → Bool) (xs : List A) → some_neighbours t (map f xs) ≡ some_neighbours (λ x y. t (f x) (f y)) xs
neighbours_seen f t [] = refl
neighbours_seen f t (x ∷ []) = refl
neighbours_seen f t (x ∷ y ∷ rest) = ap (λ b. t (f x) (f y) || b) (neighbours_seen f t (y ∷ rest))

last_seen : {A B : Type 0} (f : A → B) (t : B → Bool) (xs : List A) → last_is t (map f xs) ≡ last_is (λ x. t (f x)) xs
last_seen f t [] = refl
last_seen f t (x ∷ []) = refl
last_seen f t (x ∷ y ∷ rest) = last_seen f t (y ∷ rest)

module _ {A B : Type 0} (f : A → B) (t : B → B → Bool) (xs : List A) where
  -- what is left from before a place on has the neighbours that are sought
  abbrev pub LeftFrom : ℕ → Type 0
  LeftFrom i = some_neighbours t (map f xs) ≡ some_neighbours (λ x y. t (f x) (f y)) (drop (i - 1) xs)

  pub left_first : LeftFrom 1
  left_first = neighbours_seen f t xs

  -- two places beside each other
  two_left : (i : ℕ) (d : A) → 1 ≤ i → i < length xs → drop (i - 1) xs ≡ get_or xs (i - 1) d ∷ get_or xs i d ∷ drop (i + 1) xs
  two_left i d l m =
      let before : i - 1 + 1 ≡ i = omega (arith, l) in
      drop_more xs (i - 1) d (omega (arith, l, m))
      ∙ (ap (λ n. get_or xs (i - 1) d ∷ drop n xs) before ∙ ap (λ z. get_or xs (i - 1) d ∷ z) (drop_more xs i d m))

  pub left_on : (i : ℕ) (d : A) → 1 ≤ i → i < length xs → t (f (get_or xs (i - 1) d)) (f (get_or xs i d)) ≡ false → LeftFrom i → LeftFrom (i + 1)
  left_on i d l m e so =
      let back : i + 1 - 1 ≡ i = omega arith in
      so ∙ (ap (some_neighbours (λ x y. t (f x) (f y))) (two_left i d l m)
      ∙ (ap (λ b. b || some_neighbours (λ x y. t (f x) (f y)) (get_or xs i d ∷ drop (i + 1) xs)) e
      ∙ ap (some_neighbours (λ x y. t (f x) (f y))) (sym (drop_more xs i d m) ∙ ap (λ n. drop n xs) (sym back))))

  pub left_found : (i : ℕ) (d : A) → 1 ≤ i → i < length xs → t (f (get_or xs (i - 1) d)) (f (get_or xs i d)) ≡ true → LeftFrom i → true ≡ some_neighbours t (map f xs)
  left_found i d l m e so =
      sym (so ∙ (ap (some_neighbours (λ x y. t (f x) (f y))) (two_left i d l m) ∙ ap (λ b. b || some_neighbours (λ x y. t (f x) (f y)) (get_or xs i d ∷ drop (i + 1) xs)) e))

  pub left_none : (i : ℕ) → length xs ≤ i → LeftFrom i → false ≡ some_neighbours t (map f xs)
  left_none i l so = sym (so ∙ short (drop (i - 1) xs) (omega (arith, l, length-drop (i - 1) xs))) where
    short : (ys : List A) → length ys ≤ 1 → some_neighbours (λ x y. t (f x) (f y)) ys ≡ false
    short [] l = refl
    short (y ∷ []) l = refl
    short (y ∷ z ∷ ys) l = absurd (omega (arith, l))

-- the last one
last_at : {A : Type 0} (t : A → Bool) (xs : List A) (x : A) → slice_get xs (length xs - 1) ≡ Some x → last_is t xs ≡ t x
last_at t [] x e = absurd (none-some x e)
last_at t (y ∷ []) x e = ap t (same_Some y x e)
last_at t (y ∷ z ∷ rest) x e = last_at t (z ∷ rest) x (ap (λ n. slice_get (z ∷ rest) n) less ∙ (same ∙ e)) where
  less : suc (length rest) - 1 ≡ length rest
  less = omega arith

  same : slice_get (z ∷ rest) (length rest) ≡ slice_get (y ∷ z ∷ rest) (suc (suc (length rest)) - 1)
  same = ap (λ n. slice_get (y ∷ z ∷ rest) n) (let e : suc (length rest) ≡ suc (suc (length rest)) - 1 = omega arith in e)

pub last_there : {A B : Type 0} (f : A → B) (t : B → Bool) (xs : List A) (x : A) → slice_get xs (length xs - 1) ≡ Some x → last_is t (map f xs) ≡ t (f x)
last_there f t xs x e = last_seen f t xs ∙ last_at (λ x. t (f x)) xs x e
