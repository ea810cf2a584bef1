-- A place that a point names has that point.
use Rattle.std.proofs.Common.{◌≡◌, ℕ, ◌+◌, Bool, true, false, List, [], ◌∷◌, Some, refl, ◌∙◌, ap, arith, take}
use Rattle.std.specs.Prelude.{zero, suc, map, filter, cond, slice_get, count_by}
use Rattle.std.specs.List.{enumerate_from}
use Rattle.std.proofs.lemmas.List.Sums.{sum_by-cons}
use Rattle.std.proofs.lemmas.Option.{none-some, same_Some}
use Rattle.c_tree.specs.declared.lifted.LFunction.{LFunction}
use Rattle.c_tree.specs.declared.place.Place.{Place}
use Rattle.c_tree.specs.declared.place.PlaceKind.{PlaceKind}
use Rattle.c_tree.specs.declared.mapping.Pt.{Pt}
use Rattle.c_tree.specs.Layout.{places}
use Rattle.c_tree.specs.Points.{kind_of, kind_at, is_kind, before, find_place, place_of, point_of}
use Rattle.patch_laws.proofs.Numbers.{numbers_of, number_passes, found_kind}

-- Before the j-th that passes stand j that pass.
counted : {A : Type 0} (p : A → Bool) (xs : List A) (b i j n : ℕ) → n ≡ b + i → slice_get (numbers_of p b xs) j ≡ Some n → count_by p (take i xs) ≡ j
counted p [] b i j n s e = absurd (none-some n e)
counted {A} p (x ∷ xs) b i j n s e = pick (p x) refl i j s e (λ i j s e. counted p xs (b + 1) i j n s e) where
  further : (i : ℕ) → n ≡ b + suc i → n ≡ b + 1 + i
  further i s = omega (arith, s)

  none : (j : ℕ) → slice_get (numbers_of p (b + 1) xs) j ≡ Some n → n ≡ b + 0 → ⊥
  none j e s = let q = number_passes p xs (b + 1) j n e in let r : n ≡ b + 1 + q.0 = q.1 in omega (arith, s, r)

  pick : (t : Bool) → p x ≡ t → (i j : ℕ) → n ≡ b + i
      → slice_get (map (λ x. x.0) (cond t ((b, x) ∷ filter (λ x. p x.1) (enumerate_from (b + 1) xs)) (filter (λ x. p x.1) (enumerate_from (b + 1) xs)))) j ≡ Some n
      → ((i j : ℕ) → n ≡ b + 1 + i → slice_get (numbers_of p (b + 1) xs) j ≡ Some n → count_by p (take i xs) ≡ j) → count_by p (take i (x ∷ xs)) ≡ j
  pick true f zero zero s e more = refl
  pick true f zero (suc j) s e more = absurd (none j e s)
  pick true f (suc i) zero s e more = absurd (let r : b ≡ n = same_Some b n e in omega (arith, r, s))
  pick true f (suc i) (suc j) s e more =
      let ih : count_by p (take i xs) ≡ j = more i j (further i s) e in
      let step : count_by p (take (suc i) (x ∷ xs)) ≡ 1 + count_by p (take i xs) = sum_by-cons (λ y. cond (p y) 1 0) x (take i xs) ∙ ap (λ t. cond t 1 0 + count_by p (take i xs)) f in
      omega (arith, step, ih)
  pick false f zero j s e more = absurd (none j e s)
  pick false f (suc i) j s e more =
      let ih : count_by p (take i xs) ≡ j = more i j (further i s) e in
      let step : count_by p (take (suc i) (x ∷ xs)) ≡ 0 + count_by p (take i xs) = sum_by-cons (λ y. cond (p y) 1 0) x (take i xs) ∙ ap (λ t. cond t 1 0 + count_by p (take i xs)) f in
      omega (arith, step, ih)

found_number : (xs : List Place) (kind : PlaceKind) (k n : ℕ) → find_place xs kind k ≡ Some n → before kind xs n + 1 ≡ k
found_number xs kind zero n e = absurd (none-some n e)
found_number xs kind (suc k) n e =
    let c : before kind xs n ≡ k = counted (λ x. is_kind kind (kind_of x.act)) xs 0 n k n (omega arith) e in
    omega (arith, c)

pub point_found : (f : LFunction) (pt : Pt) (n : ℕ) → place_of f pt ≡ Some n → point_of f n ≡ pt
point_found f pt n e =
    let kinds : kind_at (places f) n ≡ pt.kind = found_kind (places f) pt.kind pt.number n e in
    let numbers : before pt.kind (places f) n + 1 ≡ pt.number = found_number (places f) pt.kind pt.number n e in
    ap (λ k. point k (before k (places f) n + 1)) kinds ∙ ap (λ i. point pt.kind i) numbers
  where
    point : PlaceKind → ℕ → Pt
    point kind number = record { kind = kind; number = number }
