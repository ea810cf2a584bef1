-- A name is found at one number, and a place of a kind by one count.
use Rattle.std.proofs.Common.{◌≡◌, ℕ, ◌+◌, Bool, true, false, List, [], ◌∷◌, Some, refl, sym, ◌∙◌, ap, subst, length, arith}
use Rattle.std.specs.Prelude.{zero, suc, map, filter, ◌==◌, ◌&&◌, cond, nat_lt, slice_get}
use Rattle.std.specs.List.{enumerate_from, position_from}
use Rattle.std.proofs.lemmas.Option.{none-some, same_Some, slice_get_within}
use Rattle.std.proofs.lemmas.Bool.{both_ways, and_parts, eqb-true, eq-eqb, ne_eqb, lt-ltb}
use Rattle.c_tree.specs.declared.place.Place.{Place}
use Rattle.c_tree.specs.declared.place.PlaceKind.{PlaceKind}
use Rattle.c_tree.specs.declared.place.PlaceKind.TheVariants as kind
use Rattle.c_tree.specs.declared.lifted.LFunction.{LFunction}
use Rattle.c_tree.specs.declared.mapping.Pt.{Pt}
use Rattle.c_tree.specs.Layout.{nowhere, places}
use Rattle.c_tree.specs.Scope.{is_same_name}
use Rattle.c_tree.specs.Names.{find_name}
use Rattle.c_tree.specs.Points.{kind_of, kind_at, is_kind, find_place, place_of}

-- names
pub same_name : (a b : List ℕ) → is_same_name a b ≡ true → a ≡ b
same_name [] [] e = refl
same_name [] (y ∷ b) e = absurd (both_ways false refl e)
same_name (x ∷ a) [] e = absurd (both_ways false refl e)
same_name (x ∷ a) (y ∷ b) e =
    let q = and_parts (x == y) (is_same_name a b) e in
    ap (λ z. z ∷ a) (eqb-true x y q.0) ∙ ap (λ z. y ∷ z) (same_name a b q.1)

pub own_name : (a : List ℕ) → is_same_name a a ≡ true
own_name [] = refl
own_name (x ∷ a) = ap (λ b. b && is_same_name a a) (eq-eqb x x refl) ∙ own_name a

-- the first that passes is one that passes
pub position_known : {A : Type 0} (p : A → Bool) (xs : List A) (b j : ℕ) → position_from p b xs ≡ Some j →
    (i : ℕ) × (j ≡ b + i) × ((x : A) × (slice_get xs i ≡ Some x) × (p x ≡ true))
position_known p [] b j e = absurd (none-some j e)
position_known {A} p (x ∷ rest) b j e = pick (p x) refl e (position_known p rest (b + 1) j) where
  Out : Type 0
  Out = (i : ℕ) × (j ≡ b + i) × ((y : A) × (slice_get (x ∷ rest) i ≡ Some y) × (p y ≡ true))

  In : Type 0
  In = (i : ℕ) × (j ≡ b + 1 + i) × ((y : A) × (slice_get rest i ≡ Some y) × (p y ≡ true))

  pick : (t : Bool) → p x ≡ t → cond t (Some b) (position_from p (b + 1) rest) ≡ Some j → (position_from p (b + 1) rest ≡ Some j → In) → Out
  pick true f e more = (0, (let s : b ≡ j = same_Some b j e in omega (arith, s)), (x, refl, f))
  pick false f e more = let q = more e in (suc q.0, (let s : j ≡ b + 1 + q.0 = q.1 in omega (arith, s)), q.2)

pub number_at : (names : List (List ℕ)) (name : List ℕ) (j : ℕ) → find_name name names ≡ Some j → slice_get names j ≡ Some name
number_at names name j e =
    let f = position_known (is_same_name name) names 0 j e in
    let is : f.0 ≡ j = (let q : j ≡ 0 + f.0 = f.1 in omega (arith, q)) in
    subst (λ i. slice_get names i ≡ Some name) is (f.2.1 ∙ ap (λ z. Some z) (sym (same_name name f.2.0 f.2.2)))

pub number_within : (names : List (List ℕ)) (name : List ℕ) (j : ℕ) → find_name name names ≡ Some j → nat_lt j (length names) ≡ true
number_within names name j e = lt-ltb j (length names) (slice_get_within names j name (number_at names name j e))

-- names are the same exactly where their numbers are
pub same_found : (names : List (List ℕ)) (a b : List ℕ) (i j : ℕ) → find_name a names ≡ Some i → find_name b names ≡ Some j → is_same_name a b ≡ (i == j)
same_found names a b i j e f = pick (is_same_name a b) refl where
  equal : a ≡ b → i ≡ j
  equal s = same_Some i j (sym e ∙ (ap (λ z. find_name z names) s ∙ f))

  apart : is_same_name a b ≡ false → i ≡ j → ⊥
  apart off s =
      let here : a ≡ b = same_Some a b (sym (number_at names a i e) ∙ (ap (λ z. slice_get names z) s ∙ number_at names b j f)) in
      both_ways (is_same_name a b) off (ap (λ z. is_same_name a z) (sym here) ∙ own_name a)

  pick : (t : Bool) → is_same_name a b ≡ t → t ≡ (i == j)
  pick true s = sym (eq-eqb i j (equal (same_name a b s)))
  pick false s = sym (ne_eqb i j (apart s))

-- kinds of places
pub same_kind : (a b : PlaceKind) → is_kind a b ≡ true → a ≡ b
same_kind kind.Entry kind.Entry e = refl
same_kind kind.Entry b e = absurd (both_ways false refl e)
same_kind kind.LoopEnd kind.LoopEnd e = refl
same_kind kind.LoopEnd b e = absurd (both_ways false refl e)
same_kind kind.Block kind.Block e = refl
same_kind kind.Block b e = absurd (both_ways false refl e)
same_kind kind.Call kind.Call e = refl
same_kind kind.Call b e = absurd (both_ways false refl e)
same_kind kind.Plain kind.Plain e = refl
same_kind kind.Plain b e = absurd (both_ways false refl e)

pub own_kind : (a : PlaceKind) → is_kind a a ≡ true
own_kind kind.Entry = refl
own_kind kind.LoopEnd = refl
own_kind kind.Block = refl
own_kind kind.Call = refl
own_kind kind.Plain = refl

-- the numbers, from b on, of those that pass
abbrev pub numbers_of : {A : Type 0} → (A → Bool) → ℕ → List A → List ℕ
numbers_of p b xs = map (λ x. x.0) (filter (λ x. p x.1) (enumerate_from b xs))

pub number_passes : {A : Type 0} (p : A → Bool) (xs : List A) (b j n : ℕ) → slice_get (numbers_of p b xs) j ≡ Some n →
    (i : ℕ) × (n ≡ b + i) × ((x : A) × (slice_get xs i ≡ Some x) × (p x ≡ true))
number_passes p [] b j n e = absurd (none-some n e)
number_passes {A} p (x ∷ xs) b j n e = pick (p x) refl j e (λ i. number_passes p xs (b + 1) i n) where
  Out : Type 0
  Out = (i : ℕ) × (n ≡ b + i) × ((y : A) × (slice_get (x ∷ xs) i ≡ Some y) × (p y ≡ true))

  In : Type 0
  In = (i : ℕ) × (n ≡ b + 1 + i) × ((y : A) × (slice_get xs i ≡ Some y) × (p y ≡ true))

  onto : In → Out
  onto q = (suc q.0, (let s : n ≡ b + 1 + q.0 = q.1 in omega (arith, s)), q.2)

  pick : (t : Bool) → p x ≡ t → (j : ℕ) → slice_get (map (λ x. x.0) (cond t ((b, x) ∷ filter (λ x. p x.1) (enumerate_from (b + 1) xs)) (filter (λ x. p x.1) (enumerate_from (b + 1) xs)))) j ≡ Some n →
      ((i : ℕ) → slice_get (numbers_of p (b + 1) xs) i ≡ Some n → In) → Out
  pick false f j e more = onto (more j e)
  pick true f zero e more = (0, (let s : b ≡ n = same_Some b n e in omega (arith, s)), (x, refl, f))
  pick true f (suc j) e more = onto (more j e)

-- each stands once among them
pub number_once : {A : Type 0} (p : A → Bool) (xs : List A) (b i j n : ℕ) → slice_get (numbers_of p b xs) i ≡ Some n → slice_get (numbers_of p b xs) j ≡ Some n → i ≡ j
number_once p [] b i j n e f = absurd (none-some n e)
number_once {A} p (x ∷ xs) b i j n e f = pick (p x) i j e f (λ i j. number_once p xs (b + 1) i j n) where
  above : (i : ℕ) → slice_get (numbers_of p (b + 1) xs) i ≡ Some n → b ≡ n → ⊥
  above i e s = let q = number_passes p xs (b + 1) i n e in let r : n ≡ b + 1 + q.0 = q.1 in omega (arith, s, r)

  pick : (t : Bool) (i j : ℕ) → slice_get (map (λ x. x.0) (cond t ((b, x) ∷ filter (λ x. p x.1) (enumerate_from (b + 1) xs)) (filter (λ x. p x.1) (enumerate_from (b + 1) xs)))) i ≡ Some n →
      slice_get (map (λ x. x.0) (cond t ((b, x) ∷ filter (λ x. p x.1) (enumerate_from (b + 1) xs)) (filter (λ x. p x.1) (enumerate_from (b + 1) xs)))) j ≡ Some n →
      ((i j : ℕ) → slice_get (numbers_of p (b + 1) xs) i ≡ Some n → slice_get (numbers_of p (b + 1) xs) j ≡ Some n → i ≡ j) → i ≡ j
  pick false i j e f more = more i j e f
  pick true zero zero e f more = refl
  pick true zero (suc j) e f more = absurd (above j f (same_Some b n e))
  pick true (suc i) zero e f more = absurd (above i e (same_Some b n f))
  pick true (suc i) (suc j) e f more = ap (λ z. suc z) (more i j e f)

-- a place that a point names is of the point's kind
pub found_kind : (xs : List Place) (kind : PlaceKind) (k n : ℕ) → find_place xs kind k ≡ Some n → kind_at xs n ≡ kind
found_kind xs kind zero n e = absurd (none-some n e)
found_kind xs kind (suc k) n e =
    let q = number_passes (λ x. is_kind kind (kind_of x.act)) xs 0 k n e in
    let is : q.0 ≡ n = (let s : n ≡ 0 + q.0 = q.1 in omega (arith, s)) in
    ap (λ i. kind_at xs i) (sym is) ∙ (ap (λ o. kind_of (nowhere o).act) q.2.1 ∙ sym (same_kind kind (kind_of q.2.0.act) q.2.2))

found_once : (xs : List Place) (kind : PlaceKind) (k m n : ℕ) → find_place xs kind k ≡ Some n → find_place xs kind m ≡ Some n → k ≡ m
found_once xs kind zero m n e f = absurd (none-some n e)
found_once xs kind (suc k) zero n e f = absurd (none-some n f)
found_once xs kind (suc k) (suc m) n e f = ap (λ z. suc z) (number_once (λ x. is_kind kind (kind_of x.act)) xs 0 k m n e f)

-- points are the same exactly where their places are
pub same_place : (f : LFunction) (p q : Pt) (n m : ℕ) → place_of f p ≡ Some n → place_of f q ≡ Some m → (is_kind p.kind q.kind && p.number == q.number) ≡ (n == m)
same_place f p q n m a b = pick (is_kind p.kind q.kind) refl where
  number : n ≡ m → p.kind ≡ q.kind → p.number ≡ q.number
  number s t = found_once (places f) p.kind p.number q.number n a (ap (λ z. find_place (places f) z q.number) t ∙ (b ∙ ap (λ z. Some z) (sym s)))

  place : p.kind ≡ q.kind → p.number ≡ q.number → n ≡ m
  place s t = same_Some n m (sym a ∙ (ap (λ z. find_place (places f) z p.number) s ∙ (ap (λ z. find_place (places f) q.kind z) t ∙ b)))

  cases : p.kind ≡ q.kind → (t : Bool) → (n == m) ≡ t → (p.number == q.number) ≡ t
  cases s true t = eq-eqb p.number q.number (number (eqb-true n m t) s)
  cases s false t = ne_eqb p.number q.number (λ r. both_ways (n == m) t (eq-eqb n m (place s r)))

  apart : is_kind p.kind q.kind ≡ false → n ≡ m → ⊥
  apart off s =
      let here : p.kind ≡ q.kind = sym (found_kind (places f) p.kind p.number n a) ∙ (ap (λ z. kind_at (places f) z) s ∙ found_kind (places f) q.kind q.number m b) in
      both_ways (is_kind p.kind q.kind) off (ap (λ z. is_kind p.kind z) (sym here) ∙ own_kind p.kind)

  pick : (t : Bool) → is_kind p.kind q.kind ≡ t → (t && p.number == q.number) ≡ (n == m)
  pick true s = cases (same_kind p.kind q.kind s) (n == m) refl
  pick false s = sym (ne_eqb n m (apart s))
