-- Places by their kind and their number among those of the kind.
use Rattle.std.proofs.Common.{◌≡◌, ◌⊎◌, ℕ, zero, suc, ◌+◌, ◌<◌, ◌≤◌, Bool, true, false, cond, List, [], ◌∷◌, length, get_or, take, map, Some, None, refl, sym, ap, ◌∙◌, inl, inr, arith, add-one, zero-add}
use Rattle.std.specs.Prelude.{filter, count_by, slice_get}
use Rattle.std.specs.List.{enumerate_from}
use Rattle.std.proofs.lemmas.List.Sums.{length-filter}
use Rattle.std.proofs.lemmas.Option.{slice_get-get_or, slice_get_past}
use Rattle.std.proofs.lemmas.List.{take_all}
use denote.Enum.Bare.{sameb}
use Rattle.c_tree.specs.contracts.place.PlaceKind.{the_type}
use Rattle.c_tree.specs.declared.place.Place.{Place}
use Rattle.c_tree.specs.declared.place.PlaceKind.{PlaceKind}
use Rattle.c_tree.specs.declared.place.PlaceKind.TheVariants as kind
use Rattle.c_tree.specs.Layout.{nowhere}
use Rattle.c_tree.specs.Points.{nth, kind_of, kind_at, is_kind, before, number_of, of_kind, find_place}

pub is_kind_same : (a : PlaceKind) → is_kind a a ≡ true
is_kind_same kind.Entry = refl
is_kind_same kind.LoopEnd = refl
is_kind_same kind.Block = refl
is_kind_same kind.Call = refl
is_kind_same kind.Plain = refl

pub is_kind-true : (a b : PlaceKind) → is_kind a b ≡ true → b ≡ a
is_kind-true kind.Entry kind.Entry e = refl
is_kind-true kind.Entry kind.LoopEnd e = cc
is_kind-true kind.Entry kind.Block e = cc
is_kind-true kind.Entry kind.Call e = cc
is_kind-true kind.Entry kind.Plain e = cc
is_kind-true kind.LoopEnd kind.Entry e = cc
is_kind-true kind.LoopEnd kind.LoopEnd e = refl
is_kind-true kind.LoopEnd kind.Block e = cc
is_kind-true kind.LoopEnd kind.Call e = cc
is_kind-true kind.LoopEnd kind.Plain e = cc
is_kind-true kind.Block kind.Entry e = cc
is_kind-true kind.Block kind.LoopEnd e = cc
is_kind-true kind.Block kind.Block e = refl
is_kind-true kind.Block kind.Call e = cc
is_kind-true kind.Block kind.Plain e = cc
is_kind-true kind.Call kind.Entry e = cc
is_kind-true kind.Call kind.LoopEnd e = cc
is_kind-true kind.Call kind.Block e = cc
is_kind-true kind.Call kind.Call e = refl
is_kind-true kind.Call kind.Plain e = cc
is_kind-true kind.Plain kind.Entry e = cc
is_kind-true kind.Plain kind.LoopEnd e = cc
is_kind-true kind.Plain kind.Block e = cc
is_kind-true kind.Plain kind.Call e = cc
is_kind-true kind.Plain kind.Plain e = refl

-- the test of a place, and of a place with its number
abbrev test : PlaceKind → Place → Bool
test kind p = is_kind kind (kind_of p.act)

-- the places of a kind, where the first of the list has the number n
abbrev from : PlaceKind → ℕ → List Place → List ℕ
from kind n ps = map (λ x. x.0) (filter (λ x. is_kind kind (kind_of x.1.act)) (enumerate_from n ps))

length-from : (kind : PlaceKind) (n : ℕ) (ps : List Place) → length (from kind n ps) ≡ length (filter (test kind) ps)
length-from kind n [] = refl
length-from kind n (p ∷ ps) = pick (test kind p) (length-from kind (n + 1) ps) where
  pick : (b : Bool) → length (from kind (n + 1) ps) ≡ length (filter (test kind) ps) →
      length (map (λ x. x.0) (cond b ((n, p) ∷ filter (λ x. is_kind kind (kind_of x.1.act)) (enumerate_from (n + 1) ps)) (filter (λ x. is_kind kind (kind_of x.1.act)) (enumerate_from (n + 1) ps)))) ≡ length (cond b (p ∷ filter (test kind) ps) (filter (test kind) ps))
  pick true e = ap suc e
  pick false e = e

-- a place stands behind those of its kind before it
pub at_number : (kind : PlaceKind) (n : ℕ) (ps : List Place) (i : ℕ) → i < length ps → is_kind kind (kind_at ps i) ≡ true → slice_get (from kind n ps) (length (filter (test kind) (take i ps))) ≡ Some (n + i)
at_number kind n [] i l e = absurd (omega (arith, l))
at_number kind n (p ∷ ps) zero l e = ap (λ b. slice_get (map (λ x. x.0) (cond b ((n, p) ∷ filter (λ x. is_kind kind (kind_of x.1.act)) (enumerate_from (n + 1) ps)) (filter (λ x. is_kind kind (kind_of x.1.act)) (enumerate_from (n + 1) ps)))) 0) e ∙ ap Some (omega arith)
at_number kind n (p ∷ ps) (suc i) l e = pick (test kind p) (at_number kind (n + 1) ps i (omega (arith, l)) e ∙ ap Some (omega arith)) where
  pick : (b : Bool) → slice_get (from kind (n + 1) ps) (length (filter (test kind) (take i ps))) ≡ Some (n + suc i) →
      slice_get (map (λ x. x.0) (cond b ((n, p) ∷ filter (λ x. is_kind kind (kind_of x.1.act)) (enumerate_from (n + 1) ps)) (filter (λ x. is_kind kind (kind_of x.1.act)) (enumerate_from (n + 1) ps)))) (length (cond b (p ∷ filter (test kind) (take i ps)) (filter (test kind) (take i ps)))) ≡ Some (n + suc i)
  pick true e = e
  pick false e = e

-- what a number of the list says
pub record Stands (kind : PlaceKind) (n : ℕ) (ps : List Place) (j m : ℕ) : Type 0 where
  pub at : ℕ
  pub is : m ≡ n + at
  pub inside : at < length ps
  pub passes : is_kind kind (kind_at ps at) ≡ true
  pub number : length (filter (test kind) (take at ps)) ≡ j

pub stands_at : (kind : PlaceKind) (n : ℕ) (ps : List Place) (j m : ℕ) → slice_get (from kind n ps) j ≡ Some m → Stands kind n ps j m
stands_at kind n [] j m e = absurd (let no : ⊥ = cc in no)
stands_at kind n (p ∷ ps) j m e = pick (test kind p) refl (λ i. stands_at kind (n + 1) ps i m) j e where
  more : (b : Bool) → test kind p ≡ b → (i j : ℕ) → length (cond b (p ∷ filter (test kind) (take i ps)) (filter (test kind) (take i ps))) ≡ j → length (filter (test kind) (take (suc i) (p ∷ ps))) ≡ j
  more b is i j e = ap (λ c. length (cond c (p ∷ filter (test kind) (take i ps)) (filter (test kind) (take i ps)))) is ∙ e

  pick : (b : Bool) → test kind p ≡ b → ((i : ℕ) → slice_get (from kind (n + 1) ps) i ≡ Some m → Stands kind (n + 1) ps i m) → (j : ℕ) →
      slice_get (map (λ x. x.0) (cond b ((n, p) ∷ filter (λ x. is_kind kind (kind_of x.1.act)) (enumerate_from (n + 1) ps)) (filter (λ x. is_kind kind (kind_of x.1.act)) (enumerate_from (n + 1) ps)))) j ≡ Some m → Stands kind n (p ∷ ps) j m
  pick true is behind zero e = let same : m ≡ n = cc in record { at = 0; is = omega (arith, same); inside = omega arith; passes = is; number = refl }
  pick true is behind (suc j) e =
      let r = behind j e in
      record { at = suc r.at; is = omega (arith, r.is); inside = omega (arith, r.inside); passes = r.passes; number = more true is r.at (suc j) (ap suc r.number) }
  pick false is behind j e =
      let r = behind j e in
      record { at = suc r.at; is = omega (arith, r.is); inside = omega (arith, r.inside); passes = r.passes; number = more false is r.at j r.number }

-- the number of a place leads back to it
pub find_number : (ps : List Place) (kind : PlaceKind) (n : ℕ) → n < length ps → is_kind kind (kind_at ps n) ≡ true → find_place ps kind (before kind ps n + 1) ≡ Some n
find_number ps kind n l e =
    rw (add-one, sym (length-filter (test kind) (take n ps))) (at_number kind 0 ps n l e ∙ ap Some (zero-add n))

pub find_number_of : (ps : List Place) (n : ℕ) → n < length ps → find_place ps (kind_at ps n) (number_of ps n) ≡ Some n
find_number_of ps n l = find_number ps (kind_at ps n) n l (is_kind_same (kind_at ps n))

-- a place that is found has the kind and the number
pub number_found : (ps : List Place) (kind : PlaceKind) (k n : ℕ) → find_place ps kind k ≡ Some n → (n < length ps) × (kind_at ps n ≡ kind) × (number_of ps n ≡ k)
number_found ps kind zero n e = absurd (let no : ⊥ = cc in no)
number_found ps kind (suc k) n e =
    let s = stands_at kind 0 ps k n e in
    let is : n ≡ s.at = omega (arith, s.is) in
    let same : kind_at ps n ≡ kind = ap (λ i. kind_at ps i) is ∙ is_kind-true kind (kind_at ps s.at) s.passes in
    let number : before kind ps n ≡ k = ap (λ i. before kind ps i) is ∙ (sym (length-filter (test kind) (take s.at ps)) ∙ s.number) in
    (omega (arith, is, s.inside), same, ap (λ x. before x ps n + 1) same ∙ omega (arith, number))

pub place_of : (ps : List Place) (n : ℕ) (p : Place) → n < length ps → p ≡ get_or ps n p → nth ps n ≡ p
place_of ps n p l is = ap nowhere (slice_get-get_or ps n p l) ∙ sym is

pub found_here : (ps : List Place) (kind : PlaceKind) (k seen n : ℕ) (p : Place) → n < length ps → p ≡ get_or ps n p → kind_of p.act ≡ kind → seen ≡ before kind ps n → seen + 1 ≡ k → Some n ≡ find_place ps kind k
found_here ps kind k seen n p l is same count here =
    let e : kind_at ps n ≡ kind = ap (λ x. kind_of x.act) (place_of ps n p l is) ∙ same in
    let passes : is_kind kind (kind_at ps n) ≡ true = ap (λ x. is_kind kind x) e ∙ is_kind_same kind in
    sym (find_number ps kind n l passes) ∙ ap (find_place ps kind) (omega (arith, count, here))

pub found_nowhere : (ps : List Place) (kind : PlaceKind) (k seen n : ℕ) → length ps ≤ n → seen ≡ before kind ps n → (k ≡ 0) ⊎ (seen < k) → None ≡ find_place ps kind k
found_nowhere ps kind zero seen n l count h = refl
found_nowhere ps kind (suc k) seen n l count (inl h) = absurd (omega (arith, h))
found_nowhere ps kind (suc k) seen n l count (inr h) =
    let all : before kind ps n ≡ length (filter (test kind) ps) = ap (λ xs. count_by (test kind) xs) (take_all n ps l) ∙ sym (length-filter (test kind) ps) in
    sym (slice_get_past (of_kind kind ps) k (omega (arith, h, count, all, length-from kind 0 ps)))

-- the two tests of a kind agree
pub same_kind : (a b : PlaceKind) → sameb the_type a b ≡ is_kind b a
same_kind kind.Entry kind.Entry = refl
same_kind kind.Entry kind.LoopEnd = refl
same_kind kind.Entry kind.Block = refl
same_kind kind.Entry kind.Call = refl
same_kind kind.Entry kind.Plain = refl
same_kind kind.LoopEnd kind.Entry = refl
same_kind kind.LoopEnd kind.LoopEnd = refl
same_kind kind.LoopEnd kind.Block = refl
same_kind kind.LoopEnd kind.Call = refl
same_kind kind.LoopEnd kind.Plain = refl
same_kind kind.Block kind.Entry = refl
same_kind kind.Block kind.LoopEnd = refl
same_kind kind.Block kind.Block = refl
same_kind kind.Block kind.Call = refl
same_kind kind.Block kind.Plain = refl
same_kind kind.Call kind.Entry = refl
same_kind kind.Call kind.LoopEnd = refl
same_kind kind.Call kind.Block = refl
same_kind kind.Call kind.Call = refl
same_kind kind.Call kind.Plain = refl
same_kind kind.Plain kind.Entry = refl
same_kind kind.Plain kind.LoopEnd = refl
same_kind kind.Plain kind.Block = refl
same_kind kind.Plain kind.Call = refl
same_kind kind.Plain kind.Plain = refl

-- the count of those before a place, one more
pub counted : (ps : List Place) (n count : ℕ) (kind : PlaceKind) (qs : List Place) → kind ≡ kind_at qs n → ps ≡ qs → count ≡ length (filter (test kind) (take n ps)) → count + 1 ≡ number_of qs n
counted ps n count kind qs is same e =
    let b : count ≡ before kind ps n = e ∙ length-filter (test kind) (take n ps) in
    ap (λ x. x + 1) b ∙ (ap (λ x. before x ps n + 1) is ∙ ap (λ xs. before (kind_at qs n) xs n + 1) same)
