-- The numbers of places by kind, and where a call stands.
use Rattle.std.proofs.Common.{◌≡◌, ◌∙◌, ℕ, zero, suc, ◌+◌, ◌<◌, Bool, true, false, cond, List, [], ◌∷◌, ◌++◌, length, get_or, take, map, Some, None, refl, sym, ap, arith, add-one}
use Rattle.std.specs.Prelude.{Option, filter, is_some, slice_get, unwrap_or}
use Rattle.std.specs.List.{enumerate_from}
use Rattle.std.specs.Option.{option_map}
use Rattle.std.proofs.lemmas.Option.{slice_get-map, unwrap_or-slice_get}
use Rattle.c_tree.specs.Compute.{literals}
use Rattle.c_tree.specs.declared.place.Act.{Act}
use Rattle.c_tree.specs.declared.place.Act.TheVariants.{Enter, Do, Finish}
use Rattle.c_tree.specs.declared.place.Follow.TheVariants.{One, Leaves}
use Rattle.c_tree.specs.declared.place.Place.{Place}
use Rattle.c_tree.specs.declared.place.PlaceKind.{PlaceKind}
use Rattle.c_tree.specs.declared.place.PlaceKind.TheVariants as kind
use Rattle.c_tree.specs.declared.lifted.LStmt.TheVariants as s
use Rattle.c_tree.specs.declared.lifted.LFunction.{LFunction}
use Rattle.c_tree.specs.declared.mapping.Pt.{Pt}
use Rattle.c_tree.specs.Layout.{place, places}
use Rattle.c_tree.specs.Points.{nth, kind_of, is_kind, of_kind, kth, place_of, find_place, callee_in, callee_at}
use Rattle.c_tree.specs.Step.{no_function}
use denote.Enum.Bare.{sameb}
use Rattle.c_tree.specs.contracts.place.PlaceKind.{the_type}
use Rattle.c_tree.proofs.PointLemmas.{same_kind}
use Rattle.map_entries.specs.Numbers.{numbers_of}

-- the numbers of the places of a kind, where the first of the list has the number m
abbrev from : PlaceKind → ℕ → List Place → List ℕ
from kind m ps = map (λ x. x.0) (filter (λ x. is_kind kind (kind_of x.1.act)) (enumerate_from m ps))

-- the numbers of places that carry theirs
abbrev firsts : List (ℕ × Place) → List ℕ
firsts xs = map (λ x. x.0) xs

abbrev kept : PlaceKind → List (ℕ × Place) → List (ℕ × Place)
kept kind xs = filter (λ x. is_kind kind (kind_of x.1.act)) xs

-- one place more
from_more : (kind : PlaceKind) (m : ℕ) (ps : List Place) (n : ℕ) (p : Place) → n < length ps → p ≡ get_or ps n p →
    from kind m (take (suc n) ps) ≡ from kind m (take n ps) ++ cond (is_kind kind (kind_of p.act)) ((m + n) ∷ []) []
from_more kind m [] n p l is = absurd (omega (arith, l))
from_more kind m (q ∷ ps) zero p l is = ap (λ x. from kind m (x ∷ [])) (sym is) ∙ pick (is_kind kind (kind_of p.act)) where
  pick : (b : Bool) → firsts (cond b ((m, p) ∷ []) []) ≡ cond b ((m + 0) ∷ []) []
  pick true = ap (λ i. i ∷ []) (omega arith)
  pick false = refl
from_more kind m (q ∷ ps) (suc n) p l is = pick (is_kind kind (kind_of q.act)) (from_more kind (m + 1) ps n p (omega (arith, l)) is) where
  pick : (b : Bool) → from kind (m + 1) (take (suc n) ps) ≡ from kind (m + 1) (take n ps) ++ cond (is_kind kind (kind_of p.act)) ((m + 1 + n) ∷ []) [] →
      firsts (cond b ((m, q) ∷ kept kind (enumerate_from (m + 1) (take (suc n) ps))) (kept kind (enumerate_from (m + 1) (take (suc n) ps))))
      ≡ firsts (cond b ((m, q) ∷ kept kind (enumerate_from (m + 1) (take n ps))) (kept kind (enumerate_from (m + 1) (take n ps)))) ++ cond (is_kind kind (kind_of p.act)) ((m + suc n) ∷ []) []
  pick true e = ap (λ xs. m ∷ xs) (e ∙ ap (λ i. from kind (m + 1) (take n ps) ++ cond (is_kind kind (kind_of p.act)) (i ∷ []) []) (omega arith))
  pick false e = e ∙ ap (λ i. from kind (m + 1) (take n ps) ++ cond (is_kind kind (kind_of p.act)) (i ∷ []) []) (omega arith)

pub of_kind_more : (kind : PlaceKind) (ps : List Place) (n : ℕ) (p : Place) → n < length ps → p ≡ get_or ps n p →
    of_kind kind (take (n + 1) ps) ≡ of_kind kind (take n ps) ++ cond (is_kind kind (kind_of p.act)) (n ∷ []) []
of_kind_more kind ps n p l is =
    rw add-one (from_more kind 0 ps n p l is ∙ ap (λ i. of_kind kind (take n ps) ++ cond (is_kind kind (kind_of p.act)) (i ∷ []) []) (omega arith))

-- a place is kept or not as its kind is the one asked for
pub kept_more : (asked k : PlaceKind) (r b : Bool) (ps : List Place) (n : ℕ) (p : Place) (xs ys : List ℕ) → n < length ps → p ≡ get_or ps n p → k ≡ kind_of (get_or ps n p).act →
    r ≡ sameb the_type k asked → r ≡ b → xs ≡ of_kind asked (take n ps) → ys ≡ xs ++ cond b (n ∷ []) [] → ys ≡ of_kind asked (take (n + 1) ps)
kept_more asked k r b ps n p xs ys l is kind_is test told so_far more =
    let same : b ≡ is_kind asked (kind_of p.act) = sym told ∙ (test ∙ (same_kind k asked ∙ ap (is_kind asked) (kind_is ∙ ap (λ q. kind_of q.act) (sym is)))) in
    more ∙ (ap (λ zs. zs ++ cond b (n ∷ []) []) so_far ∙ (ap (λ c. of_kind asked (take n ps) ++ cond c (n ∷ []) []) same ∙ sym (of_kind_more asked ps n p l is)))

-- a function that is not there has an entry and a return
abbrev two : List Place
two = place Enter (One 1) ∷ place Finish Leaves ∷ []

none_places : places no_function ≡ two
unfolding literals
none_places = refl

pub none_find : (kind : PlaceKind) (pt : Pt) → pt.kind ≡ kind → place_of no_function pt ≡ find_place two kind pt.number
none_find kind pt e = ap (λ ps. find_place ps pt.kind pt.number) none_places ∙ ap (λ k. find_place two k pt.number) e

pub kth_none : (k : ℕ) → kth [] k ≡ None
kth_none zero = refl
kth_none (suc k) = refl

-- a call is where a function is called
pub callee_is_call : (a : Act) → is_some (callee_in a) ≡ is_kind kind.Call (kind_of a)
callee_is_call (Do (s.Call d f args)) = refl
callee_is_call (Do (s.Lock m)) = refl
callee_is_call (Do (s.Join e)) = refl
callee_is_call _ = refl

-- none is called in a function that is not there
pub none_called : (n : ℕ) → callee_at no_function n ≡ None
none_called n = ap (λ ps. callee_in (nth ps n).act) none_places ∙ pick n where
  pick : (n : ℕ) → callee_in (nth two n).act ≡ None
  pick zero = refl
  pick (suc zero) = refl
  pick (suc (suc n)) = refl

pub outside_called : (fs : List LFunction) (rows : List (List Place)) (f n : ℕ) → rows ≡ map places fs → slice_get rows f ≡ None → None ≡ callee_at (get_or fs f no_function) n
outside_called fs rows f n e h =
    pick (slice_get fs f) (sym (slice_get-map places fs f) ∙ (ap (λ xs. slice_get xs f) (sym e) ∙ h)) ∙ ap (λ g. callee_at g n) (unwrap_or-slice_get fs f no_function) where
      pick : (o : Option LFunction) → option_map places o ≡ None → None ≡ callee_at (unwrap_or o no_function) n
      pick None h = sym (none_called n)
      pick (Some x) h = absurd (let no : ⊥ = cc in no)

pub each_numbers : (fs : List LFunction) → map numbers_of (map places fs) ≡ map (λ f. numbers_of (places f)) fs
each_numbers [] = refl
each_numbers (f ∷ fs) = ap (λ rest. numbers_of (places f) ∷ rest) (each_numbers fs)
