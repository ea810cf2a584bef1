-- Where the rebuilding part of a call is found among a function's calls.
use Rattle.std.proofs.Common.{◌≡◌, ◌≢◌, ℕ, zero, suc, ◌+◌, ◌<◌, ◌≤◌, ◌==◌, Bool, false, List, [], ◌∷◌, ◌++◌, length, refl, sym, ap, ◌∙◌, subst, arith, eq-eqb, ne_eqb}
use Rattle.std.specs.Prelude.{⊤, slice_index_or, if◌then◌else◌}
use Rattle.c_tree.specs.declared.lifted.LFunction.{LFunction}
use Rattle.c_tree.specs.declared.lifted.LStmt.TheVariants as s
use Rattle.c_tree.specs.declared.lifted.Lifted.{Lifted}
use Rattle.c_tree.specs.declared.place.Act.{Act}
use Rattle.c_tree.specs.declared.place.Act.TheVariants.{Do}
use Rattle.c_tree.specs.declared.place.Place.{Place}
use Rattle.c_tree.specs.Layout.{places}
use Rattle.target_code.specs.declared.code.CallSpot.{CallSpot}
use Rattle.target_code.specs.Code.{TargetCode, IsCode, Called, called_at, called_in, calls_of, spots, functions_code, marks, last_of, part_size}
use Rattle.target_code.specs.Machine.{function_in, part_at, no_code}
use Rattle.thread_machine.specs.Rebuilt.{no_call, place_at, AreAscending, StandsAt}

-- calls are ascending by place, from this place on
abbrev AscendFrom : ℕ → List CallSpot → Type 0
AscendFrom n [] = ⊤
AscendFrom n (c ∷ rest) = (n ≤ c.place) × AscendFrom (c.place + 1) rest

from_before : (n m : ℕ) (cs : List CallSpot) → n ≤ m → AscendFrom m cs → AscendFrom n cs
from_before n m [] le h = tt
from_before n m (c ∷ rest) le h = (omega (arith, le, h.0), h.1)

at_least : (n : ℕ) (cs : List CallSpot) (k : ℕ) → AscendFrom n cs → k < length cs → n ≤ place_at cs k
at_least n [] k h l = absurd (omega (arith, l))
at_least n (c ∷ rest) zero h l = h.0
at_least n (c ∷ rest) (suc k) h l =
    let r = at_least (c.place + 1) rest k h.1 (omega (arith, l)) in
    omega (arith, r, h.0)

ascending : (n : ℕ) (cs : List CallSpot) → AscendFrom n cs → AreAscending cs
ascending n [] h j k less l = absurd (omega (arith, l))
ascending n (c ∷ rest) h zero zero less l = absurd (omega (arith, less))
ascending n (c ∷ rest) h (suc j) zero less l = absurd (omega (arith, less))
ascending n (c ∷ rest) h zero (suc k) less l =
    let r = at_least (c.place + 1) rest k h.1 (omega (arith, l)) in
    omega (arith, r)
ascending n (c ∷ rest) h (suc j) (suc k) less l = ascending (c.place + 1) rest h.1 j k (omega (arith, less)) (omega (arith, l))

one_place : (p : Lifted) (at n m : ℕ) (a : Act) (rest : List Called) → ((from : ℕ) → AscendFrom (n + 1) (spots p from rest)) → AscendFrom n (spots p at (called_at n m a ++ rest))
one_place p at n m (Do (s.Call to g args)) rest h = (omega arith, h (at + part_size p g))
one_place p at n m a rest h = from_before n (n + 1) (spots p at rest) (omega arith) (h at)

spots_ascend : (p : Lifted) (at n : ℕ) (ps : List Place) (ms : List ℕ) → AscendFrom n (spots p at (called_in n ps ms))
spots_ascend p at n [] ms = tt
spots_ascend p at n (x ∷ ps) [] = tt
spots_ascend p at n (x ∷ ps) (m ∷ ms) = one_place p at n m x.act (called_in (n + 1) ps ms) (λ from. spots_ascend p from (n + 1) ps ms)

functions_ascend : (p : Lifted) (fs : List LFunction) (from k : ℕ) → AreAscending (slice_index_or (functions_code p from fs) k no_code).calls
functions_ascend p [] from k = ascending 0 [] tt
functions_ascend p (f ∷ rest) from zero = ascending 0 (spots p (last_of f + 3) (calls_of f)) (spots_ascend p (last_of f + 3) 0 (places f) (marks f))
functions_ascend p (f ∷ rest) from (suc k) = functions_ascend p rest _ k

-- the calls of each function are ascending by place
pub calls_ascend : (code : TargetCode) (f : ℕ) → IsCode code → AreAscending (function_in code f).calls
calls_ascend code f coded =
    subst (λ c. AreAscending (function_in c f).calls) (sym coded.is) (functions_ascend coded.program coded.program.functions 0 f)

behind_first : (x : CallSpot) (cs : List CallSpot) (place at : ℕ) → StandsAt (x ∷ cs) place (suc at) → StandsAt cs place at
behind_first x cs place at h = record {
  before = λ k less. h.before (suc k) (omega (arith, less));
  behind = λ k le within. h.behind (suc k) (omega (arith, le)) (omega (arith, within));
}

-- the call that is found at the place
pub part_found : (cs : List CallSpot) (place at : ℕ) (d : CallSpot) → StandsAt cs place at → at < length cs → (slice_index_or cs at d).place ≡ place → (slice_index_or cs at d).rebuild ≡ part_at cs place
part_found [] place at d h within e = absurd (omega (arith, within))
part_found (x ∷ cs) place zero d h within e =
    ap (λ (b : Bool). if b then x.rebuild else part_at cs place) (sym (eq-eqb x.place place e))
part_found (x ∷ cs) place (suc at) d h within e =
    let less : x.place < place = h.before 0 (omega arith) in
    let other : (x.place == place) ≡ false = ne_eqb x.place place (λ q. absurd (omega (arith, less, q))) in
    part_found cs place at d (behind_first x cs place at h) (omega (arith, within)) e
    ∙ ap (λ (b : Bool). if b then x.rebuild else part_at cs place) (sym other)

-- no call has the place
part_missing : (cs : List CallSpot) (place : ℕ) → ((k : ℕ) → k < length cs → place_at cs k ≢ place) → 0 ≡ part_at cs place
part_missing [] place h = refl
part_missing (x ∷ cs) place h =
    let other : (x.place == place) ≡ false = ne_eqb x.place place (h 0 (omega arith)) in
    part_missing cs place (λ k within. h (suc k) (omega (arith, within)))
    ∙ ap (λ (b : Bool). if b then x.rebuild else part_at cs place) (sym other)

pub part_behind : (cs : List CallSpot) (place at : ℕ) → StandsAt cs place at → length cs ≤ at → 0 ≡ part_at cs place
part_behind cs place at h le = part_missing cs place (λ k within e. let r = h.before k (omega (arith, within, le)) in absurd (omega (arith, r, e)))

data Compared (k n : ℕ) : Type 0 where
  less : k < n → Compared k n
  same : k ≡ n → Compared k n
  more : n < k → Compared k n

lt_or : (k n : ℕ) → Compared k n
lt_or zero zero = same refl
lt_or zero (suc n) = less (omega arith)
lt_or (suc k) zero = more (omega arith)
lt_or (suc k) (suc n) = lift (lt_or k n) where
  lift : Compared k n → Compared (suc k) (suc n)
  lift (less h) = less (omega (arith, h))
  lift (same h) = same (ap suc h)
  lift (more h) = more (omega (arith, h))

index_any : (cs : List CallSpot) (k : ℕ) (d e : CallSpot) → k < length cs → slice_index_or cs k e ≡ slice_index_or cs k d
index_any [] k d e h = absurd (omega (arith, h))
index_any (c ∷ cs) zero d e h = refl
index_any (c ∷ cs) (suc k) d e h = index_any cs k d e (omega (arith, h))

pub part_other : (cs : List CallSpot) (place at : ℕ) (d : CallSpot) → AreAscending cs → StandsAt cs place at → at < length cs → (slice_index_or cs at d).place ≢ place → 0 ≡ part_at cs place
part_other cs place at d sorted h within other = part_missing cs place (λ k l. by k l (lt_or k at)) where
  by : (k : ℕ) → k < length cs → Compared k at → place_at cs k ≢ place
  by k l (less q) e = let r = h.before k q in absurd (omega (arith, r, e))
  by k l (same q) e = other (ap (λ (c : CallSpot). c.place) (index_any cs at no_call d within) ∙ ap (λ n. place_at cs n) (sym q) ∙ e)
  by k l (more q) e =
      let r = sorted at k q l in
      let s = h.behind at (omega arith) within in
      absurd (omega (arith, r, s, e))
