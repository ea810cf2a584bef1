-- Where instructions that can't fail lead to a mark, no more lead there than the body has.
use Rattle.std.proofs.Common.{◌≡◌, ◌≤◌, ◌<◌, ◌⊎◌, inl, inr, ℕ, zero, suc, ◌+◌, List, [], ◌∷◌, length, Some, Bool, true, false, ◌||◌, refl, sym, ap, ◌∙◌, subst}
use Rattle.std.specs.Prelude.{slice_get}
use Rattle.std.specs.List.{AllByRecursion, IsDistinct, list_any}
use Rattle.std.proofs.Math.Dec.{eqb}
use Rattle.std.proofs.lemmas.Bool.Decides.{eqb_tells}
use Rattle.std.proofs.lemmas.Map.Steps.{length-le_from_distinct_below}
use Rattle.std.proofs.lemmas.Option.{slice_get_cases, slice_get_within}
use Rattle.target_code.specs.declared.instr.Instr.{Instr}
use Rattle.target_code.specs.declared.instr.Instr.TheVariants as i
use Rattle.target_laws.specs.Effects.{Arrives, IsCalm, IsMark}

-- from a position one calm instruction or jump leads to the next one
abbrev IsNext : List Instr → ℕ → ℕ → Type 0
IsNext body at next = (IsCalm (slice_get body at) × (next ≡ at + 1)) ⊎ (slice_get body at ≡ Some (i.Jump next))

-- such instructions at these positions lead to a mark
abbrev Trail : List Instr → List ℕ → ℕ → Type 0
Trail body [] at = IsMark (slice_get body at)
Trail body (p ∷ ps) at = (p ≡ at) × ((next : ℕ) × IsNext body at next × Trail body ps next)

-- a trail that comes to no position twice
abbrev Distinct : List Instr → ℕ → Type 0
Distinct body at = (ps : List ℕ) × Trail body ps at × IsDistinct eqb ps

-- what is left of a trail from a position on it
from_there : (body : List Instr) (ps : List ℕ) (next at : ℕ) → Trail body ps next → IsDistinct eqb ps → list_any (eqb at) ps ≡ true → Distinct body at
unfolding IsDistinct
from_there body [] next at t d h = absurd (let z : false ≡ true = h in cc)
from_there body (p ∷ ps) next at t d h = elim (eqb_tells at p) [
  | inl q ↦ (p ∷ ps, subst (λ n. Trail body (p ∷ ps) n) (sym (q.1 ∙ t.0)) t, d)
  | inr q ↦ from_there body ps t.1.0 at t.1.2 d.1 (sym (ap (λ b. b || list_any (eqb at) ps) q.0) ∙ h)
]

-- a position that is on no trail is none of its positions
apart : (at : ℕ) (ps : List ℕ) → list_any (eqb at) ps ≡ false → AllByRecursion (λ y. eqb at y ≡ false) ps
apart at [] h = tt
apart at (p ∷ ps) h = elim (eqb_tells at p) [
  | inl q ↦ absurd (let z : true ≡ false = sym (ap (λ b. b || list_any (eqb at) ps) q.0) ∙ h in cc)
  | inr q ↦ (q.0, apart at ps (sym (ap (λ b. b || list_any (eqb at) ps) q.0) ∙ h))
]

-- one position more before a trail
extend : (body : List Instr) (at next : ℕ) (b : Bool) → (ps : List ℕ) → list_any (eqb at) ps ≡ b → IsNext body at next → Trail body ps next → IsDistinct eqb ps → Distinct body at
unfolding IsDistinct
extend body at next true ps e n t d = from_there body ps next at t d e
extend body at next false ps e n t d = (at ∷ ps, (refl, (next, n, t)), (apart at ps e, d))

to_trail : (body : List Instr) (k at : ℕ) → Arrives body k at → Distinct body at
unfolding IsDistinct
to_trail body zero at h = ([], h, tt)
to_trail body (suc k) at (inl h) =
    let q = to_trail body k (at + 1) h.1 in
    extend body at (at + 1) _ q.0 refl (inl (h.0, refl)) q.1 q.2
to_trail body (suc k) at (inr h) =
    let q = to_trail body k h.0 h.2 in
    extend body at h.0 _ q.0 refl (inr h.1) q.1 q.2

arrives_next : (body : List Instr) (k at next : ℕ) → IsNext body at next → Arrives body k next → Arrives body (suc k) at
arrives_next body k at next (inl n) h = inl (n.0, subst (λ p. Arrives body k p) n.1 h)
arrives_next body k at next (inr n) h = inr (next, n, h)

of_trail : (body : List Instr) (ps : List ℕ) (at : ℕ) → Trail body ps at → Arrives body (length ps) at
of_trail body [] at t = t
of_trail body (p ∷ ps) at t = arrives_next body (length ps) at t.1.0 t.1.1 (of_trail body ps t.1.0 t.1.2)

calm_within : (body : List Instr) (at : ℕ) → IsCalm (slice_get body at) → at < length body
calm_within body at c = elim (slice_get_cases body at).1 [
  | inl q ↦ q.1
  | inr q ↦ absurd (subst IsCalm q.1 c)
]

next_within : (body : List Instr) (at next : ℕ) → IsNext body at next → at < length body
next_within body at next (inl n) = calm_within body at n.0
next_within body at next (inr n) = slice_get_within body at _ n

below : (body : List Instr) (ps : List ℕ) (at q : ℕ) → Trail body ps at → list_any (eqb q) ps ≡ true → q < length body
below body [] at q t h = absurd (let z : false ≡ true = h in cc)
below body (p ∷ ps) at q t h = elim (eqb_tells q p) [
  | inl s ↦ subst (λ n. n < length body) (sym (s.1 ∙ t.0)) (next_within body at t.1.0 t.1.1)
  | inr s ↦ below body ps t.1.0 q t.1.2 (sym (ap (λ b. b || list_any (eqb q) ps) s.0) ∙ h)
]

-- no more instructions than the body has lead to the mark
pub arrives_soon : (body : List Instr) (k at : ℕ) → Arrives body k at → (j : ℕ) × (j ≤ length body) × Arrives body j at
arrives_soon body k at h =
    let q = to_trail body k at h in
    (length q.0, length-le_from_distinct_below q.0 (length body) q.2 (λ n e. below body q.0 at n q.1 e), of_trail body q.0 at q.1)
