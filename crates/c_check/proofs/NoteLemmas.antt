-- Faults that are noted one after the other.
use Rattle.std.proofs.Common.{◌≡◌, ℕ, ◌+◌, ◌<◌, ◌≤◌, List, [], ◌∷◌, ◌++◌, length, get_or, drop, Option, refl, sym, ◌∙◌, ap, subst}
use Rattle.std.specs.Prelude.{Result, IfOk, OnOk}
use Rattle.std.proofs.lemmas.List.{drop_more, drop_all}
use Rattle.c_tree.specs.declared.scope.Fault.{Fault}
use Rattle.c_tree.specs.declared.ty.Ty.{Ty}
use Rattle.c_tree.proofs.FaultLemmas.{with_faults-append}
use Rattle.c_check.specs.Words.{noted}

pub noted-append : (so_far : Option Fault) (xs ys : List Fault) → noted so_far (xs ++ ys) ≡ noted (noted so_far xs) ys
unfolding noted
noted-append so_far xs ys = with_faults-append so_far xs ys

pub noted-none : (so_far : Option Fault) → noted so_far [] ≡ so_far
unfolding noted
noted-none so_far = refl

-- one list after another
pub noted_then : (f f1 f2 : Option Fault) (xs ys : List Fault) → f1 ≡ noted f xs → f2 ≡ noted f1 ys → f2 ≡ noted f (xs ++ ys)
noted_then f f1 f2 xs ys e d = d ∙ (ap (λ g. noted g ys) e ∙ sym (noted-append f xs ys))

-- a loop that notes what it finds at each item of a list, one further and at its end
pub loop_step : {X : Type 0} (whole : List X → List Fault) (one : X → List Fault) (xs : List X) (i : ℕ) (x : X) (f1 f2 : Option Fault) → ((rest : List X) → whole (x ∷ rest) ≡ one x ++ whole rest) →
    i < length xs → x ≡ get_or xs i x → f2 ≡ noted f1 (one x) → noted f1 (whole (drop i xs)) ≡ noted f2 (whole (drop (i + 1) xs))
loop_step whole one xs i x f1 f2 more lt here done =
    ap (λ zs. noted f1 (whole zs)) (drop_more xs i x lt ∙ ap (λ z. z ∷ drop (i + 1) xs) (sym here))
    ∙ (ap (noted f1) (more (drop (i + 1) xs)) ∙ (noted-append f1 (one x) (whole (drop (i + 1) xs)) ∙ ap (λ f. noted f (whole (drop (i + 1) xs))) (sym done)))

pub loop_end : {X : Type 0} (whole : List X → List Fault) (xs : List X) (i : ℕ) (f : Option Fault) → whole [] ≡ [] → length xs ≤ i → noted f (whole (drop i xs)) ≡ f
loop_end whole xs i f none le = ap (λ zs. noted f (whole zs)) (drop_all i xs le) ∙ (ap (noted f) none ∙ noted-none f)

pub ruleset noting = (noted-append, noted-none)

-- what an outcome says of a type and of faults, said of others that are the same
pub told_by : {E : Type 0} {a b : Option Ty} (r : Result (Option Ty) E) → a ≡ b → IfOk r (λ t. t ≡ b) → IfOk r (λ t. t ≡ a)
told_by r is e = subst (λ x. IfOk r (λ t. t ≡ x)) (sym is) e

pub noted_by : {A E : Type 0} {xs ys : List Fault} (r : Result A E) (f1 f2 : Option Fault) → xs ≡ ys → OnOk r (f2 ≡ noted f1 ys) → OnOk r (f2 ≡ noted f1 xs)
noted_by r f1 f2 is e = subst (λ zs. OnOk r (f2 ≡ noted f1 zs)) (sym is) e

pub noted_after : {A E : Type 0} {zs : List Fault} (xs ys : List Fault) (r : Result A E) (f1 f2 f3 : Option Fault) → zs ≡ xs ++ ys → f2 ≡ noted f1 xs → OnOk r (f3 ≡ noted f2 ys) → OnOk r (f3 ≡ noted f1 zs)
noted_after xs ys r f1 f2 f3 is first second =
    subst (λ fs. OnOk r (f3 ≡ noted f1 fs)) (sym is) (subst (λ f. OnOk r (f3 ≡ f)) (sym (noted-append f1 xs ys)) (subst (λ f. OnOk r (f3 ≡ noted f ys)) first second))
