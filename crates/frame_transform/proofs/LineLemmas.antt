-- Lines from their parts.
use Rattle.std.proofs.Common.{◌≡◌, ◌∙◌, ℕ, zero, suc, ◌+◌, List, [], ◌++◌, refl, sym, ap, append_assoc, add-one}
use Rattle.std.specs.Prelude.{Result, Ok, Err, OnOk, codes}
use Rattle.std.proofs.lemmas.List.{append-nil}
use Rattle.frame_transform.specs.Line.{times, line}

pub times-zero : (text : List ℕ) → times 0 text ≡ []
unfolding times
times-zero text = refl

times-suc : (n : ℕ) (text : List ℕ) → times (suc n) text ≡ times n text ++ text
unfolding times
times-suc zero text = append-nil text
times-suc (suc n) text = ap (λ z. text ++ z) (times-suc n text) ∙ sym (append_assoc text (times n text) text)

-- two parts, and three, put one after another
pub two_appended : {T E : Type 0} (res : Result T E) (a b o o1 o2 : List ℕ) → o1 ≡ o ++ a → OnOk res (o2 ≡ o1 ++ b) → OnOk res (o2 ≡ o ++ (a ++ b))
two_appended (Ok x) a b o o1 o2 e1 e2 = e2 ∙ (ap (λ z. z ++ b) e1 ∙ append_assoc o a b)
two_appended (Err x) a b o o1 o2 e1 e2 = tt

pub three_appended : {T E : Type 0} (res : Result T E) (a b c o o1 o2 o3 : List ℕ) → o1 ≡ o ++ a → o2 ≡ o1 ++ b → OnOk res (o3 ≡ o2 ++ c) → OnOk res (o3 ≡ o ++ (a ++ (b ++ c)))
three_appended res a b c o o1 o2 o3 e1 e2 e3 = two_appended res a (b ++ c) o o1 o3 e1 (two_appended res b c o1 o2 o3 e2 e3)

-- one time more
pub times_more : (n : ℕ) (text out : List ℕ) → (out ++ times n text) ++ text ≡ out ++ times (n + 1) text
times_more n text out = rw (add-one n) (append_assoc out (times n text) text ∙ ap (λ z. out ++ z) (sym (times-suc n text)))

pub times-none : (text out : List ℕ) → out ++ times 0 text ≡ out
times-none text out = ap (λ z. out ++ z) (times-zero text) ∙ append-nil out

pub ruleset times_rules = (times_more, times-none)

-- a line is its indentation, its text and a newline
pub line_appended : (depth : ℕ) (text out : List ℕ) → ((out ++ times depth (codes "  ")) ++ text) ++ codes "\n" ≡ out ++ line depth text
unfolding line
line_appended depth text out = append_assoc (out ++ times depth (codes "  ")) text (codes "\n") ∙ append_assoc out (times depth (codes "  ")) (text ++ codes "\n")

pub ruleset line_rules = line_appended
