-- Texts that are made of parts, one behind the other.
use Rattle.std.proofs.Common.{◌≡◌, ◌∙◌, ℕ, ◌+◌, List, [], ◌∷◌, ◌++◌, refl, sym, ap, map, append_assoc, Result, Ok, Err, OnOk}
use Rattle.std.specs.List.{flat_map, range_with_len}
use Rattle.std.proofs.lemmas.List.Concat.{flat_map-append}
use Rattle.std.proofs.lemmas.List.FromFn.{map-range_with_len_more}

map_same : (xs : List ℕ) → map (λ x. x) xs ≡ xs
map_same [] = refl
map_same (x ∷ xs) = ap (λ l. x ∷ l) (map_same xs)

append_none : (xs : List ℕ) → xs ++ [] ≡ xs
append_none [] = refl
append_none (x ∷ xs) = ap (λ l. x ∷ l) (append_none xs)

-- one number more
range_more : (a n : ℕ) → range_with_len a (n + 1) ≡ range_with_len a n ++ (a + n) ∷ []
range_more a n = sym (map_same (range_with_len a (n + 1))) ∙ map-range_with_len_more (λ x. x) a n (a + n) refl
    ∙ ap (λ xs. xs ++ (a + n) ∷ []) (map_same (range_with_len a n))

-- the text of one number more stands behind the texts so far
pub text_more : (f : ℕ → List ℕ) (a n k : ℕ) (out : List ℕ) → a + n ≡ k → (out ++ flat_map f (range_with_len a n)) ++ f k ≡ out ++ flat_map f (range_with_len a (n + 1))
text_more f a n k out e =
    ap (λ m. (out ++ flat_map f (range_with_len a n)) ++ f m) (sym e)
    ∙ (append_assoc out (flat_map f (range_with_len a n)) (f (a + n))
    ∙ ap (λ t. out ++ t)
    (ap (λ t. flat_map f (range_with_len a n) ++ t) (sym (append_none (f (a + n))))
    ∙ (sym (flat_map-append f (range_with_len a n) ((a + n) ∷ [])) ∙ ap (flat_map f) (sym (range_more a n)))))

-- two parts
pub two_appended : {T E : Type 0} (r : Result T E) (out first last a b : List ℕ) → first ≡ out ++ a → OnOk r (last ≡ first ++ b) → OnOk r (last ≡ out ++ (a ++ b))
two_appended (Ok x) out first last a b e f = f ∙ (ap (λ t. t ++ b) e ∙ append_assoc out a b)
two_appended (Err x) out first last a b e f = tt

-- three parts
pub three_appended : {T E : Type 0} (r : Result T E) (out first second last a b c : List ℕ) → first ≡ out ++ a → second ≡ first ++ b → OnOk r (last ≡ second ++ c)
    → OnOk r (last ≡ out ++ (a ++ (b ++ c)))
three_appended r out first second last a b c e f g =
    two_appended r out first last a (b ++ c) e (two_appended r first second last b c f g)
