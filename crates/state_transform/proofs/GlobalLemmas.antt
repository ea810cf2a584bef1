-- The values of an array that grows or shrinks, one further.
use Rattle.std.proofs.Common.{◌≡◌, ℕ, ◌+◌, ◌-◌, ℤ, pos, List, [], ◌∷◌, ◌++◌, length, take, replicate, slice_index_or, zero, suc, sym, ◌∙◌, ap, arith}
use Rattle.std.proofs.lemmas.List.{replicate_more}
use Rattle.c_tree.specs.MapGlobals.{resized}

longer : (n : ℕ) (x : ℤ) (xs : List ℤ) → resized (suc n) (x ∷ xs) ≡ x ∷ resized n xs
longer n x xs = let e : suc n - suc (length xs) ≡ n - length xs = omega arith in ap (λ m. x ∷ (take n xs ++ replicate m (pos 0))) e

next : (n : ℕ) (xs : List ℤ) → resized (suc n) xs ≡ resized n xs ++ slice_index_or xs n (pos 0) ∷ []
next zero [] = let a : suc 0 - 0 ≡ 1 = omega arith in let b : 0 ≡ 0 - 0 = omega arith in ap (λ m. replicate m (pos 0)) a ∙ ap (λ m. replicate m (pos 0) ++ pos 0 ∷ []) b
next (suc n) [] =
    let a : suc (suc n) - 0 ≡ suc n + 1 = omega arith in
    let b : suc n ≡ suc n - 0 = omega arith in
    ap (λ m. replicate m (pos 0)) a ∙ (sym (replicate_more (suc n) (pos 0)) ∙ ap (λ m. replicate m (pos 0) ++ pos 0 ∷ []) b)
next zero (x ∷ xs) =
    let a : suc 0 - suc (length xs) ≡ 0 = omega arith in
    let b : 0 ≡ 0 - suc (length xs) = omega arith in
    ap (λ m. x ∷ replicate m (pos 0)) a ∙ ap (λ m. replicate m (pos 0) ++ x ∷ []) b
next (suc n) (x ∷ xs) = longer (suc n) x xs ∙ (ap (λ ys. x ∷ ys) (next n xs) ∙ sym (ap (λ ys. ys ++ slice_index_or xs n (pos 0) ∷ []) (longer n x xs)))

pub resized_next : (n : ℕ) (xs made more : List ℤ) (v : ℤ) → more ≡ made ++ v ∷ [] → made ≡ resized n xs → v ≡ slice_index_or xs n (pos 0) → more ≡ resized (n + 1) xs
resized_next n xs made more v joined so is =
    let e : suc n ≡ n + 1 = omega arith in
    joined ∙ (ap (λ ys. ys ++ v ∷ []) so ∙ (ap (λ z. resized n xs ++ z ∷ []) is ∙ (sym (next n xs) ∙ ap (λ m. resized m xs) e)))
