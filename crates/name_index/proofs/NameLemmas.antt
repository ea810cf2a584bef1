-- The declarations of a file, one further.
use Rattle.std.proofs.Common.{◌≡◌, ℕ, suc, ◌+◌, ◌<◌, List, [], ◌∷◌, ◌++◌, length, get_or, take, map, refl, sym, ◌∙◌, ap, append_assoc, arith}
use Rattle.std.specs.List.{enumerate_from}
use Rattle.std.proofs.lemmas.List.{take_more, length-take-le}

pub numbered-append : {A B : Type 0} (f : ℕ × A → B) (n : ℕ) (xs : List A) (x : A) →
    map f (enumerate_from n (xs ++ x ∷ [])) ≡ map f (enumerate_from n xs) ++ f (n + length xs, x) ∷ []
numbered-append f n [] x = let e : n ≡ n + 0 = omega arith in ap (λ k. f (k, x) ∷ []) e
numbered-append f n (y ∷ ys) x =
    let e : n + 1 + length ys ≡ n + suc (length ys) = omega arith in
    ap (λ r. f (n, y) ∷ r) (numbered-append f (n + 1) ys x ∙ ap (λ k. map f (enumerate_from (n + 1) ys) ++ f (k, x) ∷ []) e)

-- one declaration more is named
pub named_more : {A B : Type 0} (f : ℕ × A → B) (xs : List A) (i k : ℕ) (x : A) (before named now : List B) → i < length xs → x ≡ get_or xs i x → k ≡ i →
    named ≡ before ++ map f (enumerate_from 0 (take i xs)) → now ≡ named ++ f (k, x) ∷ [] →
    now ≡ before ++ map f (enumerate_from 0 (take (i + 1) xs))
named_more f xs i k x before named now lt here number done more =
    let end : 0 + length (take i xs) ≡ i = let l : length (take i xs) ≡ i = length-take-le i xs (omega arith) in omega (arith, l) in
    more ∙ (ap (λ z. z ++ f (k, x) ∷ []) done ∙ (append_assoc before (map f (enumerate_from 0 (take i xs))) (f (k, x) ∷ [])
    ∙ ap (λ z. before ++ z) (ap (λ n. map f (enumerate_from 0 (take i xs)) ++ f (n, x) ∷ []) (number ∙ sym end)
    ∙ (sym (numbered-append f 0 (take i xs) x)
    ∙ ap (λ z. map f (enumerate_from 0 z)) (ap (λ z. take i xs ++ z ∷ []) here ∙ sym (take_more xs i x lt))))))
