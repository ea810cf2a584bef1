-- Operands as the end of a slice.
use Rattle.std.proofs.Common.{◌≡◌, ℕ, zero, suc, ◌+◌, ◌-◌, ◌≤◌, ℤ, List, [], ◌∷◌, ◌++◌, length, reverse, take, drop, refl, sym, ap, ◌∙◌, arith}
use Rattle.std.proofs.lemmas.List.{take-append-drop, reverse-append, length-reverse, length-drop, length-take-le, drop-take, take_all, drop_all}
use Rattle.std.proofs.Math.Seq.{take-append_seam, drop-append_seam}
use Rattle.thread_turns.specs.Now.{operands}

take_take : {A : Type 0} (m n : ℕ) (xs : List A) → m ≤ n → take m (take n xs) ≡ take m xs
take_take zero n xs h = refl
take_take (suc m) zero xs h = absurd (omega (arith, h))
take_take (suc m) (suc n) [] h = refl
take_take (suc m) (suc n) (x ∷ xs) h = ap (λ l. x ∷ l) (take_take m n xs (omega (arith, h)))

twice : {A : Type 0} (xs : List A) → reverse (reverse xs) ≡ xs
twice [] = refl
twice (x ∷ xs) = ap reverse (reverse-append (x ∷ []) xs) ∙ (reverse-append (reverse xs) (x ∷ []) ∙ ap (λ l. x ∷ l) (twice xs))

length_operands : (d : ℕ) (ws : List ℤ) → d ≤ length ws → length (operands d ws) ≡ d
length_operands d ws h = length-reverse (take d ws) ∙ length-take-le d ws h

-- the last k of d words
abbrev end : ℕ → ℕ → List ℤ → List ℤ
end d k ws = drop (d - k) (take d ws)

split : (d k : ℕ) (ws : List ℤ) → k ≤ d → operands d ws ≡ reverse (end d k ws) ++ operands (d - k) ws
split d k ws h =
    ap reverse (sym (take-append-drop (d - k) (take d ws)))
    ∙ (reverse-append (take (d - k) (take d ws)) (end d k ws)
    ∙ ap (λ l. reverse (end d k ws) ++ reverse l) (take_take (d - k) d ws (omega arith)))

length_end : (d k : ℕ) (ws : List ℤ) → k ≤ d → d ≤ length ws → length (reverse (end d k ws)) ≡ k
length_end d k ws h l =
    let a = length-reverse (end d k ws) in
    let b = length-drop (d - k) (take d ws) in
    let c = length-take-le d ws l in
    omega (arith, a, b, c, h)

-- the top k operands, and those below
top_of_operands : (d k : ℕ) (ws : List ℤ) → k ≤ d → d ≤ length ws → take k (operands d ws) ≡ reverse (end d k ws)
top_of_operands d k ws h l =
    ap (λ xs. take k xs) (split d k ws h)
    ∙ (ap (λ n. take n (reverse (end d k ws) ++ operands (d - k) ws)) (sym (length_end d k ws h l))
    ∙ take-append_seam (reverse (end d k ws)) (operands (d - k) ws))

pub below_operands : (d k : ℕ) (ws : List ℤ) → k ≤ d → d ≤ length ws → drop k (operands d ws) ≡ operands (d - k) ws
below_operands d k ws h l =
    ap (λ xs. drop k xs) (split d k ws h)
    ∙ (ap (λ n. drop n (reverse (end d k ws) ++ operands (d - k) ws)) (sym (length_end d k ws h l))
    ∙ drop-append_seam (reverse (end d k ws)) (operands (d - k) ws))

-- the last k of the first d words are the top k operands, the lowest first
pub last_words : (d k : ℕ) (ws : List ℤ) → k ≤ d → d ≤ length ws → take (d - (d - k)) (drop (d - k) ws) ≡ reverse (take k (operands d ws))
last_words d k ws h l =
    let is : d - (d - k) ≡ k = omega (arith, h) in
    let all : d - k + k ≡ d = omega (arith, h) in
    ap (λ n. take n (drop (d - k) ws)) is
    ∙ (sym (drop-take (d - k) k ws)
    ∙ (ap (λ n. drop (d - k) (take n ws)) all
    ∙ (sym (twice (end d k ws)) ∙ ap reverse (sym (top_of_operands d k ws h l)))))

-- where more are asked than there are, all are given
pub take_many : (d n : ℕ) (ws : List ℤ) → d ≤ n → d ≤ length ws → take n (operands d ws) ≡ take d (operands d ws)
take_many d n ws h l =
    let long = length_operands d ws l in
    take_all n (operands d ws) (omega (arith, long, h)) ∙ sym (take_all d (operands d ws) (omega (arith, long)))

pub drop_many : (d n : ℕ) (ws : List ℤ) → d ≤ n → d ≤ length ws → drop n (operands d ws) ≡ drop d (operands d ws)
drop_many d n ws h l =
    let long = length_operands d ws l in
    drop_all n (operands d ws) (omega (arith, long, h)) ∙ sym (drop_all d (operands d ws) (omega (arith, long)))
