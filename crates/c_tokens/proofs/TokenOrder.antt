-- Tokens in text order.
use Rattle.std.proofs.Common.{◌≡◌, ℕ, zero, suc, ◌+◌, ◌-◌, ◌<◌, ◌≤◌, List, [], ◌∷◌, length, drop, sym, subst, arith, length-drop}
use Rattle.std.specs.Prelude.{Result, Ok, Err, IfOk, All}
use Rattle.std.proofs.lemmas.List.Elements.{All-nil, All-cons}
use Rattle.c_tree.specs.declared.token.Token.{Token}
use Rattle.c_tokens.specs.declared.front.Front.{Front}
use Rattle.c_tokens.specs.declared.front.Front.TheVariants as front
use Rattle.c_tokens.specs.Front.{size_of, front_of}
use Rattle.c_tokens.specs.Tokens.{Reading, added, before, tokens_from, tokens_of}
use Rattle.c_tokens.specs.Order.{StandBetween, token_places}
use Rattle.c_tokens.proofs.Sizes.{Fits}
use Rattle.c_tokens.proofs.Listing.{tokens_step, size_within}
use Rattle.c_tokens.proofs.TextOrder.{further}

Stands : Reading → ℕ → ℕ → Type 0
Stands r from total = IfOk r (λ ts. StandBetween from (token_places ts) total)

before_stands : (f : Front) (at total : ℕ) (more : Reading) → Fits (size_of f) (total - at) → Stands more (at + size_of f) total → Stands (before (added at f) more) at total
unfolding Stands
before_stands (front.Fault why) at total more fits stands = tt
before_stands front.End at total (Err why) fits stands = tt
before_stands front.Blank at total (Err why) fits stands = tt
before_stands (front.Comment n) at total (Err why) fits stands = tt
before_stands (front.Token k n) at total (Err why) fits stands = tt
before_stands front.End at total (Ok ts) fits stands = further at (at + 0) (token_places ts) total (omega arith) stands
before_stands front.Blank at total (Ok ts) fits stands = further at (at + 1) (token_places ts) total (omega arith) stands
before_stands (front.Comment n) at total (Ok ts) fits stands = further at (at + n) (token_places ts) total (omega arith) stands
before_stands (front.Token k n) at total (Ok ts) fits stands = (omega arith, fits.some, stands)

stands_step : (at : ℕ) (bytes : List ℕ) → 0 < length bytes
    → Stands (tokens_from (at + size_of (front_of bytes)) 0 (drop (size_of (front_of bytes)) bytes)) (at + size_of (front_of bytes)) (at + size_of (front_of bytes) + length (drop (size_of (front_of bytes)) bytes))
    → Stands (tokens_from at 0 bytes) at (at + length bytes)
stands_step at bytes some stands =
    let f = front_of bytes in
    let fits = size_within bytes some in
    let rest = tokens_from (at + size_of f) 0 (drop (size_of f) bytes) in
    let same : at + size_of f + length (drop (size_of f) bytes) ≡ at + length bytes = omega (arith, length-drop (size_of f) bytes, fits.within) in
    let left : at + length bytes - at ≡ length bytes = omega arith in
    subst (λ r. Stands r at (at + length bytes)) (sym (tokens_step at bytes some))
    (before_stands f at (at + length bytes) rest (rw left fits) (subst (λ total. Stands rest (at + size_of f) total) same stands))

stands_from : (most at : ℕ) (bytes : List ℕ) → length bytes ≤ most → Stands (tokens_from at 0 bytes) at (at + length bytes)
unfolding tokens_from Stands
stands_from most at [] few = omega arith
stands_from zero at (b ∷ rest) few = absurd (omega arith)
stands_from (suc most) at (b ∷ rest) few =
    let bytes = b ∷ rest in
    let f = front_of bytes in
    let fits = size_within bytes (omega arith) in
    stands_step at bytes (omega arith) (stands_from most (at + size_of f) (drop (size_of f) bytes) (omega (arith, length-drop (size_of f) bytes, fits.some)))

from_start : (n : ℕ) → 0 + n ≡ n
from_start n = omega arith

stands : (bytes : List ℕ) → Stands (tokens_of bytes) 0 (length bytes)
stands bytes = subst (Stands (tokens_of bytes) 0) (from_start (length bytes)) (stands_from (length bytes) 0 bytes (omega arith))

of_tokens : (r : Reading) (ts : List Token) (total : ℕ) → r ≡ Ok ts → Stands r 0 total → StandBetween 0 (token_places ts) total
unfolding Stands
of_tokens r ts total is stand = rw is at stand

pub result_order : {E : Type 0} (r : Result (List Token) E) (bytes : List ℕ) → IfOk r (λ ts. tokens_of bytes ≡ Ok ts) → IfOk r (λ ts. StandBetween 0 (token_places ts) (length bytes))
result_order (Err e) bytes is = tt
result_order (Ok ts) bytes is = of_tokens (tokens_of bytes) ts (length bytes) is (stands bytes)

ends_within : (from : ℕ) (xs : List (ℕ × ℕ)) (to : ℕ) → StandBetween from xs to → from ≤ to
ends_within from [] to stand = stand
ends_within from (x ∷ xs) to stand = omega (arith, stand.0, ends_within (x.0 + x.1) xs to stand.2)

all_within : (from : ℕ) (ts : List Token) (to : ℕ) → StandBetween from (token_places ts) to → All (λ (t : Token). t.at + t.len ≤ to) ts
all_within from [] to stand = All-nil (λ (t : Token). t.at + t.len ≤ to)
all_within from (t ∷ ts) to stand = All-cons (λ (u : Token). u.at + u.len ≤ to) t ts (ends_within (t.at + t.len) (token_places ts) to stand.2) (all_within (t.at + t.len) ts to stand.2)

pub result_within : {E : Type 0} (r : Result (List Token) E) (bytes : List ℕ) → IfOk r (λ ts. tokens_of bytes ≡ Ok ts) → IfOk r (All (λ (t : Token). t.at + t.len ≤ length bytes))
result_within (Err e) bytes is = tt
result_within (Ok ts) bytes is = all_within 0 ts (length bytes) (result_order {E = ℕ} (Ok ts) bytes is)
