-- Each text reads once.
use Rattle.std.proofs.Common.{◌≡◌, ℕ, zero, suc, ◌+◌, ◌<◌, ◌≤◌, List, [], ◌∷◌, length, drop, refl, sym, ap, ◌∙◌, arith, length-drop}
use Rattle.std.specs.Prelude.{Ok, Err}
use Rattle.c_tokens.specs.Front.{size_of, front_of}
use Rattle.c_tokens.specs.Tokens.{Reading, added, before, tokens_from}
use Rattle.c_tokens.specs.Reads.{Reads, end, goes_on, stops, OneReading}
use Rattle.c_tokens.proofs.Listing.{tokens_step, size_within}

-- by what the front adds
reads_front : (at : ℕ) (bytes : List ℕ) (a : Reading) → 0 < length bytes → added at (front_of bytes) ≡ a
    → Reads (at + size_of (front_of bytes)) (drop (size_of (front_of bytes)) bytes) (tokens_from (at + size_of (front_of bytes)) 0 (drop (size_of (front_of bytes)) bytes))
    → Reads at bytes (tokens_from at 0 bytes)
reads_front at bytes (Ok ts) some is more = goes_on at bytes _ _ ts some is more (tokens_step at bytes some ∙ ap (λ a. before a (tokens_from (at + size_of (front_of bytes)) 0 (drop (size_of (front_of bytes)) bytes))) is)
reads_front at bytes (Err why) some is more = stops at bytes _ why some is (tokens_step at bytes some ∙ ap (λ a. before a (tokens_from (at + size_of (front_of bytes)) 0 (drop (size_of (front_of bytes)) bytes))) is)

reads_from : (most at : ℕ) (bytes : List ℕ) → length bytes ≤ most → Reads at bytes (tokens_from at 0 bytes)
unfolding tokens_from
reads_from most at [] few = end at [] _ refl refl
reads_from zero at (b ∷ rest) few = absurd (omega arith)
reads_from (suc most) at (b ∷ rest) few =
    let bytes = b ∷ rest in
    let f = front_of bytes in
    let fits = size_within bytes (omega arith) in
    reads_front at bytes (added at f) (omega arith) refl (reads_from most (at + size_of f) (drop (size_of f) bytes) (omega (arith, length-drop (size_of f) bytes, fits.some)))

one : (at : ℕ) (bytes : List ℕ) (r : Reading) → Reads at bytes r → r ≡ tokens_from at 0 bytes
unfolding tokens_from
one at bytes r (end _ _ _ none is) = rw (is, none) refl
one at bytes r (goes_on _ _ _ more ts some added_is reads is) =
    is ∙ ap (before (Ok ts)) (one (at + size_of (front_of bytes)) (drop (size_of (front_of bytes)) bytes) more reads)
    ∙ sym (tokens_step at bytes some ∙ ap (λ a. before a (tokens_from (at + size_of (front_of bytes)) 0 (drop (size_of (front_of bytes)) bytes))) added_is)
one at bytes r (stops _ _ _ why some added_is is) =
    is ∙ sym (tokens_step at bytes some ∙ ap (λ a. before a (tokens_from (at + size_of (front_of bytes)) 0 (drop (size_of (front_of bytes)) bytes))) added_is)

pub one_reading : OneReading
one_reading bytes = (reads_from (length bytes) 0 bytes (omega arith), λ r reads. one 0 bytes r reads)
