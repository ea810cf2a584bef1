-- The tokens of a text one after the other, up to its first fault.
use Rattle.std.proofs.Common.{◌≡◌, ℕ, zero, suc, ◌+◌, ◌-◌, ◌<◌, ◌≤◌, true, false, List, [], ◌∷◌, length, drop, refl, sym, ap, ◌∙◌, arith, append_assoc, length-drop}
use Rattle.std.specs.Prelude.{Option, Some, None, is_some, Ok, Err}
use Rattle.std.proofs.lemmas.List.{drop_all, drop-drop, append-nil}
use Rattle.c_tree.specs.declared.cause.ReadCause.{ReadCause}
use Rattle.c_tree.specs.declared.program.At.{At}
use Rattle.c_tree.specs.declared.token.Token.{Token}
use Rattle.c_tokens.specs.declared.front.Front.{Front}
use Rattle.c_tokens.specs.declared.front.Front.TheVariants as front
use Rattle.c_tokens.specs.declared.text_scan.TextScan.{TextScan}
use Rattle.c_tokens.specs.Front.{size_of, front_of}
use Rattle.c_tokens.specs.Tokens as tokens
use Rattle.c_tokens.specs.Tokens.{Reading, tokens_from, tokens_of}
use Rattle.c_tokens.specs.Text.{scanned, added, followed, before, text_from, text_of}
use Rattle.c_tokens.proofs.Sizes.{Fits, front_fits}
use Rattle.c_tokens.proofs.Listing.{size_within}

skipped : (at n : ℕ) (bytes : List ℕ) → text_from at n bytes ≡ text_from (at + n) 0 (drop n bytes)
unfolding text_from
skipped at zero bytes = let e : at + 0 ≡ at = omega arith in rw e refl
skipped at (suc n) [] = refl
skipped at (suc n) (b ∷ rest) = let e : at + suc n ≡ at + 1 + n = omega arith in rw e (skipped (at + 1) n rest)

skipped_one : (at n b : ℕ) (rest : List ℕ) → 1 ≤ n → text_from (at + 1) (n - 1) rest ≡ text_from (at + n) 0 (drop n (b ∷ rest))
skipped_one at zero b rest some = absurd (omega arith)
skipped_one at (suc n) b rest some =
    let less : suc n - 1 ≡ n = omega arith in
    let e : at + suc n ≡ at + 1 + n = omega arith in
    rw (less, e) (skipped (at + 1) n rest)

-- what stands at the front comes first, and then what follows it
text_step : (at : ℕ) (bytes : List ℕ) → 0 < length bytes
    → text_from at 0 bytes ≡ before (added at (front_of bytes)) (text_from (at + size_of (front_of bytes)) 0 (drop (size_of (front_of bytes)) bytes))
unfolding text_from
text_step at [] some = absurd (omega arith)
text_step at (b ∷ rest) some = ap (before (added at (front_of (b ∷ rest)))) (skipped_one at (size_of (front_of (b ∷ rest))) b rest (front_fits b rest).some)

followed_before : (xs : List Token) (f : Option (At ReadCause)) (ys : List Token) (g : Option (At ReadCause)) (c : TextScan) → followed xs f (followed ys g c) ≡ before (followed xs f (scanned ys g)) c
followed_before xs (Some why) ys g c = refl
followed_before xs None ys (Some why) c = refl
followed_before xs None ys None c = ap (λ zs. scanned zs c.fault) (sym (append_assoc xs ys c.tokens))

before_before : (a b c : TextScan) → before a (before b c) ≡ before (before a b) c
before_before a b c = followed_before a.tokens a.fault b.tokens b.fault c

-- the tokens so far, and those of what is left
pub record Scanned (bytes : List ℕ) (ts : List Token) (at : ℕ) : Type 0 where
  pub within : at ≤ length bytes
  pub same : text_of bytes ≡ before (scanned ts None) (text_from at 0 (drop at bytes))

pub text_first : (bytes : List ℕ) → Scanned bytes [] 0
text_first bytes = record { within = omega arith; same = refl }

pub text_size : (bytes : List ℕ) (at : ℕ) → at < length bytes → Fits (size_of (front_of (drop at bytes))) (length bytes - at)
text_size bytes at lt = rw (length-drop at bytes) at (size_within (drop at bytes) (omega (arith, length-drop at bytes)))

one_on : (bytes : List ℕ) (ts : List Token) (at : ℕ) → at < length bytes → Scanned bytes ts at
    → text_of bytes ≡ before (before (scanned ts None) (added at (front_of (drop at bytes)))) (text_from (at + size_of (front_of (drop at bytes))) 0 (drop (at + size_of (front_of (drop at bytes))) bytes))
one_on bytes ts at lt so_far =
    let f = front_of (drop at bytes) in
    so_far.same
    ∙ ap (before (scanned ts None)) (text_step at (drop at bytes) (omega (arith, length-drop at bytes)))
    ∙ before_before (scanned ts None) (added at f) (text_from (at + size_of f) 0 (drop (size_of f) (drop at bytes)))
    ∙ ap (λ xs. before (before (scanned ts None) (added at f)) (text_from (at + size_of f) 0 xs)) (drop-drop (size_of f) at bytes)

pub text_more : (bytes : List ℕ) (ts next : List Token) (at len : ℕ) (f : Front) (fault : Option (At ReadCause)) → at < length bytes → f ≡ front_of (drop at bytes) → len ≡ size_of f
    → before (scanned ts None) (added at f) ≡ scanned next fault → is_some fault ≡ false → Scanned bytes ts at → Scanned bytes next (at + len)
text_more bytes ts next at len f (Some why) lt is len_is added_is none so_far = cc
text_more bytes ts next at len f None lt is len_is added_is none so_far = record {
  within = omega (arith, (text_size bytes at lt).within, len_is ∙ ap size_of is);
  same = rw (← is, ← len_is) at (one_on bytes ts at lt so_far) ∙ ap (λ a. before a (text_from (at + len) 0 (drop (at + len) bytes))) added_is;
}

pub text_fault : (bytes : List ℕ) (ts next row : List Token) (at : ℕ) (f : Front) (fault : Option (At ReadCause)) → at < length bytes → f ≡ front_of (drop at bytes)
    → before (scanned ts None) (added at f) ≡ scanned next fault → is_some fault ≡ true → row ≡ next → Scanned bytes ts at → scanned row fault ≡ text_of bytes
text_fault bytes ts next row at f None lt is added_is some row_is so_far = cc
text_fault bytes ts next row at f (Some why) lt is added_is some row_is so_far =
    rw row_is (sym (rw (← is) at (one_on bytes ts at lt so_far) ∙ ap (λ a. before a (text_from (at + size_of f) 0 (drop (at + size_of f) bytes))) added_is))

pub text_all : (bytes : List ℕ) (ts row : List Token) (at : ℕ) → length bytes ≤ at → row ≡ ts → Scanned bytes ts at → scanned row None ≡ text_of bytes
unfolding text_from
text_all bytes ts row at le row_is so_far = rw row_is (sym (so_far.same ∙ ap (λ xs. before (scanned ts None) (text_from at 0 xs)) (drop_all at bytes le) ∙ ap (λ xs. scanned xs None) (append-nil ts)))

-- The tokens of a text are those of its scan, where it has no fault.
abbrev read : List Token → Option (At ReadCause) → Reading
read ts None = Ok ts
read ts (Some why) = Err why

abbrev reading : TextScan → Reading
reading s = read s.tokens s.fault

added_read : (at : ℕ) (f : Front) → tokens.added at f ≡ reading (added at f)
added_read at front.End = refl
added_read at front.Blank = refl
added_read at (front.Comment n) = refl
added_read at (front.Token kind n) = refl
added_read at (front.Fault why) = refl

before_read : (xs : List Token) (f : Option (At ReadCause)) (ys : List Token) (g : Option (At ReadCause)) → tokens.before (read xs f) (read ys g) ≡ reading (followed xs f (scanned ys g))
before_read xs (Some why) ys g = refl
before_read xs None ys (Some why) = refl
before_read xs None ys None = refl

from_read : (at within : ℕ) (bytes : List ℕ) → tokens_from at within bytes ≡ reading (text_from at within bytes)
unfolding tokens_from text_from
from_read at within [] = refl
from_read at (suc within) (b ∷ rest) = from_read (at + 1) within rest
from_read at zero (b ∷ rest) =
    let f = front_of (b ∷ rest) in
    let more = text_from (at + 1) (size_of f - 1) rest in
    ap (λ a. tokens.before a (tokens_from (at + 1) (size_of f - 1) rest)) (added_read at f)
    ∙ ap (λ m. tokens.before (reading (added at f)) m) (from_read (at + 1) (size_of f - 1) rest)
    ∙ before_read (added at f).tokens (added at f).fault more.tokens more.fault

-- What the scan answers is what the tokens are.
pub clean_read : (bytes : List ℕ) (s : TextScan) → s ≡ text_of bytes → s.fault ≡ None → tokens_of bytes ≡ Ok s.tokens
clean_read bytes s e n = from_read 0 0 bytes ∙ ap reading (sym e) ∙ ap (read s.tokens) n

pub fault_read : (bytes : List ℕ) (s : TextScan) (why : At ReadCause) → s ≡ text_of bytes → s.fault ≡ Some why → tokens_of bytes ≡ Err why
fault_read bytes s why e f = from_read 0 0 bytes ∙ ap reading (sym e) ∙ ap (read s.tokens) f
