-- Numbers after spaces, up to a newline.
use Rattle.std.proofs.Common.{◌≡◌, ℕ, zero, suc, ◌+◌, ◌<◌, ◌≢◌, List, [], ◌∷◌, ◌++◌, length, get_or, set, take, drop, refl, sym, ap, ap₂, ◌∙◌, append_assoc, All, arith}
use Rattle.std.specs.List.{flat_map}
use Rattle.std.proofs.lemmas.List.Concat.{flat_map-append}
use Rattle.std.proofs.lemmas.List.{take_more_set}
use Rattle.history.specs.History.{spaced, IsShort}
use Rattle.history.specs.Taken.{NoDigit, LacksSpaced, TakesSpaced, LacksNumbers}
use Rattle.history.proofs.DigitLemmas.{spaced_once}

-- the bytes of numbers and a newline begin with no digit
pub no_digit_first : (ns more : List ℕ) → NoDigit (flat_map spaced ns ++ 10 ∷ more)
no_digit_first [] more = λ h. omega (arith, h.0, h.1)
no_digit_first (n ∷ ns) more = λ h. omega (arith, h.0, h.1)

pub short_head : (n : ℕ) (ns : List ℕ) → All IsShort (n ∷ ns) → IsShort n
short_head n ns h = h 0 0 (omega arith)

pub short_tail : (n : ℕ) (ns : List ℕ) → All IsShort (n ∷ ns) → All IsShort ns
short_tail n ns h k d lt = h (suc k) d (omega arith)

-- the first number, and what follows it
pub first_number : (n : ℕ) (ns more : List ℕ) → flat_map spaced (n ∷ ns) ++ 10 ∷ more ≡ spaced n ++ (flat_map spaced ns ++ 10 ∷ more)
first_number n ns more = append_assoc (spaced n) (flat_map spaced ns) (10 ∷ more)

pub lacks_first : (count : ℕ) (bytes : List ℕ) → LacksSpaced bytes → LacksNumbers (suc count) bytes
lacks_first count bytes none [] more len short e = omega arith
lacks_first count bytes none (n ∷ ns) more len short e =
    none n (flat_map spaced ns ++ 10 ∷ more) (short_head n ns short) (no_digit_first ns more) (e ∙ first_number n ns more)

-- what follows a taken number lacks one number less
pub lacks_next : (count : ℕ) (bytes : List ℕ) (n : ℕ) (rest : List ℕ) → TakesSpaced bytes n rest → LacksNumbers count rest → LacksNumbers (suc count) bytes
lacks_next count bytes n rest takes none [] more len short e = omega arith
lacks_next count bytes n rest takes none (m ∷ ns) more len short e =
    let once = spaced_once n m rest (flat_map spaced ns ++ 10 ∷ more) takes.0 (short_head m ns short) takes.2 (no_digit_first ns more) (sym takes.1 ∙ e ∙ first_number m ns more) in
    none ns more (omega arith) (short_tail m ns short) once.1

pub lacks_end : (bytes : List ℕ) → ((rest : List ℕ) → bytes ≢ 10 ∷ rest) → LacksNumbers 0 bytes
lacks_end bytes none [] more len short e = none more e
lacks_end bytes none (n ∷ ns) more len short e = omega arith

pub numbers_once : (ms ns xs ys : List ℕ) → All IsShort ms → All IsShort ns → flat_map spaced ms ++ 10 ∷ xs ≡ flat_map spaced ns ++ 10 ∷ ys → (ms ≡ ns) × (xs ≡ ys)
numbers_once [] [] xs ys hm hn e = (refl, ap (drop 1) e)
numbers_once [] (n ∷ ns) xs ys hm hn e =
    let heads : 10 ≡ 32 = ap (λ l. get_or l 0 0) e in absurd (omega (arith, heads))
numbers_once (m ∷ ms) [] xs ys hm hn e =
    let heads : 32 ≡ 10 = ap (λ l. get_or l 0 0) e in absurd (omega (arith, heads))
numbers_once (m ∷ ms) (n ∷ ns) xs ys hm hn e =
    let once = spaced_once m n (flat_map spaced ms ++ 10 ∷ xs) (flat_map spaced ns ++ 10 ∷ ys) (short_head m ms hm) (short_head n ns hn) (no_digit_first ms xs) (no_digit_first ns ys) (sym (first_number m ms xs) ∙ e ∙ first_number n ns ys) in
    let r = numbers_once ms ns xs ys (short_tail m ms hm) (short_tail n ns hn) once.1 in
    (ap₂ (λ x xs. x ∷ xs) once.0 r.0, r.1)

-- one more number taken, in the array and from the bytes
pub one_more : (bytes numbers : List ℕ) (i n : ℕ) (rest more : List ℕ) → i < length numbers → bytes ≡ flat_map spaced (take i numbers) ++ rest → TakesSpaced rest n more → bytes ≡ flat_map spaced (take (i + 1) (set numbers i n)) ++ more
one_more bytes numbers i n rest more lt whole takes =
    rw (take_more_set numbers i n lt, flat_map-append spaced (take i numbers) (n ∷ []))
    (whole ∙ ap (λ xs. flat_map spaced (take i numbers) ++ xs) (takes.1) ∙ simp append_assoc)

short_push : (ns : List ℕ) (n : ℕ) → All IsShort ns → IsShort n → All IsShort (ns ++ n ∷ [])
short_push [] n h s zero d lt = s
short_push [] n h s (suc k) d lt = absurd (omega arith)
short_push (m ∷ ns) n h s zero d lt = h 0 d (omega arith)
short_push (m ∷ ns) n h s (suc k) d lt = short_push ns n (short_tail m ns h) s k d (omega arith)

pub short_more : (numbers : List ℕ) (i n : ℕ) → i < length numbers → All IsShort (take i numbers) → IsShort n → All IsShort (take (i + 1) (set numbers i n))
short_more numbers i n lt all small = rw (take_more_set numbers i n lt) (short_push (take i numbers) n all small)
