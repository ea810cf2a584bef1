-- The language of the lines of numbers.
use Rattle.std.proofs.Common.{◌≡◌, ◌≢◌, ℕ, zero, suc, ◌+◌, ◌*◌, ◌/◌, ◌%◌, ◌^◌, ◌<◌, ◌≤◌, ◌⊎◌, inl, inr, List, [], ◌∷◌, ◌++◌, length, map, take, drop, get_or, refl, sym, ap, ap₂, ◌∙◌, subst, append_assoc, arith}
use Rattle.std.specs.Char.{digit_value}
use Rattle.std.specs.Fmt.{decimal}
use Rattle.std.specs.Int.{IsInRange}
use Rattle.std.specs.Int.Digits.{digits_of, number_from_digits, AllBelowBase}
use Rattle.std.specs.Str.Parse.{AllDigits, digits_value, digits_value_after}
use Rattle.std.proofs.lemmas.Str.{digit_value_digit}
use Rattle.std.proofs.lemmas.Str.Parse.{digit_from_value, digit_at}
use Rattle.std.proofs.lemmas.Int.Digits.{digits_of_step, all_below_base_digits_of, first_digits_of, digits_value_is, digits_value_more, number_digits_of, digits_more as more_digits}
use Rattle.std.proofs.lemmas.Fmt.{decimal_digit, decimal-digits_of}
use Rattle.std.proofs.lemmas.List.{append-nil, append_cancel_right, map-append, length-take, get_or-take, get_or_append_left, take-append-drop, drop_more, take_more, take_all}
use Rattle.std.proofs.lemmas.Bool.{cases_lt, cases_eq}
use Rattle.patch_form.specs.declared.fault.FrameFault.TheVariants.{Short, BadHead}
use Rattle.patch_form.specs.Framing.{number_text, number_line}
use Rattle.patch_form.specs.Parts.{IsNumberLine, NoDigit, Begins, NoneGoesOn, IsCut, IsBad}
use Rattle.patch_form.proofs.Languages.{HasOneAtFront, Answer, Whole, Fails}

-- what a number is written as

of_positive : (n : ℕ) → 0 < n → number_text n ≡ map (λ d. 48 + d) (digits_of 10 n)
unfolding number_text
of_positive zero h = absurd (omega arith)
of_positive (suc n) h = refl

of_zero : number_text 0 ≡ 48 ∷ []
unfolding number_text
of_zero = refl

of_digit : (n : ℕ) → n < 10 → number_text n ≡ (48 + n) ∷ []
of_digit zero h = of_zero
of_digit (suc n) h =
    of_positive (suc n) (omega arith)
    ∙ ap (λ ds. map (λ d. 48 + d) ds) (digits_of_step 10 (suc n) (omega arith) (omega arith) ∙ ap₂ (λ q r. digits_of 10 q ++ r ∷ []) front end)
  where
    front : suc n / 10 ≡ 0
    front = omega arith

    end : suc n % 10 ≡ suc n
    end = omega arith

of_more : (n : ℕ) → 10 ≤ n → number_text n ≡ number_text (n / 10) ++ (48 + n % 10) ∷ []
of_more n h =
    of_positive n (omega arith)
    ∙ ap (λ ds. map (λ d. 48 + d) ds) (digits_of_step 10 n (omega arith) (omega arith))
    ∙ map-append (λ d. 48 + d) (digits_of 10 (n / 10)) (n % 10 ∷ [])
    ∙ ap (λ ds. ds ++ (48 + n % 10) ∷ []) (sym (of_positive (n / 10) (omega arith)))

pub is_decimal : (n : ℕ) → n < 2 ^ 64 → number_text n ≡ decimal n
is_decimal zero h = of_zero ∙ sym (decimal_digit 0 (omega arith))
is_decimal (suc n) h = of_positive (suc n) (omega arith) ∙ sym (decimal-digits_of (suc n) (omega arith) h)

-- its digits

digit_of : (d : ℕ) → d < 10 → digit_value (48 + d) ≡ d
digit_of d h = omega (arith, digit_value_digit (48 + d) (omega arith, omega arith))

digits_spelled : (ds : List ℕ) → AllBelowBase 10 ds → AllDigits 10 (map (λ d. 48 + d) ds)
digits_spelled [] h = tt
digits_spelled (d ∷ ds) h = (omega (arith, digit_of d h.0), digits_spelled ds h.1)

spelled_back : (ds : List ℕ) → AllBelowBase 10 ds → map digit_value (map (λ d. 48 + d) ds) ≡ ds
spelled_back [] h = refl
spelled_back (d ∷ ds) h = ap₂ (λ x xs. x ∷ xs) (digit_of d h.0) (spelled_back ds h.1)

pub all_digits : (n : ℕ) → AllDigits 10 (number_text n)
all_digits zero = subst (AllDigits 10) (sym of_zero) (omega (arith, digit_of 0 (omega arith)), tt)
all_digits (suc n) =
    subst (AllDigits 10) (sym (of_positive (suc n) (omega arith))) (digits_spelled (digits_of 10 (suc n)) (all_below_base_digits_of 10 (suc n) (omega arith)))

pub value_back : (n : ℕ) → digits_value 10 (number_text n) ≡ n
value_back zero = ap (digits_value 10) of_zero ∙ omega (arith, digit_of 0 (omega arith))
value_back (suc n) =
    ap (digits_value 10) (of_positive (suc n) (omega arith))
    ∙ digits_value_is 10 (map (λ d. 48 + d) (digits_of 10 (suc n)))
    ∙ ap (number_from_digits 10) (spelled_back (digits_of 10 (suc n)) (all_below_base_digits_of 10 (suc n) (omega arith)))
    ∙ number_digits_of 10 (suc n) (omega arith)

-- its first digit

first_spelled : (ds : List ℕ) → 0 < get_or ds 0 0 → 48 < get_or (map (λ d. 48 + d) ds) 0 0
first_spelled [] h = absurd (omega arith)
first_spelled (d ∷ ds) h = omega arith

first_above : (n : ℕ) → 0 < n → 48 < get_or (number_text n) 0 0
first_above n h =
    subst (λ (l : List ℕ). 48 < get_or l 0 0) (sym (of_positive n h)) (first_spelled (digits_of 10 n) (first_digits_of 10 n (omega arith) h))

-- only the number 0 begins with the digit 0
zero_alone : (n : ℕ) → get_or (number_text n) 0 0 ≡ 48 → number_text n ≡ 48 ∷ []
zero_alone zero e = of_zero
zero_alone (suc n) e = absurd (omega (arith, first_above (suc n) (omega arith)))

not_empty : (n : ℕ) → number_text n ≢ []
not_empty zero e = absurd (cc (of_zero))
not_empty (suc n) e = omega (arith, first_above (suc n) (omega arith), ap (λ (l : List ℕ). get_or l 0 0) e)

-- digits with no zero in front are what their value is written as

after : (n : ℕ) (ds : List ℕ) → 0 < n → AllDigits 10 ds → number_text (digits_value_after 10 n ds) ≡ number_text n ++ ds
after n [] some d = sym (append-nil (number_text n))
after n (c ∷ cs) some d =
    let m : ℕ = n * 10 + digit_value c in
    let k = digit_value_digit c (digit_from_value c d.0) in
    let front : m / 10 ≡ n = omega (arith, d.0) in
    let end : 48 + m % 10 ≡ c = omega (arith, d.0, digit_from_value c d.0) in
    after m cs (omega arith) d.1
    ∙ ap (λ x. x ++ cs) (of_more m (omega arith) ∙ ap₂ (λ q r. number_text q ++ r ∷ []) front end)
    ∙ append_assoc (number_text n) (c ∷ []) cs

pub from_digits : (ds : List ℕ) → AllDigits 10 ds → ds ≢ [] → (get_or ds 0 0 ≡ 48 → length ds ≡ 1) → number_text (digits_value 10 ds) ≡ ds
from_digits [] d some lead = absurd (some refl)
from_digits (c ∷ []) d some lead =
    let r = digit_from_value c d.0 in
    let k = digit_value_digit c r in
    of_digit (0 * 10 + digit_value c) (omega (arith, d.0)) ∙ ap (λ x. x ∷ []) (omega (arith, r))
from_digits (c ∷ e ∷ cs) d some lead =
    let r = digit_from_value c d.0 in
    let k = digit_value_digit c r in
    let no : c ≡ 48 → ⊥ = λ z. omega (arith, lead z) in
    let is : 48 + (0 * 10 + digit_value c) ≡ c = omega (arith, r) in
    after (0 * 10 + digit_value c) (e ∷ cs) (omega (arith, r)) d.1
    ∙ ap (λ x. x ++ (e ∷ cs)) (of_digit (0 * 10 + digit_value c) (omega (arith, d.0)) ∙ ap (λ x. x ∷ []) is)

-- digits at the front

pub front_digits : (ds es xs ys : List ℕ) → AllDigits 10 ds → AllDigits 10 es → NoDigit xs → NoDigit ys → ds ++ xs ≡ es ++ ys → (ds ≡ es) × (xs ≡ ys)
front_digits [] [] xs ys a b nx ny e = (refl, e)
front_digits [] (c ∷ es) xs ys a b nx ny e = absurd (subst NoDigit e nx (digit_from_value c b.0))
front_digits (c ∷ ds) [] xs ys a b nx ny e = absurd (subst NoDigit (sym e) ny (digit_from_value c a.0))
front_digits (c ∷ ds) (d ∷ es) xs ys a b nx ny e =
    let heads : c ≡ d = cc in
    let tails : ds ++ xs ≡ es ++ ys = cc in
    let r = front_digits ds es xs ys a.1 b.1 nx ny tails in
    (ap₂ (λ x xs. x ∷ xs) heads r.0, r.1)

newline_first : (more : List ℕ) → NoDigit (10 ∷ more)
newline_first more h = omega (arith, h.0, h.1)

line_parts : (n : ℕ) (more : List ℕ) → number_line n ++ more ≡ number_text n ++ 10 ∷ more
line_parts n more = append_assoc (number_text n) (10 ∷ []) more

pub once_line : HasOneAtFront IsNumberLine
once_line a b xs ys (m, ea) (n, eb) e =
    let whole : number_text m ++ 10 ∷ xs ≡ number_text n ++ 10 ∷ ys =
    sym (line_parts m xs) ∙ ap (λ l. l ++ xs) (sym ea) ∙ e ∙ ap (λ l. l ++ ys) eb ∙ line_parts n ys in
    let same = front_digits (number_text m) (number_text n) (10 ∷ xs) (10 ∷ ys) (all_digits m) (all_digits n) (newline_first xs) (newline_first ys) whole in
    ea ∙ ap (λ l. l ++ 10 ∷ []) same.0 ∙ sym eb

pub line_injective : (m n : ℕ) → number_line m ≡ number_line n → m ≡ n
line_injective m n e =
    sym (value_back m) ∙ ap (digits_value 10) (append_cancel_right (number_text m) (number_text n) (10 ∷ []) e) ∙ value_back n

-- bytes with so many at the front that are a number's, or begin one
pub record NumberFront (bytes : List ℕ) (k : ℕ) : Type 0 where
  pub within : k ≤ length bytes
  pub digits : AllDigits 10 (take k bytes)
  pub lone : get_or bytes 0 0 ≡ 48 → k ≡ 1
  pub whole : get_or bytes 0 0 ≢ 48 → NoDigit (drop k bytes)

-- a front that begins with the digit 0 has no other
leads : (bytes : List ℕ) (k : ℕ) → NumberFront bytes k → get_or (take k bytes) 0 0 ≡ 48 → length (take k bytes) ≡ 1
leads bytes zero f e = absurd (omega arith)
leads bytes (suc k) f e =
    let one : suc k ≡ 1 = f.lone (sym (get_or-take (suc k) bytes 0 0 (omega arith)) ∙ e) in
    omega (arith, length-take (suc k) bytes, f.within)

cut_digits : (ds : List ℕ) → AllDigits 10 ds → (get_or ds 0 0 ≡ 48 → length ds ≡ 1) → IsCut IsNumberLine ds
cut_digits [] d lead = (48 ∷ 10 ∷ [], λ e. absurd (cc), (0, ap (λ l. l ++ 10 ∷ []) (sym of_zero)))
cut_digits (c ∷ cs) d lead =
    (10 ∷ [], λ e. absurd (cc), (digits_value 10 (c ∷ cs), ap (λ l. l ++ 10 ∷ []) (sym (from_digits (c ∷ cs) d (λ e. absurd (cc)) lead))))

pub line_short : (bytes : List ℕ) (k : ℕ) → NumberFront bytes k → k ≡ length bytes → IsCut IsNumberLine bytes
line_short bytes k f e =
    subst (IsCut IsNumberLine) (take_all k bytes (omega arith)) (cut_digits (take k bytes) f.digits (leads bytes k f))

none_after : (ds : List ℕ) (c : ℕ) (more rest : List ℕ) (n : ℕ) → AllDigits 10 ds → (ds ≢ [] → c ≢ 10) → (ds ≡ 48 ∷ []) ⊎ (¬ (IsInRange 48 57 c)) → ds ++ c ∷ more ≡ number_text n ++ 10 ∷ rest → ⊥
none_after ds c more rest n d not_end (inl lone) e =
    let whole : 48 ∷ c ∷ more ≡ number_text n ++ 10 ∷ rest = ap (λ l. l ++ c ∷ more) (sym lone) ∙ e in
    let some : 0 < length (number_text n) = not_none (number_text n) (not_empty n) in
    let first : get_or (number_text n) 0 0 ≡ 48 = sym (ap (λ (l : List ℕ). get_or l 0 0) whole ∙ get_or_append_left (number_text n) (10 ∷ rest) 0 0 some) in
    let same : 48 ∷ c ∷ more ≡ 48 ∷ 10 ∷ rest = whole ∙ ap (λ l. l ++ 10 ∷ rest) (zero_alone n first) in
    not_end (λ none. absurd (cc (lone, none))) (cc (same))
  where
    not_none : (l : List ℕ) → l ≢ [] → 0 < length l
    not_none [] h = absurd (h refl)
    not_none (x ∷ xs) h = omega arith
none_after ds c more rest n d not_end (inr no_digit) e =
    let same = front_digits ds (number_text n) (c ∷ more) (10 ∷ rest) d (all_digits n) no_digit (newline_first rest) e in
    not_end (λ none. not_empty n (sym same.0 ∙ none)) (cc (same.1))

-- no line of a number goes on with the byte behind the front
pub line_bad : (bytes : List ℕ) (k : ℕ) → NumberFront bytes k → k < length bytes → (0 < k → get_or bytes k 0 ≢ 10) → IsBad IsNumberLine k bytes
line_bad bytes k f lt not_end = (begins (cut_digits (take k bytes) f.digits (leads bytes k f)), none)
  where
    c : ℕ
    c = get_or bytes k 0

    begins : IsCut IsNumberLine (take k bytes) → Begins IsNumberLine (take k bytes)
    begins (more, some, line) = (more, line)

    some_of : take k bytes ≢ [] → 0 < k
    some_of h = by k refl
      where
        by : (j : ℕ) → k ≡ j → 0 < k
        by zero e = absurd (h (ap (λ (i : ℕ). take i bytes) e))
        by (suc j) e = omega arith

    alone : get_or bytes 0 0 ≡ 48 → take k bytes ≡ 48 ∷ []
    alone e =
        ap (λ (i : ℕ). take i bytes) (f.lone e) ∙ take_more bytes 0 0 (omega arith) ∙ ap (λ x. x ∷ []) e

    stops : (get_or bytes 0 0 ≡ 48) ⊎ (get_or bytes 0 0 ≢ 48) → (take k bytes ≡ 48 ∷ []) ⊎ (¬ (IsInRange 48 57 c))
    stops (inl e) = inl (alone e)
    stops (inr ne) = inr (subst NoDigit (drop_more bytes k 0 lt) (f.whole ne))

    none : NoneGoesOn IsNumberLine (take (k + 1) bytes)
    none word more rest (n, is) e =
        none_after (take k bytes) c more rest n f.digits (λ some. not_end (some_of some)) (stops (cases_eq (get_or bytes 0 0) 48))
        (sym (append_assoc (take k bytes) (c ∷ []) more) ∙ ap (λ l. l ++ more) (sym (take_more bytes k 0 lt)) ∙ e ∙ ap (λ l. l ++ rest) is ∙ line_parts n rest)

-- the line of a number stands at the front
pub line_whole : (bytes : List ℕ) (k : ℕ) → NumberFront bytes k → k < length bytes → 0 < k → get_or bytes k 0 ≡ 10 → bytes ≡ number_line (digits_value 10 (take k bytes)) ++ drop (k + 1) bytes
line_whole bytes k f lt some newline =
    let written = from_digits (take k bytes) f.digits (λ none. omega (arith, ap length none, length-take k bytes)) (leads bytes k f) in
    sym (take-append-drop k bytes)
    ∙ ap₂ (λ a b. a ++ b) (sym written) (drop_more bytes k 0 lt ∙ ap (λ c. c ∷ drop (k + 1) bytes) newline)
    ∙ sym (line_parts (digits_value 10 (take k bytes)) (drop (k + 1) bytes))

-- digits, one after another

digit_small : (c : ℕ) → IsInRange 48 57 c → digit_value c < 10
digit_small c r = omega (arith, digit_value_digit c r)

pub digits_more : (xs : List ℕ) (i : ℕ) → i < length xs → IsInRange 48 57 (get_or xs i 0) → AllDigits 10 (take i xs) → AllDigits 10 (take (i + 1) xs)
digits_more xs i lt r h = more_digits 10 xs i lt h (digit_small (get_or xs i 0) r)

pub no_digit_at : (xs : List ℕ) (i : ℕ) → i < length xs → ¬ (IsInRange 48 57 (get_or xs i 0)) → NoDigit (drop i xs)
no_digit_at xs i lt h = subst NoDigit (sym (drop_more xs i 0 lt)) h

pub first_digit : (xs : List ℕ) → get_or xs 0 0 ≡ 48 → AllDigits 10 (take 1 xs)
first_digit [] e = tt
first_digit (x ∷ xs) e = (digit_small x (omega arith, omega arith), tt)

pub value_more : (ds : List ℕ) (i : ℕ) → AllDigits 10 ds → i < length ds → IsInRange 48 57 (get_or ds i 0) × (digits_value 10 (take (i + 1) ds) + 48 ≡ digits_value 10 (take i ds) * 10 + get_or ds i 0)
value_more ds i all lt =
    let at = digit_at ds i all lt in
    (at, omega (arith, digits_value_more 10 ds i lt, digit_value_digit (get_or ds i 0) at))

-- bytes begin with the line of a number, or have a fault

front_digit : (c : ℕ) → IsInRange 48 57 c ⊎ (¬ (IsInRange 48 57 c))
front_digit c = by (cases_lt c 48) (cases_lt 57 c)
  where
    by : (c < 48) ⊎ (48 ≤ c) → (57 < c) ⊎ (c ≤ 57) → IsInRange 48 57 c ⊎ (¬ (IsInRange 48 57 c))
    by (inl low) high = inr (λ h. omega (arith, h.0))
    by (inr low) (inl high) = inr (λ h. omega (arith, h.1))
    by (inr low) (inr high) = inl (low, high)

-- the digits at the front of bytes
record Digits (bytes : List ℕ) : Type 0 where
  count : ℕ
  within : count ≤ length bytes
  digits : AllDigits 10 (take count bytes)
  behind : NoDigit (drop count bytes)

digits_at : (c : ℕ) (cs : List ℕ) → IsInRange 48 57 c ⊎ (¬ (IsInRange 48 57 c)) → Digits cs → Digits (c ∷ cs)
digits_at c cs (inl r) more = record { count = suc more.count; within = omega (arith, more.within); digits = (digit_small c r, more.digits); behind = more.behind }
digits_at c cs (inr other) more = record { count = 0; within = omega arith; digits = tt; behind = other }

digits_of_front : (bytes : List ℕ) → Digits bytes
digits_of_front [] = record { count = 0; within = omega arith; digits = tt; behind = tt }
digits_of_front (c ∷ cs) = digits_at c cs (front_digit c) (digits_of_front cs)

first_within : (bytes : List ℕ) → get_or bytes 0 0 ≡ 48 → 1 ≤ length bytes
first_within [] e = absurd (omega arith)
first_within (c ∷ cs) e = omega arith

number_front : (bytes : List ℕ) → (get_or bytes 0 0 ≡ 48) ⊎ (get_or bytes 0 0 ≢ 48) → (k : ℕ) × NumberFront bytes k
number_front bytes (inl e) = (1, record { within = first_within bytes e; digits = first_digit bytes e; lone = λ h. refl; whole = λ ne. absurd (ne e) })
number_front bytes (inr ne) =
    let f = digits_of_front bytes in
    (f.count, record { within = f.within; digits = f.digits; lone = λ e. absurd (ne e); whole = λ h. f.behind })

pub answer_line : (bytes : List ℕ) → Answer IsNumberLine bytes
answer_line bytes = at_end (number_front bytes (cases_eq (get_or bytes 0 0) 48))
  where
    bad : (k : ℕ) → NumberFront bytes k → k < length bytes → (0 < k → get_or bytes k 0 ≢ 10) → Answer IsNumberLine bytes
    bad k f lt not_end = Fails (BadHead k) (k, omega arith, line_bad bytes k f lt not_end)

    at_byte : (k : ℕ) → NumberFront bytes k → k < length bytes → (0 < k) ⊎ (k ≤ 0) → (get_or bytes k 0 ≡ 10) ⊎ (get_or bytes k 0 ≢ 10) → Answer IsNumberLine bytes
    at_byte k f lt (inl some) (inl eq) =
        Whole (number_line (digits_value 10 (take k bytes))) (drop (k + 1) bytes) (digits_value 10 (take k bytes), refl) (line_whole bytes k f lt some eq)
    at_byte k f lt (inl some) (inr ne) = bad k f lt (λ h. ne)
    at_byte k f lt (inr none) eq = bad k f lt (λ h. absurd (omega arith))

    by_length : (k : ℕ) → NumberFront bytes k → (k < length bytes) ⊎ (length bytes ≤ k) → Answer IsNumberLine bytes
    by_length k f (inl lt) = at_byte k f lt (cases_lt 0 k) (cases_eq (get_or bytes k 0) 10)
    by_length k f (inr ge) = Fails Short (line_short bytes k f (omega (arith, f.within)))

    at_end : (k : ℕ) × NumberFront bytes k → Answer IsNumberLine bytes
    at_end (k, f) = by_length k f (cases_lt k (length bytes))

-- what a writer appends piece by piece
pub appended : (out word : List ℕ) (n : ℕ) → n < 2 ^ 64 → out ++ word ++ decimal n ++ 10 ∷ [] ≡ out ++ word ++ number_line n
appended out word n fits =
    ap (λ d. out ++ word ++ d ++ 10 ∷ []) (sym (is_decimal n fits)) ∙ append_assoc (out ++ word) (number_text n) (10 ∷ [])

pub ruleset length_rules = (digits_more, no_digit_at, first_digit)
