-- Digits at the front, and the one number that they write.
use Rattle.std.proofs.Common.{◌≡◌, ℕ, zero, suc, ◌*◌, ◌+◌, ◌<◌, ◌≤◌, ◌^◌, List, [], ◌∷◌, ◌++◌, length, get_or, take, drop, refl, sym, ap, ap₂, ◌∙◌, subst, arith}
use Rattle.std.specs.Char.{digit_value}
use Rattle.std.specs.Fmt.{decimal}
use Rattle.std.specs.Int.{IsInRange}
use Rattle.std.specs.Str.Parse.{AllDigits, digits_value}
use Rattle.std.proofs.lemmas.Str.{digit_value_digit}
use Rattle.std.proofs.lemmas.Str.Parse.{IsNumeralModel, numerals_by_value, tells_digits, digit_from_value, digit_at}
use Rattle.std.proofs.lemmas.Int.Digits.{digits_value_more}
use Rattle.std.proofs.lemmas.Fmt.{decimal_is_IsNumeral, decimal_injective, decimal_nonempty, first_decimal, length-decimal-le, decimal-digits_value}
use Rattle.std.proofs.lemmas.List.{take_more, drop_more}
use Rattle.history.specs.History.{IsShort, spaced}
use Rattle.history.specs.Taken.{NoDigit, TakesNumber, LacksNumber}

digit_small : (c : ℕ) → IsInRange 48 57 c → digit_value c < 10
digit_small c r = omega (arith, digit_value_digit c r)

all_digits_push : (ds : List ℕ) (c : ℕ) → AllDigits 10 ds → IsInRange 48 57 c → AllDigits 10 (ds ++ c ∷ [])
all_digits_push [] c h r = (digit_small c r, tt)
all_digits_push (d ∷ ds) c h r = (h.0, all_digits_push ds c h.1 r)

-- one digit more
pub digit_more : (ds : List ℕ) (i : ℕ) → AllDigits 10 ds → i < length ds → IsInRange 48 57 (get_or ds i 0) × (digits_value 10 (take (i + 1) ds) + 48 ≡ digits_value 10 (take i ds) * 10 + get_or ds i 0)
digit_more ds i all lt =
    let at = digit_at ds i all lt in
    (at, omega (arith, digits_value_more 10 ds i lt, digit_value_digit (get_or ds i 0) at))

pub all_digits_more : (xs : List ℕ) (i : ℕ) → i < length xs → IsInRange 48 57 (get_or xs i 0) → AllDigits 10 (take i xs) → AllDigits 10 (take (i + 1) xs)
all_digits_more xs i lt r h = subst (AllDigits 10) (sym (take_more xs i 0 lt)) (all_digits_push (take i xs) (get_or xs i 0) h r)

pub no_digit_at : (xs : List ℕ) (i : ℕ) → i < length xs → ¬ (IsInRange 48 57 (get_or xs i 0)) → NoDigit (drop i xs)
no_digit_at xs i lt h = subst NoDigit (sym (drop_more xs i 0 lt)) h

pub front_digits : (ds es xs ys : List ℕ) → AllDigits 10 ds → AllDigits 10 es → NoDigit xs → NoDigit ys → ds ++ xs ≡ es ++ ys → (ds ≡ es) × (xs ≡ ys)
front_digits [] [] xs ys a b nx ny e = (refl, e)
front_digits [] (c ∷ es) xs ys a b nx ny e = absurd (subst NoDigit e nx (digit_from_value c b.0))
front_digits (c ∷ ds) [] xs ys a b nx ny e = absurd (subst NoDigit (sym e) ny (digit_from_value c a.0))
front_digits (c ∷ ds) (d ∷ es) xs ys a b nx ny e =
    let heads : c ≡ d = cc in
    let tails : ds ++ xs ≡ es ++ ys = cc in
    let r = front_digits ds es xs ys a.1 b.1 nx ny tails in
    (ap₂ (λ x xs. x ∷ xs) heads r.0, r.1)

short_fits : (n : ℕ) → IsShort n → n < 2 ^ 64
short_fits n h = omega arith

decimal_digits : (n : ℕ) → IsShort n → AllDigits 10 (decimal n)
decimal_digits n h = (decimal_is_IsNumeral n (short_fits n h)).0.1

pub decimal_once : (m n : ℕ) (xs ys : List ℕ) → IsShort m → IsShort n → NoDigit xs → NoDigit ys → decimal m ++ xs ≡ decimal n ++ ys → (m ≡ n) × (xs ≡ ys)
decimal_once m n xs ys hm hn nx ny e =
    let r = front_digits (decimal m) (decimal n) xs ys (decimal_digits m hm) (decimal_digits n hn) nx ny e in
    (decimal_injective m n (short_fits m hm) (short_fits n hn) r.0, r.1)

pub spaced_once : (m n : ℕ) (xs ys : List ℕ) → IsShort m → IsShort n → NoDigit xs → NoDigit ys → spaced m ++ xs ≡ spaced n ++ ys → (m ≡ n) × (xs ≡ ys)
spaced_once m n xs ys hm hn nx ny e = decimal_once m n xs ys hm hn nx ny (ap (drop 1) e)

-- the digits at the front are those of a number that stands there
the_digits : (bytes ds rest : List ℕ) (n : ℕ) (more : List ℕ) → bytes ≡ ds ++ rest → AllDigits 10 ds → NoDigit rest → IsShort n → NoDigit more → bytes ≡ decimal n ++ more → ds ≡ decimal n
the_digits bytes ds rest n more whole a nr h nm e =
    (front_digits ds (decimal n) rest more a (decimal_digits n h) nr nm (sym whole ∙ e)).0

pub lacks_empty : (bytes ds rest : List ℕ) → bytes ≡ ds ++ rest → AllDigits 10 ds → NoDigit rest → length ds ≡ 0 → LacksNumber bytes
lacks_empty bytes ds rest whole a nr none n more h nm e =
    let same = ap length (the_digits bytes ds rest n more whole a nr h nm e) in
    omega (arith, same, decimal_nonempty n (short_fits n h))

zero_alone : (n : ℕ) → IsShort n → get_or (decimal n) 0 0 ≡ 48 → length (decimal n) ≤ 1
zero_alone zero h e = length-decimal-le 1 0 (omega arith) (omega arith) (omega arith)
zero_alone (suc n) h e = absurd (omega (arith, first_decimal (suc n) (omega arith) (short_fits (suc n) h)))

pub lacks_zero : (bytes ds rest : List ℕ) → bytes ≡ ds ++ rest → AllDigits 10 ds → NoDigit rest → 1 < length ds → get_or ds 0 0 ≡ 48 → LacksNumber bytes
lacks_zero bytes ds rest whole a nr long first n more h nm e =
    let same = the_digits bytes ds rest n more whole a nr h nm e in
    let le = zero_alone n h (ap (λ xs. get_or xs 0 0) (sym same) ∙ first) in
    omega (arith, ap length same)

pub lacks_above : (bytes ds rest : List ℕ) → bytes ≡ ds ++ rest → AllDigits 10 ds → NoDigit rest → 2 ^ 32 ≤ digits_value 10 ds → LacksNumber bytes
lacks_above bytes ds rest whole a nr above n more h nm e =
    let same = ap (digits_value 10) (the_digits bytes ds rest n more whole a nr h nm e) in
    let back = (decimal_is_IsNumeral n (short_fits n h)).1 in
    omega (arith, same, back)

own : IsNumeralModel (AllDigits 10) (digits_value 10)
own = numerals_by_value (AllDigits 10) tells_digits

pub takes_number : (bytes ds rest : List ℕ) (n : ℕ) → bytes ≡ ds ++ rest → AllDigits 10 ds → NoDigit rest → 0 < length ds → (get_or ds 0 0 ≡ 48 → length ds ≡ 1) → n ≡ digits_value 10 ds → n < 2 ^ 32 → TakesNumber bytes n rest
takes_number bytes ds rest n whole a nr some lead is small =
    let same : decimal n ≡ ds = ap decimal is ∙ decimal-digits_value own ds a some lead (omega arith) in
    (small, whole ∙ ap (λ xs. xs ++ rest) (sym same), nr)
