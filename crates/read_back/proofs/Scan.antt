-- The tokens of texts that are put together.
use Rattle.std.proofs.Common.{◌≡◌, ℕ, zero, suc, ◌+◌, ◌-◌, ◌*◌, ◌^◌, ◌<◌, ◌≤◌, Bool, true, false, pos, List, [], ◌∷◌, ◌++◌, length, take, get_or, refl, sym, ap, ◌∙◌, arith, append_assoc, cond}
use Rattle.std.specs.Prelude.{None, Ok, Err, nat_eq, nat_le, nat_lt, if◌then◌else◌, ◌&&◌, ◌||◌, codes, fold}
use Rattle.std.specs.List.{prefix_len, list_all}
use Rattle.std.specs.Fmt.{decimal, digits}
use Rattle.std.specs.Str.Parse.{AllDigits}
use Rattle.std.proofs.lemmas.List.{length-append}
use Rattle.std.proofs.lemmas.Bool.Decides.{nat_tests}
use Rattle.std.proofs.lemmas.Fmt.{decimal_is_IsNumeral, first_decimal, decimal_nonempty}
use Rattle.c_tree.specs.declared.cause.ReadCause.TheVariants as cause
use Rattle.c_tree.specs.declared.op.BinOp.{BinOp}
use Rattle.c_tree.specs.declared.op.BinOp.TheVariants as bin
use Rattle.c_tree.specs.declared.token.Token.{Token}
use Rattle.c_tree.specs.declared.token.TokenKind.{TokenKind}
use Rattle.c_tree.specs.declared.token.TokenKind.TheVariants as token
use Rattle.c_tree.specs.Operators.{bin_text}
use Rattle.c_tokens.specs.declared.front.Front.{Front}
use Rattle.c_tokens.specs.declared.front.Front.TheVariants as front
use Rattle.c_tokens.specs.declared.class.Class.TheVariants as class
use Rattle.c_tokens.specs.Byte.{is_blank, is_digit, is_letter, is_name_byte, class_of, name_run}
use Rattle.c_tokens.specs.Front.{size_of, front_of, of_class, word, number}
use Rattle.c_tokens.specs.Literal.{digit_of, number_of, are_digits, literal}
use Rattle.std.specs.Int.{IsInRange}
use Rattle.std.proofs.lemmas.Str.Parse.{FoldsDigits, numerals_by_fold, tells_digits, digit_from_value}
use Rattle.std.proofs.lemmas.Fmt.{digits_value-decimal}
use Rattle.c_tokens.specs.Text.{scanned, added, before, text_from}
use Rattle.read_back.proofs.Printed.{token_at, bin_place}

-- Before other bytes, these give these tokens.
abbrev pub Gives : List ℕ → List ℕ → ℕ → List Token → Type 0
Gives bytes rest at ts = text_from at 0 (bytes ++ rest) ≡ before (scanned ts None) (text_from (at + length bytes) 0 rest)

skipped : (at : ℕ) (bytes rest : List ℕ) → text_from at (length bytes) (bytes ++ rest) ≡ text_from (at + length bytes) 0 rest
unfolding text_from
skipped at [] rest = let e : at + 0 ≡ at = omega arith in rw e refl
skipped at (b ∷ bytes) rest = let e : at + suc (length bytes) ≡ at + 1 + length bytes = omega arith in rw e (skipped (at + 1) bytes rest)

-- one piece
pub piece_gives : (b : ℕ) (bytes rest : List ℕ) (at : ℕ) (f : Front) (ts : List Token) → front_of (b ∷ (bytes ++ rest)) ≡ f → size_of f ≡ suc (length bytes) → added at f ≡ scanned ts None → Gives (b ∷ bytes) rest at ts
unfolding text_from
piece_gives b bytes rest at f ts is size adds =
    let less : size_of f - 1 ≡ length bytes = omega (arith, size) in
    let further : at + suc (length bytes) ≡ at + 1 + length bytes = omega arith in
    ap (λ g. before (added at g) (text_from (at + 1) (size_of g - 1) (bytes ++ rest))) is
    ∙ ap (λ n. before (added at f) (text_from (at + 1) n (bytes ++ rest))) less
    ∙ ap (λ s. before (added at f) s) (skipped (at + 1) bytes rest)
    ∙ ap (λ s. before s (text_from (at + 1 + length bytes) 0 rest)) adds
    ∙ ap (λ n. before (scanned ts None) (text_from n 0 rest)) (sym further)

pub token_gives : (b : ℕ) (bytes rest : List ℕ) (at : ℕ) (k : TokenKind) → front_of (b ∷ (bytes ++ rest)) ≡ front.Token k (suc (length bytes)) → Gives (b ∷ bytes) rest at (token_at k at (suc (length bytes)) ∷ [])
token_gives b bytes rest at k is = piece_gives b bytes rest at (front.Token k (suc (length bytes))) _ is refl refl

pub blank_gives : (rest : List ℕ) (at : ℕ) → Gives (32 ∷ []) rest at []
blank_gives rest at = piece_gives 32 [] rest at front.Blank [] refl refl refl

-- two texts
pub both_give : (a b rest : List ℕ) (at : ℕ) (ts us : List Token) → Gives a (b ++ rest) at ts → Gives b rest (at + length a) us → Gives (a ++ b) rest at (ts ++ us)
both_give a b rest at ts us first second =
    let sum : at + length a + length b ≡ at + length (a ++ b) = omega (arith, length-append a b) in
    let more = text_from (at + length (a ++ b)) 0 rest in
    ap (text_from at 0) (append_assoc a b rest) ∙ first ∙ ap (before (scanned ts None)) second
    ∙ ap (λ n. before (scanned ts None) (before (scanned us None) (text_from n 0 rest))) sum
    ∙ ap (λ zs. scanned zs more.fault) (sym (append_assoc ts us more.tokens))

-- No name or number goes on in what follows.
abbrev pub Stops : List ℕ → Type 0
Stops [] = Unit {0}
Stops (b ∷ rest) = is_name_byte b ≡ false

-- Signs that begin no other.
abbrev pub Alone : ℕ → List ℕ → Type 0
Alone place text = (rest : List ℕ) (at : ℕ) → Gives text rest at (token_at (token.Punct place) at (length text) ∷ [])

pub left_paren : Alone 34 (codes "(")
left_paren rest at = token_gives 40 [] rest at (token.Punct 34) refl

pub right_paren : Alone 35 (codes ")")
right_paren rest at = token_gives 41 [] rest at (token.Punct 35) refl

pub left_bracket : Alone 36 (codes "[")
left_bracket rest at = token_gives 91 [] rest at (token.Punct 36) refl

pub right_bracket : Alone 37 (codes "]")
right_bracket rest at = token_gives 93 [] rest at (token.Punct 37) refl

pub arrow : Alone 33 (codes "->")
arrow rest at = token_gives 45 (62 ∷ []) rest at (token.Punct 33) refl

pub dot : Alone 42 (codes ".")
dot rest at = token_gives 46 [] rest at (token.Punct 42) refl

pub semicolon : Alone 41 (codes ";")
semicolon rest at = token_gives 59 [] rest at (token.Punct 41) refl

-- A binary operator before a space.
pub operator_gives : (op : BinOp) (rest : List ℕ) (at : ℕ) → Gives (bin_text op) (32 ∷ rest) at (token_at (token.Punct (bin_place op)) at (length (bin_text op)) ∷ [])
operator_gives bin.Mul rest at = token_gives 42 [] (32 ∷ rest) at (token.Punct 2) refl
operator_gives bin.Div rest at = token_gives 47 [] (32 ∷ rest) at (token.Punct 3) refl
operator_gives bin.Rem rest at = token_gives 37 [] (32 ∷ rest) at (token.Punct 4) refl
operator_gives bin.Add rest at = token_gives 43 [] (32 ∷ rest) at (token.Punct 0) refl
operator_gives bin.Sub rest at = token_gives 45 [] (32 ∷ rest) at (token.Punct 1) refl
operator_gives bin.Shl rest at = token_gives 60 (60 ∷ []) (32 ∷ rest) at (token.Punct 5) refl
operator_gives bin.Shr rest at = token_gives 62 (62 ∷ []) (32 ∷ rest) at (token.Punct 6) refl
operator_gives bin.Lt rest at = token_gives 60 [] (32 ∷ rest) at (token.Punct 7) refl
operator_gives bin.Le rest at = token_gives 60 (61 ∷ []) (32 ∷ rest) at (token.Punct 8) refl
operator_gives bin.Gt rest at = token_gives 62 [] (32 ∷ rest) at (token.Punct 9) refl
operator_gives bin.Ge rest at = token_gives 62 (61 ∷ []) (32 ∷ rest) at (token.Punct 10) refl
operator_gives bin.Eq rest at = token_gives 61 (61 ∷ []) (32 ∷ rest) at (token.Punct 11) refl
operator_gives bin.Ne rest at = token_gives 33 (61 ∷ []) (32 ∷ rest) at (token.Punct 12) refl
operator_gives bin.BitAnd rest at = token_gives 38 [] (32 ∷ rest) at (token.Punct 13) refl
operator_gives bin.BitXor rest at = token_gives 94 [] (32 ∷ rest) at (token.Punct 14) refl
operator_gives bin.BitOr rest at = token_gives 124 [] (32 ∷ rest) at (token.Punct 15) refl
operator_gives bin.And rest at = token_gives 38 (38 ∷ []) (32 ∷ rest) at (token.Punct 16) refl
operator_gives bin.Or rest at = token_gives 124 (124 ∷ []) (32 ∷ rest) at (token.Punct 17) refl

-- A prefix operator before a byte that makes no other operator of it.
pub minus_gives : (b : ℕ) (rest : List ℕ) (at : ℕ) → nat_eq 45 b ≡ false → nat_eq 61 b ≡ false → nat_eq 62 b ≡ false → Gives (codes "-") (b ∷ rest) at (token_at (token.Punct 1) at 1 ∷ [])
minus_gives b rest at minus equal greater = token_gives 45 [] (b ∷ rest) at (token.Punct 1) (rw (minus, equal, greater) refl)

pub not_gives : (b : ℕ) (rest : List ℕ) (at : ℕ) → nat_eq 61 b ≡ false → Gives (codes "!") (b ∷ rest) at (token_at (token.Punct 18) at 1 ∷ [])
not_gives b rest at equal = token_gives 33 [] (b ∷ rest) at (token.Punct 18) (rw equal refl)

pub flip_gives : (rest : List ℕ) (at : ℕ) → Gives (codes "~") rest at (token_at (token.Punct 19) at 1 ∷ [])
flip_gives rest at = token_gives 126 [] rest at (token.Punct 19) refl

-- Words and numbers.

pub word_run : (p : ℕ → Bool) (bytes rest : List ℕ) → list_all p bytes ≡ true → prefix_len p rest ≡ 0 → prefix_len p (bytes ++ rest) ≡ length bytes
word_run p [] rest all stops = stops
word_run p (b ∷ bytes) rest all stops = go (p b) refl all (λ more. word_run p bytes rest more stops)
  where
    go : (t : Bool) → p b ≡ t → t && list_all p bytes ≡ true → (list_all p bytes ≡ true → prefix_len p (bytes ++ rest) ≡ length bytes) → cond t (1 + prefix_len p (bytes ++ rest)) 0 ≡ suc (length bytes)
    go true is all ih = omega (arith, ih all)
    go false is all ih = cc

stops_run : (rest : List ℕ) → Stops rest → prefix_len is_name_byte rest ≡ 0
stops_run [] s = refl
stops_run (b ∷ rest) s = rw s refl

pub taken : (bytes rest : List ℕ) → take (length bytes) (bytes ++ rest) ≡ bytes
taken [] rest = refl
taken (b ∷ bytes) rest = ap (λ xs. b ∷ xs) (taken bytes rest)

-- a letter and then name bytes, 64 at most
pub record IsWord (b : ℕ) (bytes : List ℕ) : Type 0 where
  pub letter : class_of b ≡ class.Letter
  pub run : list_all is_name_byte (b ∷ bytes) ≡ true
  pub short : nat_le (suc (length bytes)) 64 ≡ true

pub word_gives : (b : ℕ) (bytes rest : List ℕ) (at : ℕ) → IsWord b bytes → Stops rest → Gives (b ∷ bytes) rest at (token_at (token.Word (b ∷ bytes)) at (suc (length bytes)) ∷ [])
word_gives b bytes rest at is stops =
    let run : name_run (b ∷ bytes ++ rest) ≡ suc (length bytes) = word_run is_name_byte (b ∷ bytes) rest is.run (stops_run rest stops) in
    token_gives b bytes rest at (token.Word (b ∷ bytes))
    (ap (λ c. of_class c (b ∷ bytes ++ rest)) is.letter ∙ ap (λ n. word (take n (b ∷ bytes ++ rest))) run ∙ ap word (taken (b ∷ bytes) rest)
    ∙ ap (λ t. if t then front.Token (token.Word (b ∷ bytes)) (suc (length bytes)) else front.Fault cause.BadToken) is.short)

is_digit_true : (c : ℕ) → IsInRange 48 57 c → is_digit c ≡ true
is_digit_true c r = grind (arith, nat_tests, r)

digit_is : (c : ℕ) → IsInRange 48 57 c → digit_of c ≡ c - 48
digit_is c r = rw (is_digit_true c r) refl

abbrev spells : ℕ → List ℕ → ℕ
spells n digits = fold (λ n b. 10 * n + digit_of b) n digits

folds : FoldsDigits spells
folds = record {
  empty = λ n. refl;
  more = λ n c cs r. ap (λ m. spells m cs) (step n c r);
}
  where
    step : (n c : ℕ) → IsInRange 48 57 c → 10 * n + digit_of c ≡ n * 10 + (c - 48)
    step n c r = omega (arith, digit_is c r)

pub spelt_number : (n : ℕ) → n ≤ 2147483647 → number_of 10 (decimal n) ≡ n
spelt_number n le = digits_value-decimal (numerals_by_fold (AllDigits 10) tells_digits spells folds) n (omega (arith, le))

pub all_digits : (ds : List ℕ) → AllDigits 10 ds → list_all (λ b. nat_lt (digit_of b) 10) ds ≡ true
all_digits [] h = refl
all_digits (c ∷ cs) h =
    let small : nat_lt (digit_of c) 10 ≡ true = let e = digit_is c (digit_from_value c h.0) in let r = digit_from_value c h.0 in rw e (grind (arith, nat_tests, r)) in
    rw small (all_digits cs h.1)

pub digits_run : (ds : List ℕ) → AllDigits 10 ds → list_all is_name_byte ds ≡ true
digits_run [] h = refl
digits_run (c ∷ cs) h = rw (is_name c (digit_from_value c h.0)) (digits_run cs h.1)
  where
    or_true : (b : Bool) → (b || true) ≡ true
    or_true true = refl
    or_true false = refl

    is_name : (c : ℕ) → IsInRange 48 57 c → is_name_byte c ≡ true
    is_name c r = ap (λ t. is_letter c || t) (is_digit_true c r) ∙ or_true (is_letter c)

not_zero : (c : ℕ) → 48 < c → nat_eq 48 c ≡ false
not_zero c lt = grind (arith, nat_tests, lt)

within_range : (n : ℕ) → n ≤ 2147483647 → nat_le n 2147483647 ≡ true
within_range n le = grind (arith, nat_tests, le)

literal_digits : (ds : List ℕ) (n : ℕ) → AllDigits 10 ds → 0 < length ds → 48 < get_or ds 0 0 → number_of 10 ds ≡ n → n ≤ 2147483647 → literal ds ≡ Ok n
literal_digits [] n all some first is le = absurd (omega (arith, some))
literal_digits (c ∷ cs) n all some first is le =
    let none : nat_eq 48 c ≡ false = not_zero c first in
    let some : nat_lt 0 (suc (length cs)) ≡ true = grind (arith, nat_tests) in
    let numeral : are_digits 10 (c ∷ cs) ≡ true = ap (λ t. t && list_all (λ b. nat_lt (digit_of b) 10) (c ∷ cs)) some ∙ all_digits (c ∷ cs) all in
    rw none (ap (λ t. if t then (if nat_le (number_of 10 (c ∷ cs)) 2147483647 then Ok (number_of 10 (c ∷ cs)) else Err cause.Literal) else Err cause.BadToken) numeral
    ∙ ap (λ m. if nat_le m 2147483647 then Ok m else Err cause.Literal) is ∙ ap (λ t. if t then Ok n else Err cause.Literal) (within_range n le))

pub literal_decimal : (n : ℕ) → n ≤ 2147483647 → literal (decimal n) ≡ Ok n
unfolding digits
literal_decimal zero le = refl
literal_decimal (suc n) le =
    let small : suc n < 2 ^ 64 = omega (arith, le) in
    literal_digits (decimal (suc n)) (suc n) (decimal_is_IsNumeral (suc n) small).0.1 (decimal_nonempty (suc n) small) (first_decimal (suc n) (omega arith) small) (spelt_number (suc n) le) le

digit_class : (c : ℕ) → IsInRange 48 57 c → class_of c ≡ class.Digit
digit_class c r = rw (no_blank, is_digit_true c r) refl
  where
    no_blank : is_blank c ≡ false
    no_blank = grind (arith, nat_tests, r)

digits_give : (ds rest : List ℕ) (n at : ℕ) → AllDigits 10 ds → 0 < length ds → literal ds ≡ Ok n → Stops rest → Gives ds rest at (token_at (token.Number (pos n)) at (length ds) ∷ [])
digits_give [] rest n at all some is stops = absurd (omega (arith, some))
digits_give (c ∷ cs) rest n at all some is stops =
    let run : name_run (c ∷ cs ++ rest) ≡ suc (length cs) = word_run is_name_byte (c ∷ cs) rest (digits_run (c ∷ cs) all) (stops_run rest stops) in
    token_gives c cs rest at (token.Number (pos n))
    (ap (λ k. of_class k (c ∷ cs ++ rest)) (digit_class c (digit_from_value c all.0))
    ∙ ap (λ k. number (literal (take k (c ∷ cs ++ rest))) k) run ∙ ap (λ xs. number (literal xs) (suc (length cs))) (taken (c ∷ cs) rest)
    ∙ ap (λ x. number x (suc (length cs))) is)

pub number_gives : (n : ℕ) (rest : List ℕ) (at : ℕ) → n ≤ 2147483647 → Stops rest → Gives (decimal n) rest at (token_at (token.Number (pos n)) at (length (decimal n)) ∷ [])
number_gives n rest at le stops =
    let small : n < 2 ^ 64 = omega (arith, le) in
    digits_give (decimal n) rest n at (decimal_is_IsNumeral n small).0.1 (decimal_nonempty n small) (literal_decimal n le) stops
