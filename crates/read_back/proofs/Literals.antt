-- Each number of a token is one that a literal may have.
use Rattle.std.specs.Prelude.{◌≡◌, ℕ, zero, suc, ◌+◌, ◌-◌, ◌≤◌, ℤ, pos, negsuc, ⊤, Bool, true, false, ◌||◌, ◌==◌, nat_eq, nat_le, if◌then◌else◌, List, [], ◌∷◌, ◌++◌, length, take, drop, codes, Option, Some, None, Result, Ok, Err}
use Rattle.std.specs.List.{AllByRecursion, starts_with}
use Rattle.std.specs.Option.{option_map}
use Rattle.std.proofs.Common.{refl, arith}
use Rattle.std.proofs.lemmas.Bool.{leb-true}
use Rattle.std.proofs.lemmas.Bool.Decides.{nat_tests}
use Rattle.c_tree.specs.declared.cause.ReadCause.{ReadCause}
use Rattle.c_tree.specs.declared.cause.ReadCause.TheVariants as cause
use Rattle.c_tree.specs.declared.program.At.{At}
use Rattle.c_tree.specs.declared.token.Token.{Token}
use Rattle.c_tree.specs.declared.token.TokenKind.{TokenKind}
use Rattle.c_tree.specs.declared.token.TokenKind.TheVariants as token
use Rattle.c_tokens.specs.declared.class.Class.{Class}
use Rattle.c_tokens.specs.declared.class.Class.TheVariants as class
use Rattle.c_tokens.specs.declared.front.Front.{Front}
use Rattle.c_tokens.specs.declared.front.Front.TheVariants as front
use Rattle.c_tokens.specs.declared.quoted.Quoted.{Quoted}
use Rattle.c_tokens.specs.declared.quoted.Quoted.TheVariants as q
use Rattle.c_tokens.specs.declared.text_scan.TextScan.{TextScan}
use Rattle.c_tokens.specs.Byte.{class_of, is_within, name_run}
use Rattle.c_tokens.specs.Comment.{up_to_close}
use Rattle.c_tokens.specs.Front.{number, string, single, character, block, punct, sign, of_class, front_of, size_of}
use Rattle.c_tokens.specs.Literal.{are_digits, in_base, is_hexadecimal, literal, number_of}
use Rattle.c_tokens.specs.Operator.{longest}
use Rattle.c_tokens.specs.Quoted.{added, closed, closed_at, constant, escape, escapes, joined, text_of, up_to_quote}
use Rattle.c_tokens.specs.Text as text
use Rattle.c_tokens.specs.Text.{before, followed, text_from}

abbrev pub IsLiteral : ℤ → Type 0
IsLiteral (pos n) = n ≤ 2147483647
IsLiteral (negsuc n) = ⊥

abbrev pub HasLiteral : TokenKind → Type 0
HasLiteral (token.Number n) = IsLiteral n
HasLiteral (token.Char n) = IsLiteral n
HasLiteral k = ⊤

abbrev pub HaveLiterals : List Token → Type 0
HaveLiterals ts = AllByRecursion (λ t. HasLiteral t.kind) ts

abbrev FrontHas : Front → Type 0
FrontHas (front.Token k n) = HasLiteral k
FrontHas f = ⊤

chosen : {X : Type 0} (P : X → Type 0) (test : Bool) (a b : X) → P a → P b → P (if test then a else b)
chosen P true a b h i = h
chosen P false a b h i = i

-- numbers
abbrev NumberHas : Result ℕ ReadCause → Type 0
NumberHas (Ok n) = n ≤ 2147483647
NumberHas (Err why) = ⊤

limited : (n : ℕ) → NumberHas (if nat_le n 2147483647 then Ok n else Err cause.Literal)
limited n = go (nat_le n 2147483647) refl
  where
    go : (t : Bool) → nat_le n 2147483647 ≡ t → NumberHas (if t then Ok n else Err cause.Literal)
    go true e = leb-true n 2147483647 e
    go false e = tt

in_base_has : (base : ℕ) (digits : List ℕ) → NumberHas (in_base base digits)
in_base_has base digits = chosen NumberHas (are_digits base digits) _ _ (limited (number_of base digits)) tt

literal_has : (run : List ℕ) → NumberHas (literal run)
literal_has run =
    chosen NumberHas (is_hexadecimal run) _ _ (in_base_has 16 (drop 2 run)) (chosen NumberHas (starts_with nat_eq run (codes "0")) _ _ (in_base_has 8 run) (in_base_has 10 run))

number_has : (n : Result ℕ ReadCause) (len : ℕ) → NumberHas n → FrontHas (number n len)
number_has (Ok n) len h = h
number_has (Err why) len h = tt

-- character constants
abbrev AreSmall : List ℕ → Type 0
AreSmall bytes = AllByRecursion (λ b. b ≤ 2147483647) bytes

abbrev TextHas : Option (List ℕ) → Type 0
TextHas None = ⊤
TextHas (Some bytes) = AreSmall bytes

both_small : (a b : List ℕ) → AreSmall a → AreSmall b → AreSmall (a ++ b)
both_small [] b h i = i
both_small (x ∷ a) b h i = (h.0, both_small a b h.1 i)

joined_small : (a b : Option (List ℕ)) → TextHas a → TextHas b → TextHas (joined a b)
joined_small (Some a) (Some b) h i = both_small a b h i
joined_small (Some a) None h i = tt
joined_small None b h i = tt

escaped_small : (b : ℕ) → b == 92 || b == 34 || b == 39 ≡ true → b ≤ 2147483647
escaped_small b e = grind (arith, nat_tests, e)

printed_small : (b : ℕ) → is_within 32 126 b ≡ true → b ≤ 2147483647
printed_small b e = grind (arith, nat_tests, e)

abbrev ByteHas : Option ℕ → Type 0
ByteHas None = ⊤
ByteHas (Some b) = b ≤ 2147483647

escape_small : (b : ℕ) → ByteHas (escape b)
escape_small b = chosen ByteHas (b == 110) _ _ (omega arith) (chosen ByteHas (b == 116) _ _ (omega arith) (go (b == 92 || b == 34 || b == 39) refl))
  where
    go : (t : Bool) → b == 92 || b == 34 || b == 39 ≡ t → ByteHas (if t then Some b else None)
    go true e = escaped_small b e
    go false e = tt

one_small : (o : Option ℕ) → ByteHas o → TextHas (option_map (λ c. c ∷ []) o)
one_small None h = tt
one_small (Some b) h = (h, tt)

added_small : (escaped : Bool) (b : ℕ) → TextHas (added escaped b)
added_small true b = one_small (escape b) (escape_small b)
added_small false b = chosen TextHas (b == 92) _ _ tt (go (is_within 32 126 b) refl)
  where
    go : (t : Bool) → is_within 32 126 b ≡ t → TextHas (if t then Some (b ∷ []) else None)
    go true e = (printed_small b e, tt)
    go false e = tt

text_small : (escaped : Bool) (rest : List ℕ) → TextHas (text_of escaped rest)
unfolding text_of
text_small escaped [] = tt
text_small escaped (b ∷ rest) = joined_small (added escaped b) (text_of (escapes escaped b) rest) (added_small escaped b) (text_small (escapes escaped b) rest)

single_has : (bytes : List ℕ) (n : ℕ) → AreSmall bytes → FrontHas (single bytes n)
single_has [] n h = tt
single_has (c ∷ []) n h = h.0
single_has (c ∷ d ∷ rest) n h = tt

closed_has : (o : Option (List ℕ)) (n : ℕ) → TextHas o → FrontHas (character (closed o n))
closed_has None n h = tt
closed_has (Some bytes) n h = single_has bytes n h

character_has : (o : Option ℕ) (rest : List ℕ) → FrontHas (character (closed_at o rest))
character_has None rest = tt
character_has (Some n) rest = closed_has (text_of false (take n rest)) (n + 2) (text_small false (take n rest))

-- all else has no number
string_has : (quoted : Quoted) → FrontHas (string quoted)
string_has q.Open = tt
string_has q.Wrong = tt
string_has (q.Closed text n) = tt

block_has : (n : Option ℕ) → FrontHas (block n)
block_has None = tt
block_has (Some n) = tt

punct_has : (place : Option ℕ) → FrontHas (punct place)
punct_has None = tt
punct_has (Some place) = tt

sign_has : (bytes : List ℕ) → FrontHas (sign bytes)
sign_has bytes =
    chosen FrontHas (starts_with nat_eq bytes (codes "//")) _ _ tt
    (chosen FrontHas (starts_with nat_eq bytes (codes "/*")) _ _ (block_has (up_to_close (drop 2 bytes))) (punct_has (longest bytes)))

front_has : (bytes : List ℕ) → FrontHas (front_of bytes)
front_has [] = tt
front_has (b ∷ rest) = go (class_of b)
  where
    go : (c : Class) → FrontHas (of_class c (b ∷ rest))
    go class.Blank = tt
    go class.Digit = number_has (literal (take (name_run (b ∷ rest)) (b ∷ rest))) (name_run (b ∷ rest)) (literal_has (take (name_run (b ∷ rest)) (b ∷ rest)))
    go class.Letter = chosen FrontHas (nat_le (length (take (name_run (b ∷ rest)) (b ∷ rest))) 64) _ _ tt tt
    go class.Quote = string_has (constant 34 (drop 1 (b ∷ rest)))
    go class.Apostrophe = character_has (up_to_quote 39 false rest) rest
    go class.Sign = sign_has (b ∷ rest)

-- the tokens of a text
added_has : (at : ℕ) (f : Front) → FrontHas f → HaveLiterals (text.added at f).tokens
added_has at (front.Token k n) h = (h, tt)
added_has at (front.Fault why) h = tt
added_has at front.End h = tt
added_has at front.Blank h = tt
added_has at (front.Comment n) h = tt

both_have : (ts us : List Token) → HaveLiterals ts → HaveLiterals us → HaveLiterals (ts ++ us)
both_have [] us h i = i
both_have (t ∷ ts) us h i = (h.0, both_have ts us h.1 i)

followed_has : (ts : List Token) (fault : Option (At ReadCause)) (more : TextScan) → HaveLiterals ts → HaveLiterals more.tokens → HaveLiterals (followed ts fault more).tokens
followed_has ts None more h i = both_have ts more.tokens h i
followed_has ts (Some why) more h i = h

pub text_has : (at within : ℕ) (bytes : List ℕ) → HaveLiterals (text_from at within bytes).tokens
unfolding text_from
text_has at within [] = tt
text_has at (suc within) (b ∷ rest) = text_has (at + 1) within rest
text_has at zero (b ∷ rest) =
    let f = front_of (b ∷ rest) in
    followed_has (text.added at f).tokens (text.added at f).fault (text_from (at + 1) (size_of f - 1) rest) (added_has at f (front_has (b ∷ rest))) (text_has (at + 1) (size_of f - 1) rest)
