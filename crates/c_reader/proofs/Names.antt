-- The names in a source: of its tokens that may be names, and of its defines.
use Rattle.std.specs.Prelude.{ℕ, zero, suc, ◌+◌, ◌-◌, Bool, true, false, ◌&&◌, ◌||◌, ◌==◌, cond, nat_eq, nat_le, if◌then◌else◌, List, [], ◌∷◌, ◌++◌, length, take, drop, codes, Option, Some, None, Result, Ok, Err, ⊤}
use Rattle.std.specs.List.{list_all, starts_with, AllByRecursion}
use Rattle.std.specs.Cmp.Lexicographic.{pointwise}
use Rattle.std.proofs.Common.{◌≡◌, refl, sym, ap, subst, arith}
use Rattle.c_tree.specs.declared.cause.ReadCause.{ReadCause}
use Rattle.c_tree.specs.declared.cause.ReadCause.TheVariants as cause
use Rattle.c_tree.specs.declared.token.TokenKind.{TokenKind}
use Rattle.c_tree.specs.declared.token.TokenKind.TheVariants as token
use Rattle.c_tree.specs.declared.program.At.{At}
use Rattle.c_tree.specs.ReadForm.{IsName, is_name_byte}
use Rattle.c_reader.specs.Spelling.{IsWord, IsSpelt}
use Rattle.c_reader.proofs.Choice.{both_left, both_right}
use Rattle.c_tokens.specs.declared.class.Class.{Class}
use Rattle.c_tokens.specs.declared.class.Class.TheVariants as class
use Rattle.c_tokens.specs.declared.quoted.Quoted.{Quoted}
use Rattle.c_tokens.specs.declared.quoted.Quoted.TheVariants as q
use Rattle.c_tokens.specs.declared.front.Front.{Front}
use Rattle.c_tokens.specs.declared.front.Front.TheVariants as front
use Rattle.c_tokens.specs.declared.directive.Line.{Line}
use Rattle.c_tokens.specs.declared.directive.Line.TheVariants as line
use Rattle.c_tokens.specs.declared.lexeme.Lexeme.{Lexeme}
use Rattle.c_tokens.specs.declared.lexeme.LexemeKind.{LexemeKind}
use Rattle.c_tokens.specs.declared.lexeme.LexemeKind.TheVariants as lexeme
use Rattle.c_tokens.specs.declared.lexeme.Scan.{Scan}
use Rattle.c_tokens.specs.declared.piece.Part.{Part}
use Rattle.c_tokens.specs.declared.piece.Part.TheVariants as part
use Rattle.c_tokens.specs.declared.piece.Piece.{Piece}
use Rattle.c_tokens.specs.declared.piece.Piece.TheVariants as piece
use Rattle.c_tokens.specs.Byte.{is_blank, is_digit, is_letter, is_within, class_of, name_run}
use Rattle.c_tokens.specs.Byte as byte
use Rattle.c_grammar.specs.declared.kind.Kind.TheVariants as kind
use Rattle.c_grammar.specs.Tokens.{word_kind}
use Rattle.c_tokens.specs.Literal.{literal}
use Rattle.c_tokens.specs.Quoted.{constant}
use Rattle.c_tokens.specs.Operator.{longest}
use Rattle.c_tokens.specs.Comment.{up_to_close}
use Rattle.c_tokens.specs.Front.{word, number, string, single, character, block, punct, sign, of_class, front_of}
use Rattle.c_tokens.specs.Word.{is_left_out, is_name}
use Rattle.c_tokens.specs.Directive as of
use Rattle.c_tokens.specs.Piece.{of_token, in_part, of_front, of_line, is_hash, piece_at, size_of, part_of}
use Rattle.c_tokens.specs.Source.{added, followed, scan_from, scan_of}

-- A choice keeps what both sides have.
chosen : {X : Type 0} (P : X → Type 0) (test : Bool) (a b : X) → P a → P b → P (if test then a else b)
chosen P true a b h i = h
chosen P false a b h i = i

-- Of a token, a line and a piece: each name in it is one.
abbrev pub TokenNamed : TokenKind → Type 0
TokenNamed (token.Word w) = IsWord w
TokenNamed k = ⊤

abbrev FrontNamed : Front → Type 0
FrontNamed (front.Token k n) = TokenNamed k
FrontNamed f = ⊤

abbrev LineNamed : Line → Type 0
LineNamed (line.Define d end) = IsName d.name.it
LineNamed l = ⊤

abbrev pub LexemeNamed : LexemeKind → Type 0
LexemeNamed (lexeme.Token k) = TokenNamed k
LexemeNamed (lexeme.Define d) = IsName d.name.it
LexemeNamed k = ⊤

abbrev PieceNamed : Piece → Type 0
PieceNamed (piece.Lexeme k p n) = LexemeNamed k
PieceNamed p = ⊤

-- Bytes of names.
in_order : (upper lower under digit : Bool) → (upper || lower || under) || digit ≡ true → upper || lower || digit || under ≡ true
in_order true lower under digit h = refl
in_order false true under digit h = refl
in_order false false true true h = refl
in_order false false true false h = refl
in_order false false false true h = refl
in_order false false false false h = h

name_byte : (b : ℕ) → byte.is_name_byte b ≡ true → is_name_byte b ≡ true
name_byte b h = in_order (is_within 65 90 b) (is_within 97 122 b) (b == 95) (is_digit b) h

letter_byte : (b : ℕ) → is_letter b ≡ true → byte.is_name_byte b ≡ true
letter_byte b h = ap (λ x. x || is_digit b) h

both_true : (x y : Bool) → x ≡ true → y ≡ true → x && y ≡ true
both_true true y h i = i
both_true false y h i = cc

one_more : (n : ℕ) → suc n ≡ 1 + n
one_more n = omega arith

all_name_bytes : (bytes : List ℕ) → list_all byte.is_name_byte (take (name_run bytes) bytes) ≡ true
all_name_bytes [] = refl
all_name_bytes (b ∷ rest) = go (byte.is_name_byte b) refl (all_name_bytes rest)
  where
    go : (t : Bool) → byte.is_name_byte b ≡ t → list_all byte.is_name_byte (take (name_run rest) rest) ≡ true → list_all byte.is_name_byte (take (cond t (1 + name_run rest) 0) (b ∷ rest)) ≡ true
    go true h more = subst (λ n. list_all byte.is_name_byte (take n (b ∷ rest)) ≡ true) (one_more (name_run rest)) (both_true (byte.is_name_byte b) _ h more)
    go false h more = refl

letter_class : (b : ℕ) → class_of b ≡ class.Letter → is_letter b ≡ true
letter_class b e = pick (is_blank b) (is_digit b) (is_letter b) (b == 34) (b == 39) e
  where
    pick : (blank digit letter quote apostrophe : Bool)
        → (if blank then class.Blank else if digit then class.Digit else if letter then class.Letter else if quote then class.Quote else if apostrophe then class.Apostrophe else class.Sign) ≡ class.Letter
        → letter ≡ true
    pick true digit letter quote apostrophe e = cc
    pick false true letter quote apostrophe e = cc
    pick false false true quote apostrophe e = refl
    pick false false false true apostrophe e = cc
    pick false false false false true e = cc
    pick false false false false false e = cc

-- A letter first, and then bytes of names.
abbrev HasBytes : List ℕ → Type 0
HasBytes [] = ⊥
HasBytes (b ∷ bytes) = (class_of b ≡ class.Letter) × (list_all byte.is_name_byte (b ∷ bytes) ≡ true)

has_bytes : (b : ℕ) (rest : List ℕ) → class_of b ≡ class.Letter → HasBytes (take (name_run (b ∷ rest)) (b ∷ rest))
has_bytes b rest c =
    let e : byte.is_name_byte b ≡ true = letter_byte b (letter_class b c) in
    subst (λ t. HasBytes (take (cond t (1 + name_run rest) 0) (b ∷ rest))) (sym e)
    (subst (λ n. HasBytes (take n (b ∷ rest))) (one_more (name_run rest)) (c, both_true (byte.is_name_byte b) _ e (all_name_bytes rest)))

is_word : (run : List ℕ) → HasBytes run → nat_le (length run) 64 ≡ true → IsWord run
is_word [] h e = absurd h
is_word (b ∷ bytes) h e = (h.0, h.1, e)

bytes_of_names : (bytes : List ℕ) → list_all byte.is_name_byte bytes ≡ true → list_all is_name_byte bytes ≡ true
bytes_of_names [] h = refl
bytes_of_names (b ∷ bytes) h = both_true (is_name_byte b) _ (name_byte b (both_left (byte.is_name_byte b) _ h)) (bytes_of_names bytes (both_right (byte.is_name_byte b) _ h))

-- A word has the form of a name, and is a name where it has no meaning.
pub word_is_name : (w : List ℕ) → IsWord w → IsName w
word_is_name [] h = absurd h
word_is_name (b ∷ bytes) h = bytes_of_names (b ∷ bytes) h.1

pub word_spelt : (w : List ℕ) → IsWord w → word_kind w ≡ kind.Name → IsSpelt w
word_spelt [] h e = absurd h
word_spelt (b ∷ bytes) h e = (h.0, h.1, h.2, e)

pub spelt_is_name : (w : List ℕ) → IsSpelt w → IsName w
spelt_is_name [] h = absurd h
spelt_is_name (b ∷ bytes) h = bytes_of_names (b ∷ bytes) h.1

-- What stands at the front.
word_named : (run : List ℕ) → HasBytes run → FrontNamed (word run)
word_named run h = go (nat_le (length run) 64) refl
  where
    go : (t : Bool) → nat_le (length run) 64 ≡ t → FrontNamed (if t then front.Token (token.Word run) (length run) else front.Fault cause.BadToken)
    go true e = is_word run h e
    go false e = tt

number_named : (n : Result ℕ ReadCause) (len : ℕ) → FrontNamed (number n len)
number_named (Ok n) len = tt
number_named (Err why) len = tt

string_named : (quoted : Quoted) → FrontNamed (string quoted)
string_named q.Open = tt
string_named q.Wrong = tt
string_named (q.Closed text n) = tt

single_named : (text : List ℕ) (n : ℕ) → FrontNamed (single text n)
single_named [] n = tt
single_named (c ∷ []) n = tt
single_named (c ∷ d ∷ rest) n = tt

character_named : (quoted : Quoted) → FrontNamed (character quoted)
character_named q.Open = tt
character_named q.Wrong = tt
character_named (q.Closed text n) = single_named text n

block_named : (n : Option ℕ) → FrontNamed (block n)
block_named None = tt
block_named (Some n) = tt

punct_named : (place : Option ℕ) → FrontNamed (punct place)
punct_named None = tt
punct_named (Some place) = tt

sign_named : (bytes : List ℕ) → FrontNamed (sign bytes)
sign_named bytes =
    chosen FrontNamed (starts_with nat_eq bytes (codes "//")) _ _ tt
    (chosen FrontNamed (starts_with nat_eq bytes (codes "/*")) _ _ (block_named (up_to_close (drop 2 bytes))) (punct_named (longest bytes)))

front_named : (bytes : List ℕ) → FrontNamed (front_of bytes)
front_named [] = tt
front_named (b ∷ rest) = go (class_of b) refl
  where
    go : (c : Class) → class_of b ≡ c → FrontNamed (of_class c (b ∷ rest))
    go class.Blank e = tt
    go class.Digit e = number_named (literal (take (name_run (b ∷ rest)) (b ∷ rest))) (name_run (b ∷ rest))
    go class.Letter e = word_named (take (name_run (b ∷ rest)) (b ∷ rest)) (has_bytes b rest e)
    go class.Quote e = string_named (constant 34 (drop 1 (b ∷ rest)))
    go class.Apostrophe e = character_named (constant 39 (drop 1 (b ∷ rest)))
    go class.Sign e = sign_named (b ∷ rest)

-- Directives.
included_named : (header : Option (List ℕ)) (at : ℕ) (bytes : List ℕ) → LineNamed (of.included header at bytes)
included_named (Some header) at bytes = tt
included_named None at bytes = tt

number_of_named : (name : At (List ℕ)) (f : Front) (at : ℕ) → IsName name.it → LineNamed (of.number_of name f at)
number_of_named name (front.Token (token.Number value) n) at h = h
number_of_named name f at h = tt

value_of_named : (name : At (List ℕ)) (f : Front) (at : ℕ) (bytes : List ℕ) → IsName name.it → LineNamed (of.value_of name f at bytes)
value_of_named name (front.Token (token.Number value) n) at bytes h = h
value_of_named name (front.Token (token.Punct place) n) at bytes h =
    chosen LineNamed (place == 1) _ _ (number_of_named name (front_of (drop (of.gap_len (drop n bytes)) (drop n bytes))) (at + n + of.gap_len (drop n bytes)) h) tt
value_of_named name f at bytes h = tt

name_named : (k : TokenKind) (at behind : ℕ) (bytes : List ℕ) → TokenNamed k → LineNamed (of.named k at behind bytes)
name_named (token.Word w) at behind bytes h =
    chosen LineNamed (is_name w) _ _
    (value_of_named (record { at = at; it = w }) (front_of (drop (of.gap_len bytes) bytes)) (behind + of.gap_len bytes) (drop (of.gap_len bytes) bytes) (word_is_name w h)) tt
name_named k at behind bytes h = tt

define_named : (f : Front) (at : ℕ) (bytes : List ℕ) → FrontNamed f → LineNamed (of.define_of f at bytes)
define_named (front.Token k n) at bytes h = name_named k at (at + n) (drop n bytes) h
define_named f at bytes h = tt

worded_named : (w : List ℕ) (at : ℕ) (bytes : List ℕ) → LineNamed (of.worded w at bytes)
worded_named w at bytes =
    let behind = drop (of.gap_len bytes) bytes in
    chosen LineNamed (pointwise nat_eq w (codes "include")) _ _ (included_named (of.header_at behind) (at + of.gap_len bytes) behind)
    (chosen LineNamed (pointwise nat_eq w (codes "define")) _ _ (define_named (front_of behind) (at + of.gap_len bytes) behind (front_named behind)) tt)

directive_named : (at : ℕ) (bytes : List ℕ) → LineNamed (of.directive at bytes)
directive_named at bytes =
    let behind = drop (of.gap_len (drop 1 bytes)) (drop 1 bytes) in
    worded_named (take (name_run behind) behind) (at + 1 + of.gap_len (drop 1 bytes) + name_run behind) (drop (name_run behind) behind)

-- Pieces.
token_named : (at : ℕ) (k : TokenKind) (n : ℕ) → TokenNamed k → PieceNamed (of_token at k n)
token_named at (token.Word w) n h = chosen PieceNamed (is_left_out w) _ _ tt h
token_named at k n h = tt

part_named : (p : Part) (at : ℕ) (k : TokenKind) (n : ℕ) → TokenNamed k → PieceNamed (in_part p at k n)
part_named part.Head at k n h = token_named at k n h
part_named part.Middle at k n h = token_named at k n h
part_named part.Tail at k n h = tt

plain_named : (p : Part) (at b : ℕ) (f : Front) → FrontNamed f → PieceNamed (of_front p at b f)
plain_named p at b (front.Token k n) h = part_named p at k n h
plain_named p at b f h = tt

line_named : (at : ℕ) (l : Line) → LineNamed l → PieceNamed (of_line at l)
line_named at (line.Define d end) h = h
line_named at l h = tt

piece_named : (p : Part) (at b : ℕ) (rest : List ℕ) → PieceNamed (piece_at p at (b ∷ rest))
piece_named p at b rest =
    chosen PieceNamed (is_hash p b) _ _ (line_named at (of.directive at (b ∷ rest)) (directive_named at (b ∷ rest))) (plain_named p at b (front_of (b ∷ rest)) (front_named (b ∷ rest)))

-- Each name among the lexemes is one.
abbrev pub AreNamed : List Lexeme → Type 0
AreNamed ls = AllByRecursion (λ l. LexemeNamed l.kind) ls

added_named : (at : ℕ) (it : Piece) → PieceNamed it → AreNamed (added at it).lexemes
added_named at (piece.Lexeme k p n) h = (h, tt)
added_named at (piece.Begun why) h = (tt, tt)
added_named at (piece.Gap p n) h = tt
added_named at (piece.Fault why) h = tt

behind_named : (ls more : List Lexeme) → AreNamed ls → AreNamed more → AreNamed (ls ++ more)
behind_named [] more h i = i
behind_named (l ∷ ls) more h i = (h.0, behind_named ls more h.1 i)

followed_named : (ls : List Lexeme) (fault : Option (At ReadCause)) (more : Scan) → AreNamed ls → AreNamed more.lexemes → AreNamed (followed ls fault more).lexemes
followed_named ls None more h i = behind_named ls more.lexemes h i
followed_named ls (Some why) more h i = h

scan_named : (p : Part) (at within : ℕ) (bytes : List ℕ) → AreNamed (scan_from p at within bytes).lexemes
unfolding scan_from
scan_named p at within [] = tt
scan_named p at (suc within) (b ∷ rest) = scan_named p (at + 1) within rest
scan_named p at zero (b ∷ rest) =
    let it = piece_at p at (b ∷ rest) in
    followed_named (added at it).lexemes (added at it).fault (scan_from (part_of it) (at + 1) (size_of it - 1) rest)
    (added_named at it (piece_named p at b rest)) (scan_named (part_of it) (at + 1) (size_of it - 1) rest)

pub source_named : (bytes : List ℕ) → AreNamed (scan_of bytes).lexemes
source_named bytes = scan_named part.Head 0 0 bytes
