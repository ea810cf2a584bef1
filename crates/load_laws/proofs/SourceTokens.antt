-- The lexemes of texts that are put together.
use Rattle.std.proofs.Common.{◌≡◌, ℕ, zero, suc, ◌+◌, ◌-◌, ◌^◌, ◌<◌, ◌≤◌, Bool, true, false, pos, List, [], ◌∷◌, ◌++◌, length, take, map, Option, Some, None, refl, sym, ap, ◌∙◌, arith, append_assoc}
use Rattle.std.specs.Prelude.{nat_eq, nat_le, not, ◌==◌, if◌then◌else◌, is_none, unwrap_or, Ok}
use Rattle.std.specs.List.{prefix_len, list_all}
use Rattle.std.specs.Fmt.{decimal}
use Rattle.std.specs.Int.{IsInRange}
use Rattle.std.specs.Str.Parse.{AllDigits}
use Rattle.std.proofs.lemmas.List.{length-append}
use Rattle.std.proofs.lemmas.Bool.Decides.{nat_tests}
use Rattle.std.proofs.lemmas.Fmt.{decimal_is_IsNumeral, decimal_nonempty, length-decimal-le}
use Rattle.std.proofs.lemmas.Str.Parse.{digit_from_value}
use Rattle.c_tree.proofs.BoolLemmas.{and_first, and_last}
use Rattle.c_tree.specs.declared.cause.ReadCause.TheVariants as cause
use Rattle.c_tree.specs.declared.token.TokenKind.{TokenKind}
use Rattle.c_tree.specs.declared.token.TokenKind.TheVariants as token
use Rattle.c_tokens.specs.declared.class.Class.TheVariants as class
use Rattle.c_tokens.specs.declared.front.Front.{Front}
use Rattle.c_tokens.specs.declared.front.Front.TheVariants as front
use Rattle.c_tokens.specs.declared.lexeme.Lexeme.{Lexeme}
use Rattle.c_tokens.specs.declared.lexeme.LexemeKind.TheVariants as lexeme_kind
use Rattle.c_tokens.specs.declared.piece.Part.{Part}
use Rattle.c_tokens.specs.declared.piece.Part.TheVariants as part
use Rattle.c_tokens.specs.declared.piece.Piece.{Piece}
use Rattle.c_tokens.specs.declared.piece.Piece.TheVariants as piece
use Rattle.c_tokens.specs.Byte.{is_blank, is_digit, is_name_byte, class_of, name_run}
use Rattle.c_tokens.specs.Front.{front_of, of_class, word, number}
use Rattle.c_tokens.specs.Literal.{literal}
use Rattle.c_tokens.specs.Piece.{piece_at, size_of, part_of, of_front, of_token, is_hash, fault}
use Rattle.c_tokens.specs.Source.{scan, lexeme, added, followed, before, scan_from}
use Rattle.c_tokens.specs.Word.{is_left_out}
use Rattle.load_laws.proofs.Programs.{function_name}
use Rattle.read_back.proofs.Scan.{word_run, taken, digits_run, literal_decimal}

-- Before other bytes, these give these lexemes, from one part of a line to another.
abbrev pub Gives : Part → List ℕ → List ℕ → ℕ → List Lexeme → Part → Type 0
Gives p bytes rest at ls q = scan_from p at 0 (bytes ++ rest) ≡ before (scan ls None) (scan_from q (at + length bytes) 0 rest)

-- two texts
pub both_give : (p q r : Part) (a b rest : List ℕ) (at mid : ℕ) (ls ms : List Lexeme) → at + length a ≡ mid → Gives p a (b ++ rest) at ls q → Gives q b rest mid ms r → Gives p (a ++ b) rest at (ls ++ ms) r
both_give p q r a b rest at mid ls ms e first second =
    let sum : mid + length b ≡ at + length (a ++ b) = omega (arith, length-append a b, e) in
    let more = scan_from r (at + length (a ++ b)) 0 rest in
    ap (scan_from p at 0) (append_assoc a b rest) ∙ first ∙ ap (λ n. before (scan ls None) (scan_from q n 0 (b ++ rest))) e ∙ ap (before (scan ls None)) second
    ∙ ap (λ n. before (scan ls None) (before (scan ms None) (scan_from r n 0 rest))) sum
    ∙ ap (λ zs. scan zs more.fault) (sym (append_assoc ls ms more.lexemes))

-- A text without numbers.

-- a lexeme further on
abbrev pub moved : ℕ → Lexeme → Lexeme
moved base l = lexeme l.kind (base + l.at) l.len

-- the lexemes of bytes that others follow, where the first `within` bytes belong to what began before
unfoldable pub lexed : Part → ℕ → ℕ → List ℕ → List ℕ → List Lexeme
lexed p at within [] rest = []
lexed p at (suc within) (b ∷ bytes) rest = lexed p (at + 1) within bytes rest
lexed p at zero (b ∷ bytes) rest = let it = piece_at p at (b ∷ (bytes ++ rest)) in (added at it).lexemes ++ lexed (part_of it) (at + 1) (size_of it - 1) bytes rest

-- the part of the line behind them; nothing where they have a fault, or do not end with a lexeme
unfoldable pub ended : Part → ℕ → ℕ → List ℕ → List ℕ → Option Part
ended p at zero [] rest = Some p
ended p at (suc within) [] rest = None
ended p at (suc within) (b ∷ bytes) rest = ended p (at + 1) within bytes rest
ended p at zero (b ∷ bytes) rest =
    let it = piece_at p at (b ∷ (bytes ++ rest)) in
    if is_none (added at it).fault then ended (part_of it) (at + 1) (size_of it - 1) bytes rest else None

none_of : {X : Type 0} (o : Option X) → is_none o ≡ true → o ≡ None
none_of None h = refl
none_of (Some x) h = cc

if_first : {X : Type 0} (b : Bool) (o : Option X) (x : X) → (if b then o else None) ≡ Some x → b ≡ true
if_first true o x h = refl
if_first false o x h = cc

if_then : {X : Type 0} (b : Bool) (o : Option X) (x : X) → (if b then o else None) ≡ Some x → o ≡ Some x
if_then true o x h = h
if_then false o x h = cc

lexed_gives : (p q : Part) (at within : ℕ) (bytes rest : List ℕ) → ended p at within bytes rest ≡ Some q
    → scan_from p at within (bytes ++ rest) ≡ before (scan (lexed p at within bytes rest) None) (scan_from q (at + length bytes) 0 rest)
unfolding scan_from lexed ended
lexed_gives p q at zero [] rest h =
    let e : at ≡ at + 0 = omega arith in
    let same : p ≡ q = same_some p q h in
    ap (λ r. scan_from r at 0 rest) same ∙ ap (λ n. scan_from q n 0 rest) e
  where
    same_some : (p q : Part) → Some p ≡ Some q → p ≡ q
    same_some p q h = ap (λ o. unwrap_or o p) h
lexed_gives p q at (suc within) [] rest h = cc
lexed_gives p q at (suc within) (b ∷ bytes) rest h =
    let e : at + 1 + length bytes ≡ at + suc (length bytes) = omega arith in
    lexed_gives p q (at + 1) within bytes rest h ∙ ap (λ n. before (scan (lexed p (at + 1) within bytes rest) None) (scan_from q n 0 rest)) e
lexed_gives p q at zero (b ∷ bytes) rest h =
    let e : at + 1 + length bytes ≡ at + suc (length bytes) = omega arith in
    let it = piece_at p at (b ∷ (bytes ++ rest)) in
    let clean : (added at it).fault ≡ None = none_of _ (if_first _ _ _ h) in
    let ls = lexed (part_of it) (at + 1) (size_of it - 1) bytes rest in
    let more = scan_from q (at + suc (length bytes)) 0 rest in
    let ih = lexed_gives (part_of it) q (at + 1) (size_of it - 1) bytes rest (if_then _ _ _ h) in
    ap (before (added at it)) (ih ∙ ap (λ n. before (scan ls None) (scan_from q n 0 rest)) e)
    ∙ ap (λ o. followed (added at it).lexemes o (before (scan ls None) more)) clean
    ∙ ap (λ zs. scan zs more.fault) (sym (append_assoc (added at it).lexemes ls more.lexemes))

-- Further on, the lexemes are the same.

abbrev pub has_no_hash : List ℕ → Bool
has_no_hash bytes = list_all (λ b. not (b == 35)) bytes

-- one piece further on, which is no directive
abbrev SamePiece : ℕ → ℕ → Piece → Piece → Type 0
SamePiece base at x y = ((added (base + at) x).lexemes ≡ map (moved base) (added at y).lexemes) × (is_none (added (base + at) x).fault ≡ is_none (added at y).fault) × (part_of x ≡ part_of y) × (size_of x ≡ size_of y)

token_moves : (base at : ℕ) (k : TokenKind) (n : ℕ) → SamePiece base at (of_token (base + at) k n) (of_token at k n)
token_moves base at (token.Word w) n = go (is_left_out w)
  where
    go : (b : Bool) → SamePiece base at (if b then fault (base + at) (cause.LeftOut w) else piece.Lexeme (lexeme_kind.Token (token.Word w)) part.Middle n) (if b then fault at (cause.LeftOut w) else piece.Lexeme (lexeme_kind.Token (token.Word w)) part.Middle n)
    go true = (refl, refl, refl, refl)
    go false = (refl, refl, refl, refl)
token_moves base at k n = (refl, refl, refl, refl)

front_moves : (p : Part) (base at b : ℕ) (f : Front) → SamePiece base at (of_front p (base + at) b f) (of_front p at b f)
front_moves p base at b front.End = (refl, refl, refl, refl)
front_moves p base at b front.Blank = (refl, refl, refl, refl)
front_moves p base at b (front.Comment n) = (refl, refl, refl, refl)
front_moves part.Head base at b (front.Token k n) = token_moves base at k n
front_moves part.Middle base at b (front.Token k n) = token_moves base at k n
front_moves part.Tail base at b (front.Token k n) = (refl, refl, refl, refl)
front_moves p base at b (front.Fault why) = (refl, refl, refl, refl)

no_hash : (p : Part) (b : ℕ) → (not (b == 35)) ≡ true → is_hash p b ≡ false
no_hash part.Head b h = go (b == 35) h
  where
    go : (t : Bool) → not t ≡ true → t ≡ false
    go true h = cc
    go false h = refl
no_hash part.Middle b h = refl
no_hash part.Tail b h = refl

piece_moves : (p : Part) (base at b : ℕ) (rest : List ℕ) → (not (b == 35)) ≡ true → SamePiece base at (piece_at p (base + at) (b ∷ rest)) (piece_at p at (b ∷ rest))
piece_moves p base at b rest h = let e = no_hash p b h in rw e (front_moves p base at b (front_of (b ∷ rest)))

append_moves : (base : ℕ) (ls ms : List Lexeme) → map (moved base) ls ++ map (moved base) ms ≡ map (moved base) (ls ++ ms)
append_moves base [] ms = refl
append_moves base (l ∷ ls) ms = ap (λ xs. moved base l ∷ xs) (append_moves base ls ms)

lexed_moves : (p : Part) (base at within : ℕ) (bytes rest : List ℕ) → has_no_hash bytes ≡ true → lexed p (base + at) within bytes rest ≡ map (moved base) (lexed p at within bytes rest)
unfolding lexed
lexed_moves p base at zero [] rest h = refl
lexed_moves p base at (suc within) [] rest h = refl
lexed_moves p base at (suc within) (b ∷ bytes) rest h =
    let e : base + at + 1 ≡ base + (at + 1) = omega arith in
    ap (λ n. lexed p n within bytes rest) e ∙ lexed_moves p base (at + 1) within bytes rest (and_last _ _ h)
lexed_moves p base at zero (b ∷ bytes) rest h =
    let e : base + at + 1 ≡ base + (at + 1) = omega arith in
    let x = piece_at p (base + at) (b ∷ (bytes ++ rest)) in
    let y = piece_at p at (b ∷ (bytes ++ rest)) in
    let same = piece_moves p base at b (bytes ++ rest) (and_first _ _ h) in
    let ls = map (moved base) (added at y).lexemes in
    ap (λ zs. zs ++ lexed (part_of x) (base + at + 1) (size_of x - 1) bytes rest) same.0
    ∙ ap (λ n. ls ++ lexed (part_of x) n (size_of x - 1) bytes rest) e
    ∙ ap (λ q. ls ++ lexed q (base + (at + 1)) (size_of x - 1) bytes rest) same.2
    ∙ ap (λ n. ls ++ lexed (part_of y) (base + (at + 1)) (n - 1) bytes rest) same.3
    ∙ ap (λ zs. ls ++ zs) (lexed_moves (part_of y) base (at + 1) (size_of y - 1) bytes rest (and_last _ _ h))
    ∙ append_moves base (added at y).lexemes (lexed (part_of y) (at + 1) (size_of y - 1) bytes rest)

ended_moves : (p : Part) (base at within : ℕ) (bytes rest : List ℕ) → has_no_hash bytes ≡ true → ended p (base + at) within bytes rest ≡ ended p at within bytes rest
unfolding ended
ended_moves p base at zero [] rest h = refl
ended_moves p base at (suc within) [] rest h = refl
ended_moves p base at (suc within) (b ∷ bytes) rest h =
    let e : base + at + 1 ≡ base + (at + 1) = omega arith in
    ap (λ n. ended p n within bytes rest) e ∙ ended_moves p base (at + 1) within bytes rest (and_last _ _ h)
ended_moves p base at zero (b ∷ bytes) rest h =
    let e : base + at + 1 ≡ base + (at + 1) = omega arith in
    let x = piece_at p (base + at) (b ∷ (bytes ++ rest)) in
    let y = piece_at p at (b ∷ (bytes ++ rest)) in
    let same = piece_moves p base at b (bytes ++ rest) (and_first _ _ h) in
    let clean = is_none (added at y).fault in
    ap (λ t. if t then ended (part_of x) (base + at + 1) (size_of x - 1) bytes rest else None) same.1
    ∙ ap (λ n. if clean then ended (part_of x) n (size_of x - 1) bytes rest else None) e
    ∙ ap (λ q. if clean then ended q (base + (at + 1)) (size_of x - 1) bytes rest else None) same.2
    ∙ ap (λ n. if clean then ended (part_of y) (base + (at + 1)) (n - 1) bytes rest else None) same.3
    ∙ ap (λ o. if clean then o else None) (ended_moves (part_of y) base (at + 1) (size_of y - 1) bytes rest (and_last _ _ h))

-- the lexemes of bytes that others follow
abbrev pub lexemes_of : Part → List ℕ → List ℕ → List Lexeme
lexemes_of p bytes rest = lexed p 0 0 bytes rest

pub chunk_gives : (p q : Part) (bytes rest : List ℕ) (at : ℕ) → ended p 0 0 bytes rest ≡ Some q → has_no_hash bytes ≡ true → Gives p bytes rest at (map (moved at) (lexemes_of p bytes rest)) q
chunk_gives p q bytes rest at h plain =
    let e : at ≡ at + 0 = omega arith in
    let ends : ended p at 0 bytes rest ≡ Some q = ap (λ n. ended p n 0 bytes rest) e ∙ ended_moves p at 0 0 bytes rest plain ∙ h in
    lexed_gives p q at 0 bytes rest ends
    ∙ ap (λ ls. before (scan ls None) (scan_from q (at + length bytes) 0 rest)) (ap (λ n. lexed p n 0 bytes rest) e ∙ lexed_moves p at 0 0 bytes rest plain)

-- Names and numbers.

-- No name or number goes on in what follows.
abbrev pub Stops : List ℕ → Type 0
Stops [] = Unit {0}
Stops (b ∷ rest) = is_name_byte b ≡ false

stops_run : (rest : List ℕ) → Stops rest → prefix_len is_name_byte rest ≡ 0
stops_run [] s = refl
stops_run (b ∷ rest) s = rw s refl

skipped : (p : Part) (at : ℕ) (bytes rest : List ℕ) → scan_from p at (length bytes) (bytes ++ rest) ≡ scan_from p (at + length bytes) 0 rest
unfolding scan_from
skipped p at [] rest = let e : at + 0 ≡ at = omega arith in rw e refl
skipped p at (b ∷ bytes) rest = let e : at + suc (length bytes) ≡ at + 1 + length bytes = omega arith in rw e (skipped p (at + 1) bytes rest)

token_gives : (b : ℕ) (bytes rest : List ℕ) (at : ℕ) (k : TokenKind) → front_of (b ∷ (bytes ++ rest)) ≡ front.Token k (suc (length bytes))
    → of_token at k (suc (length bytes)) ≡ piece.Lexeme (lexeme_kind.Token k) part.Middle (suc (length bytes))
    → Gives part.Middle (b ∷ bytes) rest at (lexeme (lexeme_kind.Token k) at (suc (length bytes)) ∷ []) part.Middle
unfolding scan_from
token_gives b bytes rest at k is token =
    let n = suc (length bytes) in
    let less : n - 1 ≡ length bytes = omega arith in
    let further : at + suc (length bytes) ≡ at + 1 + length bytes = omega arith in
    let it = piece.Lexeme (lexeme_kind.Token k) part.Middle n in
    let whole : piece_at part.Middle at (b ∷ (bytes ++ rest)) ≡ it = ap (of_front part.Middle at b) is ∙ token in
    ap (λ x. before (added at x) (scan_from (part_of x) (at + 1) (size_of x - 1) (bytes ++ rest))) whole
    ∙ ap (λ m. before (added at it) (scan_from part.Middle (at + 1) m (bytes ++ rest))) less
    ∙ ap (before (added at it)) (skipped part.Middle (at + 1) bytes rest)
    ∙ ap (λ m. before (added at it) (scan_from part.Middle m 0 rest)) (sym further)

-- the digits of a number
pub record Digits (k : ℕ) : Type 0 where
  pub head : ℕ
  pub tail : List ℕ
  pub are : decimal k ≡ head ∷ tail
  pub digit : IsInRange 48 57 head
  pub all : AllDigits 10 (decimal k)
  pub short : length (decimal k) ≤ 4

digits_in : (ds : List ℕ) → AllDigits 10 ds → 0 < length ds → (c : ℕ) × (cs : List ℕ) × (ds ≡ c ∷ cs) × IsInRange 48 57 c
digits_in [] all some = absurd (omega (arith, some))
digits_in (c ∷ cs) all some = (c, cs, refl, digit_from_value c all.0)

pub digits_of : (k : ℕ) → k ≤ 1001 → Digits k
digits_of k le =
    let small : k < 2 ^ 64 = omega (arith, le) in
    let all = (decimal_is_IsNumeral k small).0.1 in
    let d = digits_in (decimal k) all (decimal_nonempty k small) in
    record { head = d.0; tail = d.1; are = d.2; digit = d.3; all = all; short = length-decimal-le 4 k (omega arith) (omega (arith, le)) small }

not_left_out : (ds : List ℕ) (c : ℕ) (cs : List ℕ) → ds ≡ c ∷ cs → IsInRange 48 57 c → is_left_out (102 ∷ ds) ≡ false
not_left_out ds c cs e r =
    let l : nat_eq 108 c ≡ false = grind (arith, nat_tests, r) in
    rw e (rw l refl)

-- the lexeme of the name of the function k
abbrev pub name_lexeme : ℕ → ℕ → Lexeme
name_lexeme k at = lexeme (lexeme_kind.Token (token.Word (function_name k))) at (suc (length (decimal k)))

pub name_gives : (k : ℕ) (rest : List ℕ) (at : ℕ) → k ≤ 1001 → Stops rest → Gives part.Middle (function_name k) rest at (name_lexeme k at ∷ []) part.Middle
name_gives k rest at le stops =
    let d = digits_of k le in
    let name = function_name k in
    let run : name_run (102 ∷ (decimal k ++ rest)) ≡ suc (length (decimal k)) = word_run is_name_byte name rest (digits_run (decimal k) d.all) (stops_run rest stops) in
    let short : nat_le (suc (length (decimal k))) 64 ≡ true = grind (arith, nat_tests, d.short) in
    token_gives 102 (decimal k) rest at (token.Word name)
    (ap (λ n. word (take n (102 ∷ (decimal k ++ rest)))) run ∙ ap word (taken name rest) ∙ ap (λ t. if t then front.Token (token.Word name) (suc (length (decimal k))) else front.Fault cause.BadToken) short)
    (ap (λ t. if t then fault at (cause.LeftOut name) else piece.Lexeme (lexeme_kind.Token (token.Word name)) part.Middle (suc (length (decimal k)))) (not_left_out (decimal k) d.head d.tail d.are d.digit))

-- the lexeme of a number
abbrev pub number_lexeme : ℕ → ℕ → Lexeme
number_lexeme k at = lexeme (lexeme_kind.Token (token.Number (pos k))) at (length (decimal k))

digit_class : (c : ℕ) → IsInRange 48 57 c → class_of c ≡ class.Digit
digit_class c r = rw (no_blank, is_digit_true) refl
  where
    no_blank : is_blank c ≡ false
    no_blank = grind (arith, nat_tests, r)

    is_digit_true : is_digit c ≡ true
    is_digit_true = grind (arith, nat_tests, r)

digits_give : (ds rest : List ℕ) (n at : ℕ) → AllDigits 10 ds → 0 < length ds → literal ds ≡ Ok n → Stops rest
    → Gives part.Middle ds rest at (lexeme (lexeme_kind.Token (token.Number (pos n))) at (length ds) ∷ []) part.Middle
digits_give [] rest n at all some is stops = absurd (omega (arith, some))
digits_give (c ∷ cs) rest n at all some is stops =
    let run : name_run (c ∷ cs ++ rest) ≡ suc (length cs) = word_run is_name_byte (c ∷ cs) rest (digits_run (c ∷ cs) all) (stops_run rest stops) in
    token_gives c cs rest at (token.Number (pos n))
    (ap (λ k. of_class k (c ∷ cs ++ rest)) (digit_class c (digit_from_value c all.0))
    ∙ ap (λ k. number (literal (take k (c ∷ cs ++ rest))) k) run ∙ ap (λ xs. number (literal xs) (suc (length cs))) (taken (c ∷ cs) rest)
    ∙ ap (λ x. number x (suc (length cs))) is) refl

pub number_gives : (k : ℕ) (rest : List ℕ) (at : ℕ) → k ≤ 1001 → Stops rest → Gives part.Middle (decimal k) rest at (number_lexeme k at ∷ []) part.Middle
number_gives k rest at le stops =
    let d = digits_of k le in
    digits_give (decimal k) rest k at d.all (decimal_nonempty k (omega (arith, le))) (literal_decimal k (omega (arith, le))) stops
