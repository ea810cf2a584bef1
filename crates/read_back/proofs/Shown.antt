-- The text of an expression gives the tokens of a printed one.
use Rattle.std.proofs.Common.{◌≡◌, ℕ, suc, ◌+◌, ◌<◌, ◌≤◌, ◌^◌, Bool, true, false, pos, List, [], ◌∷◌, ◌++◌, length, refl, sym, ap, subst, ◌∙◌, arith, append_assoc}
use Rattle.std.specs.Prelude.{Some, nat_eq, nat_lt, if◌then◌else◌, ◌==◌, codes}
use Rattle.std.specs.Fmt.{decimal}
use Rattle.std.specs.Int.{IsInRange}
use Rattle.std.specs.Str.Parse.{AllDigits}
use Rattle.std.proofs.lemmas.Bool.Decides.{nat_tests}
use Rattle.std.proofs.lemmas.Fmt.{decimal_is_IsNumeral, decimal_nonempty}
use Rattle.std.proofs.lemmas.Str.Parse.{digit_from_value}
use Rattle.c_tree.specs.declared.lifted.LExpr.{LExpr}
use Rattle.c_tree.specs.declared.lifted.LExpr.TheVariants as l
use Rattle.c_tree.specs.declared.op.UnOp.{UnOp}
use Rattle.c_tree.specs.declared.op.UnOp.TheVariants as un
use Rattle.c_tree.specs.declared.op.BinOp.{BinOp}
use Rattle.c_tree.specs.declared.token.Token.{Token}
use Rattle.c_tree.specs.declared.token.TokenKind.TheVariants as token
use Rattle.c_tree.specs.Compute.{literals}
use Rattle.c_tree.specs.Names.{name_at, field_name}
use Rattle.c_tree.specs.Operators.{bin_text, binding}
use Rattle.c_tree.specs.MapExpr.{Reads, named, array_named, member, operator}
use Rattle.c_tree.specs.Shown.{strength, spaced, within, sign, signed, shown}
use Rattle.read_back.proofs.Printed.{token_at, un_place, bin_place, IsAnyName, Spelt, plain, hidden, temporary, Printed, number, null, name, element, field, prefixed, between, bracketed}
use Rattle.read_back.proofs.Scan.{Gives, Stops, both_give, blank_gives, left_paren, right_paren, left_bracket, right_bracket, arrow, dot, operator_gives, minus_gives, not_gives, flip_gives, IsWord, word_gives, number_gives}

-- a name, by its first byte and the others
pub record IsName (b : ℕ) (bytes : List ℕ) : Type 0 where
  pub word : IsWord b bytes
  pub any : IsAnyName (b ∷ bytes)
  pub equal : nat_eq 61 b ≡ false
  pub greater : nat_eq 62 b ≡ false

-- the text of a slot's name
pub data Spelling : List ℕ → Type 0 where
  plain_name : {b : ℕ} {bytes : List ℕ} → IsName b bytes → Spelling (b ∷ bytes)
  hidden_name : (n : ℕ) {b : ℕ} {bytes : List ℕ} → IsName b bytes → n ≤ 2147483647 → Spelling (b ∷ (bytes ++ 46 ∷ decimal n))
  temporary_name : (n : ℕ) → n ≤ 2147483647 → Spelling (46 ∷ decimal n)

-- What a text of an expression is asked: its names are names that lead to it, its numbers are literals, and it keeps the limits.
pub data Fit (r : Reads) : ℕ → ℕ → LExpr → ℕ → Type 0 where
  fit_number : (asked room n : ℕ) → asked ≤ 11 → n ≤ 2147483647 → Fit r asked room (l.Num (pos n)) 0
  fit_null : (asked room : ℕ) → asked ≤ 11 → Fit r asked room l.Null 0
  fit_name : (asked room : ℕ) (word : List ℕ) (x : LExpr) → asked ≤ 11 → Spelling word → named r word ≡ Some x → shown r x ≡ word → strength x ≡ 11 → Fit r asked room x 0
  fit_element : (asked b : ℕ) (bytes : List ℕ) (g : ℕ) (i : LExpr) {room n : ℕ} → asked ≤ 11 → IsName b bytes → array_named r (b ∷ bytes) ≡ Some g → name_at r.program 2 g ≡ b ∷ bytes
      → Fit r 0 room i n → Fit r asked (suc room) (l.Elem g i) n
  fit_field : (asked b : ℕ) (bytes : List ℕ) (p : LExpr) (owner f : ℕ) {room n : ℕ} → asked ≤ 11 → IsName b bytes → member r (Some p) (b ∷ bytes) ≡ Some (l.Field p owner f)
      → field_name r.program owner f ≡ b ∷ bytes → Fit r 11 room p n → Fit r asked room (l.Field p owner f) (n + 1)
  fit_prefixed : (asked : ℕ) (op : UnOp) (a : LExpr) {room n : ℕ} → asked ≤ 10 → Fit r 10 room a n → Fit r asked (suc room) (l.Un op a) n
  fit_between : (asked : ℕ) (op : BinOp) (a b : LExpr) {room n m : ℕ} → asked ≤ binding op → operator r op a b ≡ l.Bin op a b
      → Fit r (binding op) room a n → Fit r (binding op + 1) room b m → Fit r asked room (l.Bin op a b) (n + 1 + m)
  fit_bracketed : (asked : ℕ) (x : LExpr) {room n : ℕ} → strength x < asked → asked ≤ 11 → Fit r 0 room x n → Fit r asked (suc room) x n

-- the text of an operand
abbrev pub operand_text : Reads → ℕ → LExpr → List ℕ
operand_text r asked x = within asked (strength x) (shown r x)

-- The tokens that the text gives, which are those of the expression.
pub record Found (r : Reads) (asked room : ℕ) (x : LExpr) (n : ℕ) (rest : List ℕ) (at : ℕ) : Type 0 where
  pub tokens : List Token
  pub found : Gives (operand_text r asked x) rest at tokens
  pub printed : Printed r room asked x tokens n

-- The text begins with a byte that extends no sign, and gives the tokens of the expression before any bytes that extend no name.
pub record Scans (r : Reads) (asked room : ℕ) (x : LExpr) (n : ℕ) : Type 0 where
  pub head : ℕ
  pub tail : List ℕ
  pub text : operand_text r asked x ≡ head ∷ tail
  pub equal : nat_eq 61 head ≡ false
  pub greater : nat_eq 62 head ≡ false
  pub gives : (rest : List ℕ) (at : ℕ) → Stops rest → Found r asked room x n rest at

gives_as : (a b rest : List ℕ) (at : ℕ) (ts : List Token) → a ≡ b → Gives b rest at ts → Gives a rest at ts
gives_as a b rest at ts e g = subst (λ x. Gives x rest at ts) (sym e) g

not_below : (asked given : ℕ) → asked ≤ given → nat_lt given asked ≡ false
not_below asked given le = grind (arith, nat_tests, le)

is_below : (asked given : ℕ) → given < asked → nat_lt given asked ≡ true
is_below asked given lt = grind (arith, nat_tests, lt)

pub unbracketed : (asked given : ℕ) (text : List ℕ) → asked ≤ given → within asked given text ≡ text
unbracketed asked given text le = ap (λ t. if t then 40 ∷ text ++ 41 ∷ [] else text) (not_below asked given le)

in_brackets : (asked given : ℕ) (text : List ℕ) → given < asked → within asked given text ≡ 40 ∷ text ++ 41 ∷ []
in_brackets asked given text lt = ap (λ t. if t then 40 ∷ text ++ 41 ∷ [] else text) (is_below asked given lt)

-- the first byte of a number
digit_begins : (c : ℕ) → IsInRange 48 57 c → (nat_eq 61 c ≡ false) × (nat_eq 62 c ≡ false)
digit_begins c k = (grind (arith, nat_tests, k), grind (arith, nat_tests, k))

pub record Decimal (n : ℕ) : Type 0 where
  pub head : ℕ
  pub tail : List ℕ
  pub text : decimal n ≡ head ∷ tail
  pub equal : nat_eq 61 head ≡ false
  pub greater : nat_eq 62 head ≡ false

decimal_begins : (n : ℕ) → n ≤ 2147483647 → Decimal n
decimal_begins n le =
    let small : n < 2 ^ 64 = omega (arith, le) in
    go (decimal n) refl (decimal_is_IsNumeral n small).0.1 (decimal_nonempty n small)
  where
    go : (ds : List ℕ) → decimal n ≡ ds → AllDigits 10 ds → 0 < length ds → Decimal n
    go [] e all some = absurd (omega (arith, some))
    go (c ∷ cs) e all some = let b = digit_begins c (digit_from_value c all.0) in record { head = c; tail = cs; text = e; equal = b.0; greater = b.1 }

number_scans : (r : Reads) (asked room n : ℕ) → asked ≤ 11 → n ≤ 2147483647 → Scans r asked room (l.Num (pos n)) 0
unfolding literals
number_scans r asked room n le small =
    let d = decimal_begins n small in
    let same : operand_text r asked (l.Num (pos n)) ≡ decimal n = unbracketed asked 11 (decimal n) le in
    record {
      head = d.head;
      tail = d.tail;
      text = same ∙ d.text;
      equal = d.equal;
      greater = d.greater;
      gives = λ rest at stops. record {
        tokens = token_at (token.Number (pos n)) at (length (decimal n)) ∷ [];
        found = gives_as _ (decimal n) rest at (token_at (token.Number (pos n)) at (length (decimal n)) ∷ []) same (number_gives n rest at small stops);
        printed = number room asked n at (length (decimal n)) le;
      };
    }

null_word : IsWord 78 (codes "ULL")
null_word = record { letter = refl; run = refl; short = refl }

null_scans : (r : Reads) (asked room : ℕ) → asked ≤ 11 → Scans r asked room l.Null 0
unfolding literals
null_scans r asked room le =
    let same : operand_text r asked l.Null ≡ codes "NULL" = unbracketed asked 11 (codes "NULL") le in
    record {
      head = 78;
      tail = codes "ULL";
      text = same;
      equal = refl;
      greater = refl;
      gives = λ rest at stops. record {
        tokens = token_at (token.Word (codes "NULL")) at 4 ∷ [];
        found = gives_as _ (codes "NULL") rest at (token_at (token.Word (codes "NULL")) at 4 ∷ []) same (word_gives 78 (codes "ULL") rest at null_word stops);
        printed = null room asked at 4 le;
      };
    }

-- the tokens of a spelling
pub record Spells (word rest : List ℕ) (at : ℕ) : Type 0 where
  pub tokens : List Token
  pub found : Gives word rest at tokens
  pub spelt : Spelt word tokens

pub record Spelled (word : List ℕ) : Type 0 where
  pub head : ℕ
  pub tail : List ℕ
  pub text : word ≡ head ∷ tail
  pub equal : nat_eq 61 head ≡ false
  pub greater : nat_eq 62 head ≡ false
  pub gives : (rest : List ℕ) (at : ℕ) → Stops rest → Spells word rest at

spelled : {word : List ℕ} → Spelling word → Spelled word
spelled (plain_name {b = b} {bytes = bytes} is) = record {
  head = b;
  tail = bytes;
  text = refl;
  equal = is.equal;
  greater = is.greater;
  gives = λ rest at stops. record { tokens = token_at (token.Word (b ∷ bytes)) at (suc (length bytes)) ∷ []; found = word_gives b bytes rest at is.word stops; spelt = plain {word = b ∷ bytes} is.any };
}
spelled (hidden_name n {b = b} {bytes = bytes} is le) = record {
  head = b;
  tail = bytes ++ 46 ∷ decimal n;
  text = refl;
  equal = is.equal;
  greater = is.greater;
  gives = λ rest at stops. record {
    tokens = token_at (token.Word (b ∷ bytes)) at (suc (length bytes)) ∷ token_at (token.Punct 42) (at + suc (length bytes)) 1
        ∷ token_at (token.Number (pos n)) (at + suc (length bytes) + 1) (length (decimal n)) ∷ [];
    found = both_give (b ∷ bytes) (46 ∷ decimal n) rest at (token_at (token.Word (b ∷ bytes)) at (suc (length bytes)) ∷ [])
        (token_at (token.Punct 42) (at + suc (length bytes)) 1 ∷ token_at (token.Number (pos n)) (at + suc (length bytes) + 1) (length (decimal n)) ∷ [])
        (word_gives b bytes (46 ∷ (decimal n ++ rest)) at is.word refl)
        (both_give (46 ∷ []) (decimal n) rest (at + suc (length bytes)) (token_at (token.Punct 42) (at + suc (length bytes)) 1 ∷ [])
        (token_at (token.Number (pos n)) (at + suc (length bytes) + 1) (length (decimal n)) ∷ [])
        (dot (decimal n ++ rest) (at + suc (length bytes))) (number_gives n rest (at + suc (length bytes) + 1) le stops));
    spelt = hidden {word = b ∷ bytes} is.any;
  };
}
spelled (temporary_name n le) = record {
  head = 46;
  tail = decimal n;
  text = refl;
  equal = refl;
  greater = refl;
  gives = λ rest at stops. record {
    tokens = token_at (token.Punct 42) at 1 ∷ token_at (token.Number (pos n)) (at + 1) (length (decimal n)) ∷ [];
    found = both_give (46 ∷ []) (decimal n) rest at (token_at (token.Punct 42) at 1 ∷ []) (token_at (token.Number (pos n)) (at + 1) (length (decimal n)) ∷ [])
        (dot (decimal n ++ rest) at) (number_gives n rest (at + 1) le stops);
    spelt = temporary;
  };
}

name_scans : (r : Reads) (asked room : ℕ) (word : List ℕ) (x : LExpr) → asked ≤ 11 → Spelling word → named r word ≡ Some x → shown r x ≡ word → strength x ≡ 11 → Scans r asked room x 0
name_scans r asked room word x le s found text strong =
    let y = spelled s in
    let same : operand_text r asked x ≡ word = ap (λ g. within asked g (shown r x)) strong ∙ unbracketed asked 11 (shown r x) le ∙ text in
    record {
      head = y.head;
      tail = y.tail;
      text = same ∙ y.text;
      equal = y.equal;
      greater = y.greater;
      gives = λ rest at stops. let z = y.gives rest at stops in record {
        tokens = z.tokens;
        found = gives_as (operand_text r asked x) word rest at z.tokens same z.found;
        printed = name room asked le z.spelt found;
      };
    }

-- forms with parts

element_scans : (r : Reads) (asked room n b : ℕ) (bytes : List ℕ) (g : ℕ) (i : LExpr) → asked ≤ 11 → IsName b bytes → array_named r (b ∷ bytes) ≡ Some g → name_at r.program 2 g ≡ b ∷ bytes
    → Scans r 0 room i n → Scans r asked (suc room) (l.Elem g i) n
unfolding literals
element_scans r asked room n b bytes g i le is called_array called y =
    let inner = operand_text r 0 i in
    let last = inner ++ (93 ∷ []) in
    let right = (b ∷ bytes) ++ ((91 ∷ []) ++ last) in
    let plain_text : inner ≡ shown r i = unbracketed 0 (strength i) (shown r i) (omega arith) in
    let same : operand_text r asked (l.Elem g i) ≡ right =
    unbracketed asked 11 (name_at r.program 2 g ++ codes "[" ++ shown r i ++ codes "]") le ∙ ap (λ w. w ++ codes "[" ++ shown r i ++ codes "]") called
    ∙ ap (λ t. ((b ∷ bytes) ++ codes "[") ++ t ++ codes "]") (sym plain_text)
    ∙ append_assoc ((b ∷ bytes) ++ codes "[") inner (codes "]") ∙ append_assoc (b ∷ bytes) (codes "[") last in
    record {
      head = b;
      tail = bytes ++ ((91 ∷ []) ++ last);
      text = same;
      equal = is.equal;
      greater = is.greater;
      gives = λ rest at stops.
          let from = at + suc (length bytes) in
          let z = y.gives (93 ∷ rest) (from + 1) refl in
          let word = token_at (token.Word (b ∷ bytes)) at (suc (length bytes)) in
          let open_at = token_at (token.Punct 36) from 1 in
          let close_at = token_at (token.Punct 37) (from + 1 + length inner) 1 in
          record {
            tokens = word ∷ open_at ∷ (z.tokens ++ close_at ∷ []);
            found = gives_as (operand_text r asked (l.Elem g i)) right rest at (word ∷ open_at ∷ (z.tokens ++ close_at ∷ [])) same
                (both_give (b ∷ bytes) ((91 ∷ []) ++ last) rest at (word ∷ []) (open_at ∷ (z.tokens ++ close_at ∷ []))
                (word_gives b bytes (91 ∷ (last ++ rest)) at is.word refl)
                (both_give (91 ∷ []) last rest from (open_at ∷ []) (z.tokens ++ close_at ∷ [])
                (left_bracket (last ++ rest) from)
                (both_give inner (93 ∷ []) rest (from + 1) z.tokens (close_at ∷ []) z.found (right_bracket rest (from + 1 + length inner)))));
            printed = element asked at (suc (length bytes)) from (from + 1 + length inner) le is.any called_array z.printed;
          };
    }

-- what begins with a text that begins so
begins_with : (a b : List ℕ) (head : ℕ) (tail : List ℕ) → a ≡ head ∷ tail → a ++ b ≡ head ∷ (tail ++ b)
begins_with a b head tail e = ap (λ x. x ++ b) e

field_scans : (r : Reads) (asked room n b : ℕ) (bytes : List ℕ) (p : LExpr) (owner f : ℕ) → asked ≤ 11 → IsName b bytes → member r (Some p) (b ∷ bytes) ≡ Some (l.Field p owner f)
    → field_name r.program owner f ≡ b ∷ bytes → Scans r 11 room p n → Scans r asked room (l.Field p owner f) (n + 1)
unfolding literals
field_scans r asked room n b bytes p owner f le is found called y =
    let inner = operand_text r 11 p in
    let right = inner ++ ((45 ∷ 62 ∷ []) ++ (b ∷ bytes)) in
    let same : operand_text r asked (l.Field p owner f) ≡ right =
    unbracketed asked 11 (inner ++ codes "->" ++ field_name r.program owner f) le ∙ ap (λ w. inner ++ codes "->" ++ w) called ∙ append_assoc inner (codes "->") (b ∷ bytes) in
    record {
      head = y.head;
      tail = y.tail ++ ((45 ∷ 62 ∷ []) ++ (b ∷ bytes));
      text = same ∙ begins_with inner _ y.head y.tail y.text;
      equal = y.equal;
      greater = y.greater;
      gives = λ rest at stops.
          let z = y.gives (45 ∷ 62 ∷ ((b ∷ bytes) ++ rest)) at refl in
          let from = at + length inner in
          let sign_at = token_at (token.Punct 33) from 2 in
          let word = token_at (token.Word (b ∷ bytes)) (from + 2) (suc (length bytes)) in
          record {
            tokens = z.tokens ++ sign_at ∷ word ∷ [];
            found = gives_as (operand_text r asked (l.Field p owner f)) right rest at (z.tokens ++ sign_at ∷ word ∷ []) same
                (both_give inner ((45 ∷ 62 ∷ []) ++ (b ∷ bytes)) rest at z.tokens (sign_at ∷ word ∷ []) z.found
                (both_give (45 ∷ 62 ∷ []) (b ∷ bytes) rest from (sign_at ∷ []) (word ∷ []) (arrow ((b ∷ bytes) ++ rest) from) (word_gives b bytes rest (from + 2) is.word stops)));
            printed = field asked (from + 2) (suc (length bytes)) from (b ∷ bytes) le is.any found z.printed;
          };
    }

bracketed_scans : (r : Reads) (asked room n : ℕ) (x : LExpr) → strength x < asked → asked ≤ 11 → Scans r 0 room x n → Scans r asked (suc room) x n
bracketed_scans r asked room n x lt le y =
    let inner = operand_text r 0 x in
    let right = (40 ∷ []) ++ (inner ++ (41 ∷ [])) in
    let same : operand_text r asked x ≡ right =
    in_brackets asked (strength x) (shown r x) lt ∙ ap (λ t. 40 ∷ (t ++ 41 ∷ [])) (sym (unbracketed 0 (strength x) (shown r x) (omega arith))) in
    record {
      head = 40;
      tail = inner ++ (41 ∷ []);
      text = same;
      equal = refl;
      greater = refl;
      gives = λ rest at stops.
          let z = y.gives (41 ∷ rest) (at + 1) refl in
          let open_at = token_at (token.Punct 34) at 1 in
          let close_at = token_at (token.Punct 35) (at + 1 + length inner) 1 in
          record {
            tokens = open_at ∷ (z.tokens ++ close_at ∷ []);
            found = gives_as (operand_text r asked x) right rest at (open_at ∷ (z.tokens ++ close_at ∷ [])) same
                (both_give (40 ∷ []) (inner ++ (41 ∷ [])) rest at (open_at ∷ []) (z.tokens ++ close_at ∷ []) (left_paren ((inner ++ (41 ∷ [])) ++ rest) at)
                (both_give inner (41 ∷ []) rest (at + 1) z.tokens (close_at ∷ []) z.found (right_paren rest (at + 1 + length inner))));
            printed = bracketed asked at (at + 1 + length inner) le z.printed;
          };
    }

between_scans : (r : Reads) (asked room n m : ℕ) (op : BinOp) (a b : LExpr) → asked ≤ binding op → operator r op a b ≡ l.Bin op a b
    → Scans r (binding op) room a n → Scans r (binding op + 1) room b m → Scans r asked room (l.Bin op a b) (n + 1 + m)
unfolding literals
between_scans r asked room n m op a b le is x y =
    let left = operand_text r (binding op) a in
    let behind = operand_text r (binding op + 1) b in
    let middle = (32 ∷ []) ++ (bin_text op ++ ((32 ∷ []) ++ behind)) in
    let right = left ++ middle in
    let same : operand_text r asked (l.Bin op a b) ≡ right =
    unbracketed asked (binding op) (left ++ spaced (bin_text op) ++ behind) le ∙ append_assoc left (spaced (bin_text op)) behind
    ∙ ap (λ t. left ++ (32 ∷ t)) (append_assoc (bin_text op) (32 ∷ []) behind) in
    record {
      head = x.head;
      tail = x.tail ++ middle;
      text = same ∙ begins_with left middle x.head x.tail x.text;
      equal = x.equal;
      greater = x.greater;
      gives = λ rest at stops.
          let z = x.gives (middle ++ rest) at refl in
          let from = at + length left in
          let w = y.gives rest (from + 1 + length (bin_text op) + 1) stops in
          let sign_at = token_at (token.Punct (bin_place op)) (from + 1) (length (bin_text op)) in
          record {
            tokens = z.tokens ++ sign_at ∷ w.tokens;
            found = gives_as (operand_text r asked (l.Bin op a b)) right rest at (z.tokens ++ sign_at ∷ w.tokens) same
                (both_give left middle rest at z.tokens (sign_at ∷ w.tokens) z.found
                (both_give (32 ∷ []) (bin_text op ++ ((32 ∷ []) ++ behind)) rest from [] (sign_at ∷ w.tokens) (blank_gives ((bin_text op ++ ((32 ∷ []) ++ behind)) ++ rest) from)
                (both_give (bin_text op) ((32 ∷ []) ++ behind) rest (from + 1) (sign_at ∷ []) w.tokens (operator_gives op (behind ++ rest) (from + 1))
                (both_give (32 ∷ []) behind rest (from + 1 + length (bin_text op)) [] w.tokens (blank_gives (behind ++ rest) (from + 1 + length (bin_text op))) w.found))));
            printed = between asked (from + 1) (length (bin_text op)) le is z.printed w.printed;
          };
    }

-- a prefix operator whose sign stands before its operand
sign_scans : (r : Reads) (asked room n c : ℕ) (op : UnOp) (a : LExpr) → asked ≤ 10 → (y : Scans r 10 room a n) → operand_text r asked (l.Un op a) ≡ (c ∷ []) ++ operand_text r 10 a
    → nat_eq 61 c ≡ false → nat_eq 62 c ≡ false
    → ((rest : List ℕ) (at : ℕ) → Gives (c ∷ []) (y.head ∷ (y.tail ++ rest)) at (token_at (token.Punct (un_place op)) at 1 ∷ []))
    → Scans r asked (suc room) (l.Un op a) n
sign_scans r asked room n c op a le y same equal greater sign_gives =
    let inner = operand_text r 10 a in
    record {
      head = c;
      tail = inner;
      text = same;
      equal = equal;
      greater = greater;
      gives = λ rest at stops.
          let z = y.gives rest (at + 1) stops in
          let sign_at = token_at (token.Punct (un_place op)) at 1 in
          record {
            tokens = sign_at ∷ z.tokens;
            found = gives_as (operand_text r asked (l.Un op a)) ((c ∷ []) ++ inner) rest at (sign_at ∷ z.tokens) same
                (both_give (c ∷ []) inner rest at (sign_at ∷ []) z.tokens (subst (λ t. Gives (c ∷ []) (t ++ rest) at (sign_at ∷ [])) (sym y.text) (sign_gives rest at)) z.found);
            printed = prefixed asked at le z.printed;
          };
    }

-- a minus before a minus, with a space between them
spaced_scans : (r : Reads) (asked room n : ℕ) (a : LExpr) → asked ≤ 10 → (y : Scans r 10 room a n) → operand_text r asked (l.Un un.Neg a) ≡ (45 ∷ []) ++ ((32 ∷ []) ++ operand_text r 10 a)
    → Scans r asked (suc room) (l.Un un.Neg a) n
spaced_scans r asked room n a le y same =
    let inner = operand_text r 10 a in
    record {
      head = 45;
      tail = 32 ∷ inner;
      text = same;
      equal = refl;
      greater = refl;
      gives = λ rest at stops.
          let z = y.gives rest (at + 1 + 1) stops in
          let sign_at = token_at (token.Punct 1) at 1 in
          record {
            tokens = sign_at ∷ z.tokens;
            found = gives_as (operand_text r asked (l.Un un.Neg a)) ((45 ∷ []) ++ ((32 ∷ []) ++ inner)) rest at (sign_at ∷ z.tokens) same
                (both_give (45 ∷ []) ((32 ∷ []) ++ inner) rest at (sign_at ∷ []) z.tokens (minus_gives 32 (inner ++ rest) at refl refl refl)
                (both_give (32 ∷ []) inner rest (at + 1) [] z.tokens (blank_gives (inner ++ rest) (at + 1)) z.found));
            printed = prefixed asked at le z.printed;
          };
    }

swapped : (a b : ℕ) (t : Bool) → (a == b) ≡ t → nat_eq b a ≡ t
swapped a b true e = grind (arith, nat_tests, e)
swapped a b false e = grind (arith, nat_tests, e)

prefixed_scans : (r : Reads) (asked room n : ℕ) (op : UnOp) (a : LExpr) → asked ≤ 10 → Scans r 10 room a n → Scans r asked (suc room) (l.Un op a) n
unfolding literals
prefixed_scans r asked room n un.Neg a le y = go (y.head == 45) refl
  where
    go : (t : Bool) → (y.head == 45) ≡ t → Scans r asked (suc room) (l.Un un.Neg a) n
    go true e = spaced_scans r asked room n a le y
        (unbracketed asked 10 (signed (codes "-") (operand_text r 10 a)) le ∙ ap (signed (codes "-")) y.text ∙ ap (λ t. sign (codes "-") t ++ (y.head ∷ y.tail)) e
        ∙ ap (λ t. 45 ∷ 32 ∷ t) (sym y.text))
    go false e = sign_scans r asked room n 45 un.Neg a le y
        (unbracketed asked 10 (signed (codes "-") (operand_text r 10 a)) le ∙ ap (signed (codes "-")) y.text ∙ ap (λ t. sign (codes "-") t ++ (y.head ∷ y.tail)) e
        ∙ ap (λ t. 45 ∷ t) (sym y.text))
        refl refl (λ rest at. minus_gives y.head (y.tail ++ rest) at (swapped y.head 45 false e) y.equal y.greater)
prefixed_scans r asked room n un.Not a le y =
    sign_scans r asked room n 33 un.Not a le y (unbracketed asked 10 (signed (codes "!") (operand_text r 10 a)) le) refl refl (λ rest at. not_gives y.head (y.tail ++ rest) at y.equal)
prefixed_scans r asked room n un.Flip a le y =
    sign_scans r asked room n 126 un.Flip a le y (unbracketed asked 10 (signed (codes "~") (operand_text r 10 a)) le) refl refl (λ rest at. flip_gives (y.head ∷ (y.tail ++ rest)) at)

pub scans : {r : Reads} {asked room : ℕ} {x : LExpr} {n : ℕ} → Fit r asked room x n → Scans r asked room x n
scans {r = r} (fit_number asked room n le small) = number_scans r asked room n le small
scans {r = r} (fit_null asked room le) = null_scans r asked room le
scans {r = r} (fit_name asked room word x le s found text strong) = name_scans r asked room word x le s found text strong
scans {r = r} (fit_element asked b bytes g i {room = room} {n = n} le is found called f) = element_scans r asked room n b bytes g i le is found called (scans f)
scans {r = r} (fit_field asked b bytes p owner field_number {room = room} {n = n} le is found called f) = field_scans r asked room n b bytes p owner field_number le is found called (scans f)
scans {r = r} (fit_prefixed asked op a {room = room} {n = n} le f) = prefixed_scans r asked room n op a le (scans f)
scans {r = r} (fit_between asked op a b {room = room} {n = n} {m = m} le is f g) = between_scans r asked room n m op a b le is (scans f) (scans g)
scans {r = r} (fit_bracketed asked x {room = room} {n = n} lt le f) = bracketed_scans r asked room n x lt le (scans f)
