-- The tokens of a printed expression, wherever they stand.
use Rattle.std.specs.Prelude.{◌≡◌, ℕ, suc, ◌+◌, ◌≤◌, pos, Bool, true, false, List, [], ◌∷◌, ◌++◌, Some, codes}
use Rattle.c_tree.specs.declared.lifted.LExpr.{LExpr}
use Rattle.c_tree.specs.declared.lifted.LExpr.TheVariants as l
use Rattle.c_tree.specs.declared.op.UnOp.{UnOp}
use Rattle.c_tree.specs.declared.op.UnOp.TheVariants as un
use Rattle.c_tree.specs.declared.op.BinOp.{BinOp}
use Rattle.c_tree.specs.declared.op.BinOp.TheVariants as bin
use Rattle.c_tree.specs.declared.token.Token.{Token}
use Rattle.c_tree.specs.declared.token.TokenKind.{TokenKind}
use Rattle.c_tree.specs.declared.token.TokenKind.TheVariants as token
use Rattle.std.specs.Fmt.{decimal}
use Rattle.c_tree.specs.Operators.{binding}
use Rattle.c_tree.specs.MapExpr.{Reads, named, array_named, member, operator}
use Rattle.c_grammar.specs.declared.kind.Kind.{Kind}
use Rattle.c_grammar.specs.declared.kind.Kind.TheVariants as kind
use Rattle.c_grammar.specs.Tokens.{map_word_kind}

-- a token of a kind that stands somewhere
abbrev pub token_at : TokenKind → ℕ → ℕ → Token
token_at k at len = record { kind = k; at = at; len = len }

-- the places of the operators' signs
abbrev pub un_place : UnOp → ℕ
un_place un.Neg = 1
un_place un.Not = 18
un_place un.Flip = 19

abbrev pub bin_place : BinOp → ℕ
bin_place bin.Add = 0
bin_place bin.Sub = 1
bin_place bin.Mul = 2
bin_place bin.Div = 3
bin_place bin.Rem = 4
bin_place bin.Shl = 5
bin_place bin.Shr = 6
bin_place bin.Lt = 7
bin_place bin.Le = 8
bin_place bin.Gt = 9
bin_place bin.Ge = 10
bin_place bin.Eq = 11
bin_place bin.Ne = 12
bin_place bin.BitAnd = 13
bin_place bin.BitXor = 14
bin_place bin.BitOr = 15
bin_place bin.And = 16
bin_place bin.Or = 17

-- a word that is a name somewhere in a mapping
abbrev pub is_any_name : Kind → Bool
is_any_name kind.Name = true
is_any_name kind.FunctionWord = true
is_any_name kind.GlobalWord = true
is_any_name kind.MutexWord = true
is_any_name kind.FieldWord = true
is_any_name kind.InitWord = true
is_any_name kind.PointWord = true
is_any_name kind.CheckWord = true
is_any_name kind.EntryWord = true
is_any_name kind.LoopWord = true
is_any_name kind.CallWord = true
is_any_name kind.BlockWord = true
is_any_name kind.NoneWord = true
is_any_name _ = false

abbrev pub IsAnyName : List ℕ → Type 0
IsAnyName word = is_any_name (map_word_kind word) ≡ true

-- The tokens of the name of a slot: a name, a name that another one hides, a temporary.
pub data Spelt : List ℕ → List Token → Type 0 where
  plain : {word : List ℕ} {at len : ℕ} → IsAnyName word → Spelt word (token_at (token.Word word) at len ∷ [])
  hidden : {word : List ℕ} {n a b c i j k : ℕ} → IsAnyName word
      → Spelt (word ++ 46 ∷ decimal n) (token_at (token.Word word) a i ∷ token_at (token.Punct 42) b j ∷ token_at (token.Number (pos n)) c k ∷ [])
  temporary : {n b c j k : ℕ} → Spelt (46 ∷ decimal n) (token_at (token.Punct 42) b j ∷ token_at (token.Number (pos n)) c k ∷ [])

-- The tokens of an expression that is asked to bind so tightly, with so many operators, where so many more constructs may open:
-- in brackets exactly where it binds less tightly. What a name is, and what an operator makes of its sides, is read back.
pub data Printed (r : Reads) : ℕ → ℕ → LExpr → List Token → ℕ → Type 0 where
  number : (room asked n at len : ℕ) → asked ≤ 11 → Printed r room asked (l.Num (pos n)) (token_at (token.Number (pos n)) at len ∷ []) 0
  null : (room asked at len : ℕ) → asked ≤ 11 → Printed r room asked l.Null (token_at (token.Word (codes "NULL")) at len ∷ []) 0
  name : (room asked : ℕ) {word : List ℕ} {x : LExpr} {ts : List Token} → asked ≤ 11 → Spelt word ts → named r word ≡ Some x → Printed r room asked x ts 0
  element : (asked at len a b : ℕ) {room n : ℕ} {word : List ℕ} {g : ℕ} {i : LExpr} {ts : List Token} → asked ≤ 11
      → IsAnyName word → array_named r word ≡ Some g → Printed r room 0 i ts n
      → Printed r (suc room) asked (l.Elem g i) (token_at (token.Word word) at len ∷ token_at (token.Punct 36) a 1 ∷ (ts ++ token_at (token.Punct 37) b 1 ∷ [])) n
  field : (asked at len a : ℕ) (word : List ℕ) {room n : ℕ} {p x : LExpr} {ts : List Token} → asked ≤ 11
      → IsAnyName word → member r (Some p) word ≡ Some x → Printed r room 11 p ts n
      → Printed r room asked x (ts ++ token_at (token.Punct 33) a 2 ∷ token_at (token.Word word) at len ∷ []) (n + 1)
  prefixed : (asked at : ℕ) {room n : ℕ} {op : UnOp} {a : LExpr} {ts : List Token} → asked ≤ 10 → Printed r room 10 a ts n
      → Printed r (suc room) asked (l.Un op a) (token_at (token.Punct (un_place op)) at 1 ∷ ts) n
  between : (asked at len : ℕ) {room n m : ℕ} {op : BinOp} {a b : LExpr} {ts us : List Token} → asked ≤ binding op
      → operator r op a b ≡ l.Bin op a b → Printed r room (binding op) a ts n → Printed r room (binding op + 1) b us m
      → Printed r room asked (l.Bin op a b) (ts ++ token_at (token.Punct (bin_place op)) at len ∷ us) (n + 1 + m)
  bracketed : (asked a b : ℕ) {room n : ℕ} {x : LExpr} {ts : List Token} → asked ≤ 11 → Printed r room 0 x ts n
      → Printed r (suc room) asked x (token_at (token.Punct 34) a 1 ∷ (ts ++ token_at (token.Punct 35) b 1 ∷ [])) n
