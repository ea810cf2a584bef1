-- The expression that tokens begin with.
use Rattle.std.specs.Prelude.{◌≡◌, ◌≢◌, ℕ, ◌+◌, ◌-◌, ◌<◌, ◌≤◌, List, [], ◌∷◌, length, map, take, drop, Some, slice_get}
use Rattle.std.specs.Option.{option_map_or}
use Rattle.c_tree.specs.declared.token.Token.{Token}
use Rattle.c_tree.specs.declared.cause.ReadCause.{ReadCause}
use Rattle.c_tree.specs.declared.cause.ReadCause.TheVariants as cause
use Rattle.c_tree.specs.declared.program.Expr.{Expr}
use Rattle.c_grammar.specs.declared.symbol.Symbol.{Symbol}
use Rattle.c_grammar.specs.declared.value.Value.{Value}
use Rattle.c_grammar.specs.declared.value.Value.TheVariants as value
use Rattle.c_grammar.specs.Pieces.{Piece, token_piece}
use Rattle.c_grammar.specs.Rules.{expr_start}
use Rattle.c_grammar.specs.Reading.{IsLive, Reads, IsFirst, IsCutShort, IsReading}

-- The first n tokens are live, and no more are.
pub record IsLongest (begin : List Symbol) (ps : List Piece) (n : ℕ) : Type 0 where
  pub within : n ≤ length ps
  pub live : IsLive begin (take n ps)
  pub longer : n < length ps → IsLive begin (take (n + 1) ps) → ⊥

-- what the grammar sees of the tokens from a position on
abbrev pub pieces_from : List Token → ℕ → List Piece
pieces_from ts from = map token_piece (drop from ts)

-- The longest live list from a position on ends before another, and is this expression.
pub record IsExprAt (ts : List Token) (from : ℕ) (x : Expr) (to : ℕ) : Type 0 where
  pub forth : from ≤ to
  pub longest : IsLongest expr_start (pieces_from ts from) (to - from)
  pub first : ℕ
  pub reading : IsReading expr_start (take (to - from) (pieces_from ts from)) (value.Operand (record { expr = x; first = first }) ∷ [])

-- where the last of the tokens ends, and 0 where there is none
abbrev pub end_of : List Token → ℕ
end_of ts = option_map_or (λ t. t.at + t.len) (slice_get ts (length ts - 1)) 0

-- No expression stands at a position. A token stands too deep or has too many operators before it; or the longest live list
-- is no expression, and ends before a token, or with the tokens.
pub data IsFaultAt (ts : List Token) (from at : ℕ) (c : ReadCause) : Type 0 where
  too_deep : (i : ℕ) (t : Token) → slice_get ts (from + i) ≡ Some t → at ≡ t.at → c ≡ cause.TooDeep → IsFirst expr_start (pieces_from ts from) i c → IsFaultAt ts from at c
  at_token : (i : ℕ) (t : Token) → slice_get ts (from + i) ≡ Some t → at ≡ t.at → IsFirst expr_start (pieces_from ts from) i c
      → IsLongest expr_start (pieces_from ts from) i → ((values : List Value) → Reads expr_start (take i (pieces_from ts from)) values → ⊥) → IsFaultAt ts from at c
  at_end : at ≡ end_of ts → c ≡ cause.Unexpected → IsCutShort expr_start (pieces_from ts from) → IsFaultAt ts from at c
