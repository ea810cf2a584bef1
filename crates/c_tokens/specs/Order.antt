-- Where tokens, lexemes and operators stand.
use Rattle.std.specs.Prelude.{◌≡◌, ℕ, ◌+◌, ◌<◌, ◌≤◌, true, nat_eq, List, [], ◌∷◌, map, length, Option, Some, None}
use Rattle.std.specs.List.{starts_with}
use Rattle.c_tree.specs.declared.cause.ReadCause.{ReadCause}
use Rattle.c_tree.specs.declared.program.At.{At}
use Rattle.c_tree.specs.declared.token.Token.{Token}
use Rattle.c_tokens.specs.declared.lexeme.Lexeme.{Lexeme}
use Rattle.c_tokens.specs.Operator.{operators, operator, longest}
use Rattle.c_tokens.specs.Source.{scan_of}

-- the offset of each token, and the number of its bytes
abbrev pub token_places : List Token → List (ℕ × ℕ)
token_places ts = map (λ (t : Token). (t.at, t.len)) ts

-- the offset of each lexeme, and the number of its bytes
abbrev pub lexeme_places : List Lexeme → List (ℕ × ℕ)
lexeme_places ls = map (λ (l : Lexeme). (l.at, l.len)) ls

-- each has a byte or more and stands behind the one before; all stand between two offsets
abbrev pub StandBetween : ℕ → List (ℕ × ℕ) → ℕ → Type 0
StandBetween from [] to = from ≤ to
StandBetween from (x ∷ xs) to = (from ≤ x.0) × (1 ≤ x.1) × StandBetween (x.0 + x.1) xs to

-- where the lexemes end: at the fault, or at the end of the text
abbrev pub end_of : Option (At ReadCause) → ℕ → ℕ
end_of None len = len
end_of (Some why) len = why.at

-- the lexemes stand in text order before the fault, and the fault within the text or at its end
abbrev pub InTextOrder : Type 0
InTextOrder = (bytes : List ℕ) → let s = scan_of bytes in StandBetween 0 (lexeme_places s.lexemes) (end_of s.fault (length bytes)) × (end_of s.fault (length bytes) ≤ length bytes)

-- no operator that the bytes begin with is longer than the one that is taken
abbrev pub TakesLongest : Type 0
TakesLongest = (bytes : List ℕ) (place other : ℕ) → longest bytes ≡ Some place → other < length operators → starts_with nat_eq bytes (operator other) ≡ true → length (operator other) ≤ length (operator place)
