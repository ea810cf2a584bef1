-- What a source is: a program, or the first fault of its text.
use Rattle.std.specs.Prelude.{◌≡◌, ℕ, ◌<◌, ◌≤◌, List, [], ◌∷◌, length, map, Option, Some, None, slice_get}
use Rattle.c_tree.specs.declared.cause.ReadCause.{ReadCause}
use Rattle.c_tree.specs.declared.cause.ReadCause.TheVariants as cause
use Rattle.c_tree.specs.declared.program.At.{At}
use Rattle.c_tree.specs.declared.program.Program.{Program}
use Rattle.c_tokens.specs.declared.lexeme.Lexeme.{Lexeme}
use Rattle.c_tokens.specs.declared.lexeme.Scan.{Scan}
use Rattle.c_tokens.specs.Source.{scan_of}
use Rattle.c_grammar.specs.declared.value.Value.TheVariants as value
use Rattle.c_grammar.specs.Pieces.{Piece, lexeme_piece}
use Rattle.c_grammar.specs.Rules.{start}
use Rattle.c_grammar.specs.Reading.{IsLive, AreSound, IsFirst, IsCutShort, IsReading}

-- how many bytes a source may have
abbrev pub source_limit : ℕ
source_limit = 1048576

-- what the grammar sees of a source
abbrev pub pieces_of : Scan → List Piece
pieces_of scan = map lexeme_piece scan.lexemes

-- What is scanned of a source of so many bytes is the one text that is this program.
pub record IsProgramIn (scan : Scan) (len : ℕ) (program : Program) : Type 0 where
  pub clean : scan.fault ≡ None
  pub read : Program
  pub reading : IsReading start (pieces_of scan) (value.Program read ∷ [])
  pub whole : program ≡ record read { len = len }

-- The first fault of what is scanned has this offset and this cause. It stands at a token; or it is the scan's, and none of
-- the tokens before it is a fault; or it stands at the end of the source.
pub data IsFaultIn (scan : Scan) (len at : ℕ) (c : ReadCause) : Type 0 where
  at_token : (i : ℕ) (l : Lexeme) → slice_get scan.lexemes i ≡ Some l → at ≡ l.at → IsFirst start (pieces_of scan) i c → IsFaultIn scan len at c
  at_scan : scan.fault ≡ Some (record { at = at; it = c }) → IsLive start (pieces_of scan) → AreSound start (pieces_of scan) (length (pieces_of scan)) → IsFaultIn scan len at c
  at_end : scan.fault ≡ None → at ≡ len → c ≡ cause.Unexpected → IsCutShort start (pieces_of scan) → IsFaultIn scan len at c

-- The bytes are the one text of a source that is this program.
pub record IsProgramOf (bytes : List ℕ) (program : Program) : Type 0 where
  pub short : length bytes ≤ source_limit
  pub is : IsProgramIn (scan_of bytes) (length bytes) program

-- The first fault of a source has this offset and this cause. A source that is too long is asked for nothing else.
pub data IsFirstFault (bytes : List ℕ) (at : ℕ) (c : ReadCause) : Type 0 where
  too_long : source_limit < length bytes → at ≡ source_limit → c ≡ cause.TooLong → IsFirstFault bytes at c
  within : length bytes ≤ source_limit → IsFaultIn (scan_of bytes) (length bytes) at c → IsFirstFault bytes at c

-- A source has at most one answer: one program, or one first fault.
pub record OneAnswer : Type 0 where
  pub one_program : (bytes : List ℕ) (p q : Program) → IsProgramOf bytes p → IsProgramOf bytes q → p ≡ q
  pub one_fault : (bytes : List ℕ) (a b : ℕ) (c d : ReadCause) → IsFirstFault bytes a c → IsFirstFault bytes b d → (a ≡ b) × (c ≡ d)
  pub never_both : (bytes : List ℕ) (a : ℕ) (p : Program) (c : ReadCause) → IsProgramOf bytes p → IsFirstFault bytes a c → ⊥
