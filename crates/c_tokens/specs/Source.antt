-- What a C source is made of, up to its first fault.
use Rattle.std.specs.Prelude.{ℕ, zero, suc, ◌+◌, ◌-◌, List, [], ◌∷◌, ◌++◌, Option, Some, None}
use Rattle.c_tree.specs.declared.cause.ReadCause.{ReadCause}
use Rattle.c_tree.specs.declared.program.At.{At}
use Rattle.c_tokens.specs.declared.lexeme.Lexeme.{Lexeme}
use Rattle.c_tokens.specs.declared.lexeme.LexemeKind.{LexemeKind}
use Rattle.c_tokens.specs.declared.lexeme.LexemeKind.TheVariants as kind
use Rattle.c_tokens.specs.declared.lexeme.Scan.{Scan}
use Rattle.c_tokens.specs.declared.piece.Part.{Part}
use Rattle.c_tokens.specs.declared.piece.Part.TheVariants as part
use Rattle.c_tokens.specs.declared.piece.Piece.{Piece}
use Rattle.c_tokens.specs.declared.piece.Piece.TheVariants as piece
use Rattle.c_tokens.specs.Piece.{piece_at, size_of, part_of}

-- lexemes, and the fault behind them
abbrev pub scan : List Lexeme → Option (At ReadCause) → Scan
scan lexemes fault = record { lexemes = lexemes; fault = fault }

-- a lexeme at an offset, of so many bytes
abbrev pub lexeme : LexemeKind → ℕ → ℕ → Lexeme
lexeme k at n = record { kind = k; at = at; len = n }

-- what a piece at an offset adds
abbrev pub added : ℕ → Piece → Scan
added at (piece.Gap p n) = scan [] None
added at (piece.Lexeme k p n) = scan (lexeme k at n ∷ []) None
added at (piece.Fault why) = scan [] (Some why)
added at (piece.Begun why) = scan (lexeme kind.Begun at (why.at - at) ∷ []) (Some why)

-- lexemes before others; nothing follows a fault
abbrev pub followed : List Lexeme → Option (At ReadCause) → Scan → Scan
followed lexemes None more = scan (lexemes ++ more.lexemes) more.fault
followed lexemes (Some why) more = scan lexemes (Some why)

-- what comes first, and then the rest
abbrev pub before : Scan → Scan → Scan
before a more = followed a.lexemes a.fault more

-- the lexemes from an offset on, in a part of a line, where the first `within` bytes belong to what began before
unfoldable pub scan_from : Part → ℕ → ℕ → List ℕ → Scan
scan_from p at within [] = scan [] None
scan_from p at (suc within) (b ∷ rest) = scan_from p (at + 1) within rest
scan_from p at zero (b ∷ rest) = let it = piece_at p at (b ∷ rest) in before (added at it) (scan_from (part_of it) (at + 1) (size_of it - 1) rest)

-- the lexemes of a source before its first fault, and that fault
abbrev pub scan_of : List ℕ → Scan
scan_of bytes = scan_from part.Head 0 0 bytes
