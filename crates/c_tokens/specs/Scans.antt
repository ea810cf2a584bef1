-- What a source is made of, piece by piece: a piece comes first, then what follows it, up to the first fault.
use Rattle.std.specs.Prelude.{◌≡◌, ℕ, ◌+◌, ◌<◌, List, [], length, drop, Some, None}
use Rattle.c_tree.specs.declared.cause.ReadCause.{ReadCause}
use Rattle.c_tree.specs.declared.program.At.{At}
use Rattle.c_tokens.specs.declared.lexeme.Scan.{Scan}
use Rattle.c_tokens.specs.declared.piece.Part.{Part}
use Rattle.c_tokens.specs.declared.piece.Part.TheVariants as part
use Rattle.c_tokens.specs.Piece.{piece_at, size_of, part_of}
use Rattle.c_tokens.specs.Source.{scan, added, before, scan_of}

-- the bytes from an offset on, in a part of a line, are these lexemes and this fault
pub data Scans : Part → ℕ → List ℕ → Scan → Type 0 where
  end : (p : Part) (at : ℕ) (bytes : List ℕ) (s : Scan) → bytes ≡ [] → s ≡ scan [] None → Scans p at bytes s
  goes_on : (p : Part) (at : ℕ) (bytes : List ℕ) (s more : Scan) → 0 < length bytes → (added at (piece_at p at bytes)).fault ≡ None
      → Scans (part_of (piece_at p at bytes)) (at + size_of (piece_at p at bytes)) (drop (size_of (piece_at p at bytes)) bytes) more
      → s ≡ before (added at (piece_at p at bytes)) more → Scans p at bytes s
  stops : (p : Part) (at : ℕ) (bytes : List ℕ) (s : Scan) (why : At ReadCause) → 0 < length bytes → (added at (piece_at p at bytes)).fault ≡ Some why
      → s ≡ added at (piece_at p at bytes) → Scans p at bytes s

-- each source is exactly one list of lexemes with at most one fault behind them
abbrev pub OneScan : Type 0
OneScan = (bytes : List ℕ) → Scans part.Head 0 bytes (scan_of bytes) × ((s : Scan) → Scans part.Head 0 bytes s → s ≡ scan_of bytes)
