-- Each source is scanned once.
use Rattle.std.proofs.Common.{◌≡◌, ℕ, zero, suc, ◌+◌, ◌<◌, ◌≤◌, List, [], ◌∷◌, length, drop, refl, sym, ap, ◌∙◌, arith, length-drop}
use Rattle.std.specs.Prelude.{Option, Some, None}
use Rattle.c_tree.specs.declared.cause.ReadCause.{ReadCause}
use Rattle.c_tree.specs.declared.program.At.{At}
use Rattle.c_tokens.specs.declared.lexeme.Scan.{Scan}
use Rattle.c_tokens.specs.declared.piece.Part.{Part}
use Rattle.c_tokens.specs.declared.piece.Part.TheVariants as part
use Rattle.c_tokens.specs.Piece.{piece_at, size_of, part_of}
use Rattle.c_tokens.specs.Source.{added, before, scan_from}
use Rattle.c_tokens.specs.Scans.{Scans, end, goes_on, stops, OneScan}
use Rattle.c_tokens.proofs.Scanning.{scan_step, size_within}

stopped : (a more : Scan) (why : At ReadCause) → a.fault ≡ Some why → before a more ≡ a
stopped a more why is = rw is refl

-- by the fault of the first piece
scans_piece : (p : Part) (at : ℕ) (bytes : List ℕ) (fault : Option (At ReadCause)) → 0 < length bytes → (added at (piece_at p at bytes)).fault ≡ fault
    → Scans (part_of (piece_at p at bytes)) (at + size_of (piece_at p at bytes)) (drop (size_of (piece_at p at bytes)) bytes) (scan_from (part_of (piece_at p at bytes)) (at + size_of (piece_at p at bytes)) 0 (drop (size_of (piece_at p at bytes)) bytes))
    → Scans p at bytes (scan_from p at 0 bytes)
scans_piece p at bytes None some is more = goes_on p at bytes _ _ some is more (scan_step p at bytes some)
scans_piece p at bytes (Some why) some is more = stops p at bytes _ why some is (scan_step p at bytes some ∙ stopped (added at (piece_at p at bytes)) _ why is)

scans_from : (most : ℕ) (p : Part) (at : ℕ) (bytes : List ℕ) → length bytes ≤ most → Scans p at bytes (scan_from p at 0 bytes)
unfolding scan_from
scans_from most p at [] few = end p at [] _ refl refl
scans_from zero p at (b ∷ rest) few = absurd (omega arith)
scans_from (suc most) p at (b ∷ rest) few =
    let bytes = b ∷ rest in
    let it = piece_at p at bytes in
    let fits = size_within p at bytes (omega arith) in
    scans_piece p at bytes (added at it).fault (omega arith) refl (scans_from most (part_of it) (at + size_of it) (drop (size_of it) bytes) (omega (arith, length-drop (size_of it) bytes, fits.some)))

one : (p : Part) (at : ℕ) (bytes : List ℕ) (s : Scan) → Scans p at bytes s → s ≡ scan_from p at 0 bytes
unfolding scan_from
one p at bytes s (end _ _ _ _ none is) = rw (is, none) refl
one p at bytes s (goes_on _ _ _ _ more some goes scans is) =
    is ∙ ap (before (added at (piece_at p at bytes))) (one (part_of (piece_at p at bytes)) (at + size_of (piece_at p at bytes)) (drop (size_of (piece_at p at bytes)) bytes) more scans)
    ∙ sym (scan_step p at bytes some)
one p at bytes s (stops _ _ _ _ why some stop is) =
    is ∙ sym (scan_step p at bytes some ∙ stopped (added at (piece_at p at bytes)) _ why stop)

pub one_scan : OneScan
one_scan bytes = (scans_from (length bytes) part.Head 0 bytes (omega arith), λ s scans. one part.Head 0 bytes s scans)
