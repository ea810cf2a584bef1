-- Lexemes in text order.
use Rattle.std.proofs.Common.{◌≡◌, ℕ, zero, suc, ◌+◌, ◌-◌, ◌<◌, ◌≤◌, Bool, true, false, List, [], ◌∷◌, length, drop, refl, sym, subst, arith, length-drop}
use Rattle.std.specs.Prelude.{Result, Ok, Err, IfOk, if◌then◌else◌}
use Rattle.c_tree.specs.declared.token.TokenKind.{TokenKind}
use Rattle.c_tree.specs.declared.token.TokenKind.TheVariants as kind
use Rattle.c_tokens.specs.declared.front.Front.{Front}
use Rattle.c_tokens.specs.declared.front.Front.TheVariants as front
use Rattle.c_tokens.specs.declared.directive.Line.{Line}
use Rattle.c_tokens.specs.declared.directive.Line.TheVariants as line
use Rattle.c_tokens.specs.declared.lexeme.Scan.{Scan}
use Rattle.c_tokens.specs.declared.piece.Part.{Part}
use Rattle.c_tokens.specs.declared.piece.Part.TheVariants as part
use Rattle.c_tokens.specs.declared.piece.Piece.{Piece}
use Rattle.c_tokens.specs.declared.piece.Piece.TheVariants as piece
use Rattle.c_tokens.specs.Front.{front_of}
use Rattle.c_tokens.specs.Word.{is_left_out}
use Rattle.c_tokens.specs.Directive.{directive}
use Rattle.c_tokens.specs.Piece.{of_token, in_part, of_front, of_line, is_hash, piece_at, size_of, part_of}
use Rattle.c_tokens.specs.Source.{added, before, scan_from, scan_of}
use Rattle.c_tokens.specs.Order.{lexeme_places, StandBetween, end_of, InTextOrder}
use Rattle.c_tokens.proofs.Sizes.{Fits}
use Rattle.c_tokens.proofs.Lines.{LineFits, directive_fits}
use Rattle.c_tokens.proofs.Scanning.{scan_step, size_within}

-- where the fault of a piece stands
FaultFits : Piece → ℕ → ℕ → Type 0
FaultFits (piece.Gap p n) at total = Unit {0}
FaultFits (piece.Lexeme k p n) at total = Unit {0}
FaultFits (piece.Fault why) at total = why.at ≡ at
FaultFits (piece.Begun why) at total = (at < why.at) × (why.at ≤ total)

chosen : (test : Bool) (a b : Piece) (at total : ℕ) → FaultFits a at total → FaultFits b at total → FaultFits (if test then a else b) at total
chosen true a b at total then_ else_ = then_
chosen false a b at total then_ else_ = else_

of_token_fits : (at : ℕ) (k : TokenKind) (n total : ℕ) → FaultFits (of_token at k n) at total
unfolding FaultFits
of_token_fits at (kind.Word w) n total = chosen (is_left_out w) _ _ at total refl tt
of_token_fits at (kind.Number v) n total = tt
of_token_fits at (kind.Char c) n total = tt
of_token_fits at (kind.Str t) n total = tt
of_token_fits at (kind.Punct p) n total = tt

in_part_fits : (p : Part) (at : ℕ) (k : TokenKind) (n total : ℕ) → FaultFits (in_part p at k n) at total
unfolding FaultFits
in_part_fits part.Head at k n total = of_token_fits at k n total
in_part_fits part.Middle at k n total = of_token_fits at k n total
in_part_fits part.Tail at k n total = refl

of_front_fits : (p : Part) (at b : ℕ) (f : Front) (total : ℕ) → FaultFits (of_front p at b f) at total
unfolding FaultFits
of_front_fits p at b front.End total = tt
of_front_fits p at b front.Blank total = tt
of_front_fits p at b (front.Comment n) total = tt
of_front_fits p at b (front.Token k n) total = in_part_fits p at k n total
of_front_fits p at b (front.Fault why) total = refl

of_line_fits : (at : ℕ) (l : Line) (total : ℕ) → LineFits l at total → FaultFits (of_line at l) at total
unfolding FaultFits
of_line_fits at (line.Include end) total f = tt
of_line_fits at (line.Define d end) total f = tt
of_line_fits at (line.Broken why) total f = f
of_line_fits at line.Other total f = refl

piece_fits : (p : Part) (at : ℕ) (bytes : List ℕ) → 0 < length bytes → FaultFits (piece_at p at bytes) at (at + length bytes)
piece_fits p at [] some = absurd (omega arith)
piece_fits p at (b ∷ rest) some =
    chosen (is_hash p b) _ _ at (at + length (b ∷ rest))
    (of_line_fits at (directive at (b ∷ rest)) (at + length (b ∷ rest)) (directive_fits at (b ∷ rest) (omega arith)))
    (of_front_fits p at b (front_of (b ∷ rest)) (at + length (b ∷ rest)))

-- the lexemes of a scan stand between an offset and the fault, and the fault stands before a total
Stands : Scan → ℕ → ℕ → Type 0
Stands s from total = StandBetween from (lexeme_places s.lexemes) (end_of s.fault total) × (end_of s.fault total ≤ total)

pub further : (from back : ℕ) (xs : List (ℕ × ℕ)) (to : ℕ) → from ≤ back → StandBetween back xs to → StandBetween from xs to
further from back [] to le stand = omega arith
further from back (x ∷ xs) to le stand = (omega (arith, stand.0), stand.1, stand.2)

before_stands : (it : Piece) (at total : ℕ) (more : Scan) → Fits (size_of it) (total - at) → at ≤ total → FaultFits it at total → Stands more (at + size_of it) total → Stands (before (added at it) more) at total
unfolding FaultFits Stands
before_stands (piece.Gap p n) at total more fits within fault stands = (further at (at + n) (lexeme_places more.lexemes) _ (omega arith) stands.0, stands.1)
before_stands (piece.Lexeme k p n) at total more fits within fault stands = ((omega arith, fits.some, stands.0), stands.1)
before_stands (piece.Fault why) at total more fits within fault stands = (omega arith, omega arith)
before_stands (piece.Begun why) at total more fits within fault stands = ((omega arith, omega (arith, fault.0), omega (arith, fault.0)), fault.1)

stands_step : (p : Part) (at : ℕ) (bytes : List ℕ) → 0 < length bytes
    → Stands (scan_from (part_of (piece_at p at bytes)) (at + size_of (piece_at p at bytes)) 0 (drop (size_of (piece_at p at bytes)) bytes)) (at + size_of (piece_at p at bytes)) (at + size_of (piece_at p at bytes) + length (drop (size_of (piece_at p at bytes)) bytes))
    → Stands (scan_from p at 0 bytes) at (at + length bytes)
stands_step p at bytes some stands =
    let it = piece_at p at bytes in
    let fits = size_within p at bytes some in
    let rest = scan_from (part_of it) (at + size_of it) 0 (drop (size_of it) bytes) in
    let same : at + size_of it + length (drop (size_of it) bytes) ≡ at + length bytes = omega (arith, length-drop (size_of it) bytes, fits.within) in
    let left : at + length bytes - at ≡ length bytes = omega arith in
    subst (λ s. Stands s at (at + length bytes)) (sym (scan_step p at bytes some))
    (before_stands it at (at + length bytes) rest (rw left fits) (omega arith) (piece_fits p at bytes some) (subst (λ total. Stands rest (at + size_of it) total) same stands))

stands_from : (most : ℕ) (p : Part) (at : ℕ) (bytes : List ℕ) → length bytes ≤ most → Stands (scan_from p at 0 bytes) at (at + length bytes)
unfolding scan_from Stands
stands_from most p at [] few = (omega arith, omega arith)
stands_from zero p at (b ∷ rest) few = absurd (omega arith)
stands_from (suc most) p at (b ∷ rest) few =
    let bytes = b ∷ rest in
    let it = piece_at p at bytes in
    let fits = size_within p at bytes (omega arith) in
    stands_step p at bytes (omega arith) (stands_from most (part_of it) (at + size_of it) (drop (size_of it) bytes) (omega (arith, length-drop (size_of it) bytes, fits.some)))

from_start : (n : ℕ) → 0 + n ≡ n
from_start n = omega arith

pub in_text_order : InTextOrder
unfolding Stands
in_text_order bytes = subst (Stands (scan_of bytes) 0) (from_start (length bytes)) (stands_from (length bytes) part.Head 0 bytes (omega arith))

pub result_order : {E : Type 0} (r : Result Scan E) (bytes : List ℕ) → IfOk r (λ s. s ≡ scan_of bytes) → IfOk r (λ s. StandBetween 0 (lexeme_places s.lexemes) (end_of s.fault (length bytes)))
result_order (Err e) bytes is = tt
result_order (Ok s) bytes is = rw is (in_text_order bytes).0

pub result_within : {E : Type 0} (r : Result Scan E) (bytes : List ℕ) → IfOk r (λ s. s ≡ scan_of bytes) → IfOk r (λ s. end_of s.fault (length bytes) ≤ length bytes)
result_within (Err e) bytes is = tt
result_within (Ok s) bytes is = rw is (in_text_order bytes).1
