-- The lexemes one after the other.
use Rattle.std.proofs.Common.{◌≡◌, ℕ, zero, suc, ◌+◌, ◌-◌, ◌<◌, ◌≤◌, Bool, true, false, List, [], ◌∷◌, length, drop, refl, sym, ap, ◌∙◌, arith, append_assoc, length-drop}
use Rattle.std.specs.Prelude.{Option, Some, None, is_some, if◌then◌else◌}
use Rattle.std.proofs.lemmas.List.{drop_all, drop-drop, append-nil}
use Rattle.c_tree.specs.declared.cause.ReadCause.{ReadCause}
use Rattle.c_tree.specs.declared.program.At.{At}
use Rattle.c_tree.specs.declared.token.TokenKind.{TokenKind}
use Rattle.c_tree.specs.declared.token.TokenKind.TheVariants as kind
use Rattle.c_tokens.specs.declared.front.Front.{Front}
use Rattle.c_tokens.specs.declared.front.Front.TheVariants as front
use Rattle.c_tokens.specs.declared.directive.Line.{Line}
use Rattle.c_tokens.specs.declared.directive.Line.TheVariants as line
use Rattle.c_tokens.specs.declared.lexeme.Lexeme.{Lexeme}
use Rattle.c_tokens.specs.declared.lexeme.Scan.{Scan}
use Rattle.c_tokens.specs.declared.piece.Part.{Part}
use Rattle.c_tokens.specs.declared.piece.Part.TheVariants as part
use Rattle.c_tokens.specs.declared.piece.Piece.{Piece}
use Rattle.c_tokens.specs.Front.{size_of as front_size, front_of}
use Rattle.c_tokens.specs.Word.{is_left_out}
use Rattle.c_tokens.specs.Directive.{directive}
use Rattle.c_tokens.specs.Piece.{of_token, in_part, of_front, of_line, is_hash, piece_at, size_of, part_of}
use Rattle.c_tokens.specs.Source.{scan, added, followed, before, scan_from, scan_of}
use Rattle.c_tokens.proofs.Sizes.{Fits, front_fits}
use Rattle.c_tokens.proofs.Lines.{LineFits, directive_fits}

chosen : (test : Bool) (a b : Piece) (len : ℕ) → Fits (size_of a) len → Fits (size_of b) len → Fits (size_of (if test then a else b)) len
chosen true a b len then_ else_ = then_
chosen false a b len then_ else_ = else_

one : (len : ℕ) → 1 ≤ len → Fits 1 len
one len some = record { some = omega arith; within = some }

of_token_fits : (at : ℕ) (k : TokenKind) (n len : ℕ) → Fits n len → 1 ≤ len → Fits (size_of (of_token at k n)) len
of_token_fits at (kind.Word w) n len f some = chosen (is_left_out w) _ _ len (one len some) f
of_token_fits at (kind.Number v) n len f some = f
of_token_fits at (kind.Char c) n len f some = f
of_token_fits at (kind.Str t) n len f some = f
of_token_fits at (kind.Punct p) n len f some = f

in_part_fits : (p : Part) (at : ℕ) (k : TokenKind) (n len : ℕ) → Fits n len → 1 ≤ len → Fits (size_of (in_part p at k n)) len
in_part_fits part.Head at k n len f some = of_token_fits at k n len f some
in_part_fits part.Middle at k n len f some = of_token_fits at k n len f some
in_part_fits part.Tail at k n len f some = one len some

of_front_fits : (p : Part) (at b : ℕ) (f : Front) (len : ℕ) → Fits (front_size f) len → 1 ≤ len → Fits (size_of (of_front p at b f)) len
of_front_fits p at b front.End len f some = f
of_front_fits p at b front.Blank len f some = one len some
of_front_fits p at b (front.Comment n) len f some = f
of_front_fits p at b (front.Token k n) len f some = in_part_fits p at k n len f some
of_front_fits p at b (front.Fault why) len f some = one len some

of_line_fits : (at : ℕ) (l : Line) (len : ℕ) → LineFits l at (at + len) → 1 ≤ len → Fits (size_of (of_line at l)) len
of_line_fits at (line.Include end) len f some = record { some = omega (arith, f.0, f.1); within = omega (arith, f.0, f.1) }
of_line_fits at (line.Define d end) len f some = record { some = omega (arith, f.0, f.1); within = omega (arith, f.0, f.1) }
of_line_fits at (line.Broken why) len f some = one len some
of_line_fits at line.Other len f some = one len some

pub piece_fits : (p : Part) (at b : ℕ) (rest : List ℕ) → Fits (size_of (piece_at p at (b ∷ rest))) (length (b ∷ rest))
piece_fits p at b rest =
    chosen (is_hash p b) _ _ (length (b ∷ rest))
    (of_line_fits at (directive at (b ∷ rest)) (length (b ∷ rest)) (directive_fits at (b ∷ rest) (omega arith)) (omega arith))
    (of_front_fits p at b (front_of (b ∷ rest)) (length (b ∷ rest)) (front_fits b rest) (omega arith))

pub size_within : (p : Part) (at : ℕ) (bytes : List ℕ) → 0 < length bytes → Fits (size_of (piece_at p at bytes)) (length bytes)
size_within p at [] some = absurd (omega arith)
size_within p at (b ∷ rest) some = piece_fits p at b rest

skipped : (p : Part) (at n : ℕ) (bytes : List ℕ) → scan_from p at n bytes ≡ scan_from p (at + n) 0 (drop n bytes)
unfolding scan_from
skipped p at zero bytes = let e : at + 0 ≡ at = omega arith in rw e refl
skipped p at (suc n) [] = refl
skipped p at (suc n) (b ∷ rest) = let e : at + suc n ≡ at + 1 + n = omega arith in rw e (skipped p (at + 1) n rest)

skipped_one : (p : Part) (at n b : ℕ) (rest : List ℕ) → 1 ≤ n → scan_from p (at + 1) (n - 1) rest ≡ scan_from p (at + n) 0 (drop n (b ∷ rest))
skipped_one p at zero b rest some = absurd (omega arith)
skipped_one p at (suc n) b rest some =
    let less : suc n - 1 ≡ n = omega arith in
    let e : at + suc n ≡ at + 1 + n = omega arith in
    rw (less, e) (skipped p (at + 1) n rest)

-- what a piece adds comes first, and then what follows it
pub scan_step : (p : Part) (at : ℕ) (bytes : List ℕ) → 0 < length bytes
    → scan_from p at 0 bytes ≡ before (added at (piece_at p at bytes)) (scan_from (part_of (piece_at p at bytes)) (at + size_of (piece_at p at bytes)) 0 (drop (size_of (piece_at p at bytes)) bytes))
unfolding scan_from
scan_step p at [] some = absurd (omega arith)
scan_step p at (b ∷ rest) some = ap (before (added at (piece_at p at (b ∷ rest)))) (skipped_one (part_of (piece_at p at (b ∷ rest))) at (size_of (piece_at p at (b ∷ rest))) b rest (piece_fits p at b rest).some)

followed_before : (ls : List Lexeme) (f : Option (At ReadCause)) (ks : List Lexeme) (g : Option (At ReadCause)) (c : Scan) → followed ls f (followed ks g c) ≡ before (followed ls f (scan ks g)) c
followed_before ls (Some why) ks g c = refl
followed_before ls None ks (Some why) c = refl
followed_before ls None ks None c = ap (λ xs. scan xs c.fault) (sym (append_assoc ls ks c.lexemes))

before_before : (a b c : Scan) → before a (before b c) ≡ before (before a b) c
before_before a b c = followed_before a.lexemes a.fault b.lexemes b.fault c

-- the lexemes so far, and those of what is left
pub record Scanned (bytes : List ℕ) (ls : List Lexeme) (p : Part) (at : ℕ) : Type 0 where
  pub within : at ≤ length bytes
  pub same : scan_of bytes ≡ before (scan ls None) (scan_from p at 0 (drop at bytes))

pub scan_first : (bytes : List ℕ) → Scanned bytes [] part.Head 0
scan_first bytes = record { within = omega arith; same = refl }

pub scan_size : (p : Part) (bytes : List ℕ) (at : ℕ) → at < length bytes → Fits (size_of (piece_at p at (drop at bytes))) (length bytes - at)
scan_size p bytes at lt = rw (length-drop at bytes) at (size_within p at (drop at bytes) (omega (arith, length-drop at bytes)))

one_on : (bytes : List ℕ) (ls : List Lexeme) (p : Part) (at : ℕ) → at < length bytes → Scanned bytes ls p at
    → scan_of bytes ≡ before (before (scan ls None) (added at (piece_at p at (drop at bytes)))) (scan_from (part_of (piece_at p at (drop at bytes))) (at + size_of (piece_at p at (drop at bytes))) 0 (drop (at + size_of (piece_at p at (drop at bytes))) bytes))
one_on bytes ls p at lt so_far =
    let it = piece_at p at (drop at bytes) in
    so_far.same
    ∙ ap (before (scan ls None)) (scan_step p at (drop at bytes) (omega (arith, length-drop at bytes)))
    ∙ before_before (scan ls None) (added at it) (scan_from (part_of it) (at + size_of it) 0 (drop (size_of it) (drop at bytes)))
    ∙ ap (λ xs. before (before (scan ls None) (added at it)) (scan_from (part_of it) (at + size_of it) 0 xs)) (drop-drop (size_of it) at bytes)

pub scan_more : (bytes : List ℕ) (ls next : List Lexeme) (p q : Part) (at len : ℕ) (it : Piece) (f : Option (At ReadCause)) → at < length bytes → it ≡ piece_at p at (drop at bytes) → q ≡ part_of it → len ≡ size_of it
    → before (scan ls None) (added at it) ≡ scan next f → is_some f ≡ false → Scanned bytes ls p at → Scanned bytes next q (at + len)
scan_more bytes ls next p q at len it (Some why) lt is q_is len_is added_is none so_far = cc
scan_more bytes ls next p q at len it None lt is q_is len_is added_is none so_far = record {
  within = omega (arith, (scan_size p bytes at lt).within, len_is ∙ ap size_of is);
  same = rw (← is, ← q_is, ← len_is) at (one_on bytes ls p at lt so_far) ∙ ap (λ a. before a (scan_from q (at + len) 0 (drop (at + len) bytes))) added_is;
}

pub scan_fault : (bytes : List ℕ) (ls next row : List Lexeme) (p : Part) (at : ℕ) (it : Piece) (f : Option (At ReadCause)) → at < length bytes → it ≡ piece_at p at (drop at bytes)
    → before (scan ls None) (added at it) ≡ scan next f → is_some f ≡ true → row ≡ next → Scanned bytes ls p at → scan row f ≡ scan_of bytes
scan_fault bytes ls next row p at it None lt is added_is some row_is so_far = cc
scan_fault bytes ls next row p at it (Some why) lt is added_is some row_is so_far =
    rw row_is (sym (rw (← is) at (one_on bytes ls p at lt so_far) ∙ ap (λ a. before a (scan_from (part_of it) (at + size_of it) 0 (drop (at + size_of it) bytes))) added_is))

pub scan_all : (bytes : List ℕ) (ls row : List Lexeme) (p : Part) (at : ℕ) → length bytes ≤ at → row ≡ ls → Scanned bytes ls p at → scan row None ≡ scan_of bytes
unfolding scan_from
scan_all bytes ls row p at le row_is so_far = rw row_is (sym (so_far.same ∙ ap (λ xs. before (scan ls None) (scan_from p at 0 xs)) (drop_all at bytes le) ∙ ap (λ xs. scan xs None) (append-nil ls)))
