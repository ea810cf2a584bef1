-- What a source goes on with at one place of a line.
use Rattle.std.specs.Prelude.{ℕ, ◌-◌, Bool, false, ◌==◌, if◌then◌else◌, List, [], ◌∷◌, codes}
use Rattle.c_tree.specs.declared.cause.ReadCause.{ReadCause}
use Rattle.c_tree.specs.declared.cause.ReadCause.TheVariants as cause
use Rattle.c_tree.specs.declared.token.TokenKind.{TokenKind}
use Rattle.c_tree.specs.declared.token.TokenKind.TheVariants as kind
use Rattle.c_tokens.specs.declared.front.Front.{Front}
use Rattle.c_tokens.specs.declared.front.Front.TheVariants as front
use Rattle.c_tokens.specs.declared.directive.Line.{Line}
use Rattle.c_tokens.specs.declared.directive.Line.TheVariants as line
use Rattle.c_tokens.specs.declared.lexeme.LexemeKind.TheVariants as lexeme
use Rattle.c_tokens.specs.declared.piece.Part.{Part}
use Rattle.c_tokens.specs.declared.piece.Part.TheVariants as part
use Rattle.c_tokens.specs.declared.piece.Piece.{Piece}
use Rattle.c_tokens.specs.declared.piece.Piece.TheVariants as piece
use Rattle.c_tokens.specs.Front.{front_of}
use Rattle.c_tokens.specs.Word.{is_left_out}
use Rattle.c_tokens.specs.Directive.{misfit_token, directive}

-- a fault at an offset
abbrev pub fault : ℕ → ReadCause → Piece
fault at why = piece.Fault (record { at = at; it = why })

-- the part of the line behind a blank; a newline begins a line
abbrev pub after_blank : Part → ℕ → Part
after_blank p b = if b == 10 then part.Head else p

-- the part of the line behind a comment; the line of a directive goes on behind it
abbrev pub after_comment : Part → Part
after_comment part.Head = part.Middle
after_comment part.Middle = part.Middle
after_comment part.Tail = part.Tail

-- a token, unless it is a left-out word
abbrev pub of_token : ℕ → TokenKind → ℕ → Piece
of_token at (kind.Word word) n = if is_left_out word then fault at (cause.LeftOut word) else piece.Lexeme (lexeme.Token (kind.Word word)) part.Middle n
of_token at k n = piece.Lexeme (lexeme.Token k) part.Middle n

-- behind a directive no token may stand on its line
abbrev pub in_part : Part → ℕ → TokenKind → ℕ → Piece
in_part part.Head at k n = of_token at k n
in_part part.Middle at k n = of_token at k n
in_part part.Tail at k n = fault at (misfit_token k)

-- a piece that is no directive, by its first byte and what stands there
abbrev pub of_front : Part → ℕ → ℕ → Front → Piece
of_front p at b front.End = piece.Gap p 0
of_front p at b front.Blank = piece.Gap (after_blank p b) 1
of_front p at b (front.Comment n) = piece.Gap (after_comment p) n
of_front p at b (front.Token k n) = in_part p at k n
of_front p at b (front.Fault why) = fault at why

-- a directive, by how its line is read
abbrev pub of_line : ℕ → Line → Piece
of_line at (line.Include end) = piece.Lexeme lexeme.Include part.Tail (end - at)
of_line at (line.Define define end) = piece.Lexeme (lexeme.Define define) part.Tail (end - at)
of_line at (line.Broken why) = piece.Begun why
of_line at line.Other = fault at (cause.LeftOut (codes "directive"))

-- whether a byte begins a directive: `#`, where only blanks stand before it on its line
abbrev pub is_hash : Part → ℕ → Bool
is_hash part.Head b = b == 35
is_hash part.Middle b = false
is_hash part.Tail b = false

-- what the source goes on with at an offset, in a part of a line
abbrev pub piece_at : Part → ℕ → List ℕ → Piece
piece_at p at [] = piece.Gap p 0
piece_at p at (b ∷ rest) = if is_hash p b then of_line at (directive at (b ∷ rest)) else of_front p at b (front_of (b ∷ rest))

-- the number of bytes of a piece
abbrev pub size_of : Piece → ℕ
size_of (piece.Gap p n) = n
size_of (piece.Lexeme k p n) = n
size_of (piece.Fault why) = 1
size_of (piece.Begun why) = 1

-- the part of the line behind it
abbrev pub part_of : Piece → Part
part_of (piece.Gap p n) = p
part_of (piece.Lexeme k p n) = p
part_of (piece.Fault why) = part.Middle
part_of (piece.Begun why) = part.Middle
