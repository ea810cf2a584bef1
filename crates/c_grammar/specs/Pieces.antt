-- What the grammar sees of a token or a directive.
use Rattle.std.specs.Prelude.{ℕ}
use Rattle.c_tree.specs.declared.token.Token.{Token}
use Rattle.c_tree.specs.declared.token.TokenKind.TheVariants as token
use Rattle.c_tokens.specs.declared.lexeme.Lexeme.{Lexeme}
use Rattle.c_tokens.specs.declared.lexeme.LexemeKind.{LexemeKind}
use Rattle.c_tokens.specs.declared.lexeme.LexemeKind.TheVariants as lexeme
use Rattle.c_grammar.specs.declared.kind.Kind.{Kind}
use Rattle.c_grammar.specs.declared.kind.Kind.TheVariants as kind
use Rattle.c_grammar.specs.declared.value.Value.{Value}
use Rattle.c_grammar.specs.declared.value.Value.TheVariants as value
use Rattle.c_grammar.specs.Tokens.{kind_of, map_kind_of}

-- its kind, its offset, and the value that it is where it is kept
pub record Piece : Type 0 where
  pub kind : Kind
  pub at : ℕ
  pub value : Value

-- a token of a source
abbrev pub token_piece : Token → Piece
token_piece t = record { kind = kind_of t.kind; at = t.at; value = value.Word t }

-- a token of a mapping
abbrev pub map_piece : Token → Piece
map_piece t = record { kind = map_kind_of t.kind; at = t.at; value = value.Word t }

-- an include, which is let go
abbrev pub include : ℕ → Piece
include at = record { kind = kind.Include; at = at; value = value.Word (record { kind = token.Punct 0; at = 0; len = 0 }) }

-- a directive that breaks off is an include to the grammar: the fault on its line comes behind it
abbrev pub piece_of : LexemeKind → ℕ → ℕ → Piece
piece_of (lexeme.Token k) at len = token_piece (record { kind = k; at = at; len = len })
piece_of lexeme.Include at len = include at
piece_of (lexeme.Define d) at len = record { kind = kind.Define; at = at; value = value.Define d }
piece_of lexeme.Begun at len = include at

-- a lexeme of a source as the grammar sees it
abbrev pub lexeme_piece : Lexeme → Piece
lexeme_piece l = piece_of l.kind l.at l.len
