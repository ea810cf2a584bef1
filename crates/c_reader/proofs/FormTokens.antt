-- A token is kept with the form of its kind.
use Rattle.std.specs.Prelude.{◌≡◌, ℕ, List, [], ◌∷◌, map, true}
use Rattle.std.proofs.Common.{refl}
use Rattle.c_tree.specs.declared.token.TokenKind.{TokenKind}
use Rattle.c_tree.specs.declared.token.TokenKind.TheVariants as token
use Rattle.c_reader.specs.Spelling.{IsWord}
use Rattle.c_tokens.specs.declared.lexeme.Lexeme.{Lexeme}
use Rattle.c_tokens.specs.declared.lexeme.LexemeKind.{LexemeKind}
use Rattle.c_tokens.specs.declared.lexeme.LexemeKind.TheVariants as lexeme
use Rattle.c_grammar.specs.declared.kind.Kind.{Kind}
use Rattle.c_grammar.specs.declared.kind.Kind.TheVariants as kind
use Rattle.c_grammar.specs.declared.value.Value.{Value}
use Rattle.c_grammar.specs.declared.value.Value.TheVariants as value
use Rattle.c_grammar.specs.Tokens.{word_kind, sign_kind, kind_of}
use Rattle.c_grammar.specs.Pieces.{piece_of, lexeme_piece}
use Rattle.c_reader.proofs.Kept.{is_plain, word_plain, is_nameless, sign_nameless}
use Rattle.c_reader.proofs.Forms.{Has, kept_form}
use Rattle.c_reader.proofs.FormReadings.{AllNamed}
use Rattle.c_reader.proofs.Names.{TokenNamed, LexemeNamed, AreNamed, word_spelt}

word_kept : (k : Kind) (w : List ℕ) (at len : ℕ) (vs : List Value) → is_plain k ≡ true → IsWord w → word_kind w ≡ k
    → Has (kept_form k) (value.Word (record { kind = token.Word w; at = at; len = len }) ∷ vs)
word_kept kind.Define w at len vs h i e = cc
word_kept kind.Name w at len vs h i e = word_spelt w i e
word_kept k w at len vs h i e = tt

sign_kept : (k : Kind) (vs : List Value) → is_nameless k ≡ true → Has (kept_form k) vs
sign_kept kind.Define vs h = cc
sign_kept kind.Name vs h = cc
sign_kept k vs h = tt

token_kept : (k : TokenKind) (at len : ℕ) (vs : List Value) → TokenNamed k → Has (kept_form (kind_of k)) (value.Word (record { kind = k; at = at; len = len }) ∷ vs)
token_kept (token.Word w) at len vs h = word_kept (word_kind w) w at len vs (word_plain w) h refl
token_kept (token.Punct place) at len vs h = sign_kept (sign_kind place) _ (sign_nameless place)
token_kept (token.Number n) at len vs h = tt
token_kept (token.Char c) at len vs h = tt
token_kept (token.Str text) at len vs h = tt

lexeme_kept : (k : LexemeKind) (at len : ℕ) (vs : List Value) → LexemeNamed k → Has (kept_form (piece_of k at len).kind) ((piece_of k at len).value ∷ vs)
lexeme_kept (lexeme.Token k) at len vs h = token_kept k at len vs h
lexeme_kept lexeme.Include at len vs h = tt
lexeme_kept (lexeme.Define d) at len vs h = h
lexeme_kept lexeme.Begun at len vs h = tt

pub pieces_named : (ls : List Lexeme) → AreNamed ls → AllNamed (map lexeme_piece ls)
pieces_named [] h = tt
pieces_named (l ∷ ls) h = (λ vs. lexeme_kept l.kind l.at l.len vs h.0, pieces_named ls h.1)
