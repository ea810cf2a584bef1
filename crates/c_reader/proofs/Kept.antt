-- A token is kept with the sort of its kind.
use Rattle.std.proofs.Common.{◌≡◌, ℕ, zero, suc, List, [], ◌∷◌, Bool, true, false, refl}
use Rattle.std.specs.Prelude.{cond, unwrap_or, slice_get}
use Rattle.std.specs.List.{list_all}
use Rattle.std.specs.Str.{bytes_eq}
use Rattle.c_tree.specs.declared.token.Token.{Token}
use Rattle.c_tree.specs.declared.token.TokenKind.{TokenKind}
use Rattle.c_tree.specs.declared.token.TokenKind.TheVariants as token
use Rattle.c_tokens.specs.declared.lexeme.Lexeme.{Lexeme}
use Rattle.c_tokens.specs.declared.lexeme.LexemeKind.{LexemeKind}
use Rattle.c_tokens.specs.declared.lexeme.LexemeKind.TheVariants as lexeme
use Rattle.c_grammar.specs.declared.kind.Kind.{Kind}
use Rattle.c_grammar.specs.declared.kind.Kind.TheVariants as kind
use Rattle.c_grammar.specs.Words.{Entry, words, map_words, signs}
use Rattle.c_grammar.specs.Tokens.{kind_in, word_kind, meant_or, map_word_kind, sign_kind, kind_of, map_kind_of}
use Rattle.c_grammar.specs.Pieces.{token_piece, map_piece, piece_of, lexeme_piece}
use Rattle.c_reader.proofs.Choice.{both_left, both_right}
use Rattle.c_reader.proofs.Sorts.{sort_of, kept_sort}
use Rattle.c_reader.proofs.Sorts as sort

-- kept as a token
abbrev pub is_plain : Kind → Bool
is_plain kind.Define = false
is_plain k = true

plain_kept : (k : Kind) → is_plain k ≡ true → sort.Word ≡ kept_sort k
plain_kept kind.Define h = cc
plain_kept k h = refl

kind_in_plain : (entries : List Entry) (word : List ℕ) → list_all (λ entry. is_plain entry.kind) entries ≡ true → is_plain (kind_in entries word) ≡ true
kind_in_plain [] word h = refl
kind_in_plain (entry ∷ entries) word h = go (bytes_eq entry.text word) (kind_in_plain entries word (both_right _ _ h))
  where
    go : (b : Bool) → is_plain (kind_in entries word) ≡ true → is_plain (cond b entry.kind (kind_in entries word)) ≡ true
    go true i = both_left _ _ h
    go false i = i

pub word_plain : (word : List ℕ) → is_plain (word_kind word) ≡ true
unfolding word_kind words
word_plain word = kind_in_plain words word refl

get_each : (test : Kind → Bool) (kinds : List Kind) (n : ℕ) → test kind.Other ≡ true → list_all test kinds ≡ true → test (unwrap_or (slice_get kinds n) kind.Other) ≡ true
get_each test [] n o h = o
get_each test (k ∷ kinds) zero o h = both_left _ _ h
get_each test (k ∷ kinds) (suc n) o h = get_each test kinds n o (both_right (test k) _ h)

sign_plain : (place : ℕ) → is_plain (sign_kind place) ≡ true
unfolding signs
sign_plain place = get_each is_plain signs place refl refl

-- No sign is a name.
abbrev pub is_nameless : Kind → Bool
is_nameless kind.Name = false
is_nameless k = is_plain k

pub sign_nameless : (place : ℕ) → is_nameless (sign_kind place) ≡ true
unfolding signs
sign_nameless place = get_each is_nameless signs place refl refl

kind_plain : (k : TokenKind) → is_plain (kind_of k) ≡ true
kind_plain (token.Word word) = word_plain word
kind_plain (token.Number number) = refl
kind_plain (token.Char code) = refl
kind_plain (token.Str text) = refl
kind_plain (token.Punct place) = sign_plain place

pub kept_token : (t : Token) → sort_of (token_piece t).value ≡ kept_sort (token_piece t).kind
kept_token t = plain_kept (kind_of t.kind) (kind_plain t.kind)

meant_plain : (k : Kind) (word : List ℕ) → is_plain k ≡ true → is_plain (meant_or k word) ≡ true
meant_plain kind.Name word h = word_plain word
meant_plain k word h = h

map_word_plain : (word : List ℕ) → is_plain (map_word_kind word) ≡ true
unfolding map_word_kind map_words
map_word_plain word = meant_plain (kind_in map_words word) word (kind_in_plain map_words word refl)

map_kind_plain : (k : TokenKind) → is_plain (map_kind_of k) ≡ true
map_kind_plain (token.Word word) = map_word_plain word
map_kind_plain (token.Number number) = refl
map_kind_plain (token.Char code) = refl
map_kind_plain (token.Str text) = refl
map_kind_plain (token.Punct place) = sign_plain place

pub kept_map_token : (t : Token) → sort_of (map_piece t).value ≡ kept_sort (map_piece t).kind
kept_map_token t = plain_kept (map_kind_of t.kind) (map_kind_plain t.kind)

kept_kind : (k : LexemeKind) (at len : ℕ) → sort_of (piece_of k at len).value ≡ kept_sort (piece_of k at len).kind
kept_kind (lexeme.Token k) at len = plain_kept (kind_of k) (kind_plain k)
kept_kind lexeme.Include at len = refl
kept_kind (lexeme.Define d) at len = refl
kept_kind lexeme.Begun at len = refl

pub kept_lexeme : (l : Lexeme) → sort_of (lexeme_piece l).value ≡ kept_sort (lexeme_piece l).kind
kept_lexeme l = kept_kind l.kind l.at l.len
