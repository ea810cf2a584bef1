-- What a token is to the grammar.
use Rattle.std.specs.Prelude.{ℕ, ℤ, pos, negsuc, List, [], ◌∷◌, if◌then◌else◌, unwrap_or, slice_get}
use Rattle.std.specs.Str.{bytes_eq}
use Rattle.c_tree.specs.declared.token.TokenKind.{TokenKind}
use Rattle.c_tree.specs.declared.token.TokenKind.TheVariants as token
use Rattle.c_grammar.specs.declared.kind.Kind.{Kind}
use Rattle.c_grammar.specs.declared.kind.Kind.TheVariants as kind
use Rattle.c_grammar.specs.Words.{Entry, words, map_words, signs}

-- the kind of the word in the list, and a name where it is not there
abbrev pub kind_in : List Entry → List ℕ → Kind
kind_in [] word = kind.Name
kind_in (entry ∷ entries) word = if bytes_eq entry.text word then entry.kind else kind_in entries word

-- the kind of a word in a source
unfoldable pub word_kind : List ℕ → Kind
word_kind word = kind_in words word

-- the kind of a word in a mapping, where it has a meaning there, or else the one in a source
abbrev pub meant_or : Kind → List ℕ → Kind
meant_or kind.Name word = word_kind word
meant_or k word = k

-- the kind of a word in a mapping
unfoldable pub map_word_kind : List ℕ → Kind
map_word_kind word = meant_or (kind_in map_words word) word

-- the kind of the sign of a number
abbrev pub sign_kind : ℕ → Kind
sign_kind place = unwrap_or (slice_get signs place) kind.Other

-- the kind of a token of a source
abbrev pub kind_of : TokenKind → Kind
kind_of (token.Word word) = word_kind word
kind_of (token.Number number) = kind.Number
kind_of (token.Char code) = kind.Char
kind_of (token.Str text) = kind.String
kind_of (token.Punct place) = sign_kind place

-- what a token is in a mapping, where more words have a meaning
abbrev pub map_kind_of : TokenKind → Kind
map_kind_of (token.Word word) = map_word_kind word
map_kind_of k = kind_of k

-- the token's word or text, where it has one
abbrev pub text_of : TokenKind → List ℕ
text_of (token.Word word) = word
text_of (token.Str text) = text
text_of _ = []

-- the token's number or code, where it has one
abbrev pub number_of : TokenKind → ℤ
number_of (token.Number number) = number
number_of (token.Char code) = code
number_of _ = pos 0

-- the number, or 0 where it is below 0
abbrev pub natural : ℤ → ℕ
natural (pos n) = n
natural (negsuc n) = 0
