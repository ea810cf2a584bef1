-- Texts and their tokens.
use Rattle.std.specs.Prelude.{◌≡◌, ℕ, pos, List, [], ◌∷◌, map, refl, Result, Ok, Err, codes}
use Rattle.c_tree.specs.declared.cause.ReadCause.{ReadCause}
use Rattle.c_tree.specs.declared.cause.ReadCause.TheVariants as cause
use Rattle.c_tree.specs.declared.token.Token.{Token}
use Rattle.c_tree.specs.declared.token.TokenKind.{TokenKind}
use Rattle.c_tree.specs.declared.token.TokenKind.TheVariants as kind
use Rattle.c_tokens.specs.Compute.{texts}
use Rattle.c_tokens.specs.Tokens.{Reading, tokens_of}

-- the kinds of the tokens, or the first fault's offset and cause
abbrev pub told : Reading → Result (List TokenKind) (ℕ × ReadCause)
told (Ok ts) = Ok (map (λ (t : Token). t.kind) ts)
told (Err fault) = Err (fault.at, fault.it)

pub sums : told (tokens_of (codes "a+++b")) ≡ Ok (kind.Word (codes "a") ∷ kind.Punct 31 ∷ kind.Punct 0 ∷ kind.Word (codes "b") ∷ [])
unfolding texts
sums = refl

pub shifted_and_stored : told (tokens_of (codes "x>>=1>>>2")) ≡ Ok (kind.Word (codes "x") ∷ kind.Punct 30 ∷ kind.Number (pos 1) ∷ kind.Punct 6 ∷ kind.Punct 9 ∷ kind.Number (pos 2) ∷ [])
unfolding texts
shifted_and_stored = refl

pub literals : told (tokens_of (codes "0x1F 017 0 42 2147483647")) ≡ Ok (kind.Number (pos 31) ∷ kind.Number (pos 15) ∷ kind.Number (pos 0) ∷ kind.Number (pos 42) ∷ kind.Number (pos 2147483647) ∷ [])
unfolding texts
literals = refl

pub no_octal : told (tokens_of (codes " 08")) ≡ Err (1, cause.BadToken)
unfolding texts
no_octal = refl

pub no_digits : told (tokens_of (codes "0x")) ≡ Err (0, cause.BadToken)
unfolding texts
no_digits = refl

pub digits_run_on : told (tokens_of (codes "1a")) ≡ Err (0, cause.BadToken)
unfolding texts
digits_run_on = refl

pub one_above : told (tokens_of (codes "a 2147483648")) ≡ Err (2, cause.Literal)
unfolding texts
one_above = refl

pub string_left_open : told (tokens_of (codes "\"x")) ≡ Err (0, cause.Unclosed)
unfolding texts
string_left_open = refl

-- the line's end comes before the byte that may not stand there
pub string_to_line_end : told (tokens_of (codes "\"\t\\\n\"")) ≡ Err (0, cause.Unclosed)
unfolding texts
string_to_line_end = refl

pub string_with_tab : told (tokens_of (codes "\"\t\"")) ≡ Err (0, cause.BadToken)
unfolding texts
string_with_tab = refl

pub string_with_escapes : told (tokens_of (codes "\"a\\n\\\"\"")) ≡ Ok (kind.Str (codes "a\n\"") ∷ [])
unfolding texts
string_with_escapes = refl

pub comments : told (tokens_of (codes "/* * */ x // y\n/ z")) ≡ Ok (kind.Word (codes "x") ∷ kind.Punct 3 ∷ kind.Word (codes "z") ∷ [])
unfolding texts
comments = refl

pub comment_left_open : told (tokens_of (codes "x /*/")) ≡ Err (2, cause.Unclosed)
unfolding texts
comment_left_open = refl

pub characters : told (tokens_of (codes "'\\n' '\"' 'a'")) ≡ Ok (kind.Char (pos 10) ∷ kind.Char (pos 34) ∷ kind.Char (pos 97) ∷ [])
unfolding texts
characters = refl

pub no_character : told (tokens_of (codes "''")) ≡ Err (0, cause.BadToken)
unfolding texts
no_character = refl

pub two_characters : told (tokens_of (codes "'ab'")) ≡ Err (0, cause.BadToken)
unfolding texts
two_characters = refl

pub no_directives : told (tokens_of (codes "x # y")) ≡ Err (2, cause.BadByte)
unfolding texts
no_directives = refl

pub placed : tokens_of (codes " int x") ≡ Ok (record { kind = kind.Word (codes "int"); at = 1; len = 3 } ∷ record { kind = kind.Word (codes "x"); at = 5; len = 1 } ∷ [])
unfolding texts
placed = refl
