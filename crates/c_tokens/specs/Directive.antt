-- Lines that begin with `#`.
use Rattle.std.specs.Prelude.{ℕ, ◌+◌, ℤ, Bool, true, false, ◌==◌, nat_eq, if◌then◌else◌, List, [], ◌∷◌, length, take, drop, find, Option, Some, None, codes}
use Rattle.std.specs.List.{prefix_len, starts_with}
use Rattle.std.specs.Cmp.Lexicographic.{pointwise}
use Rattle.c_tree.specs.declared.cause.ReadCause.{ReadCause}
use Rattle.c_tree.specs.declared.cause.ReadCause.TheVariants as cause
use Rattle.c_tree.specs.declared.token.TokenKind.{TokenKind}
use Rattle.c_tree.specs.declared.token.TokenKind.TheVariants as kind
use Rattle.c_tree.specs.declared.program.At.{At}
use Rattle.c_tokens.specs.declared.front.Front.{Front}
use Rattle.c_tokens.specs.declared.front.Front.TheVariants as front
use Rattle.c_tokens.specs.declared.directive.Line.{Line}
use Rattle.c_tokens.specs.declared.directive.Line.TheVariants as line
use Rattle.c_tokens.specs.Byte.{is_gap, name_run}
use Rattle.c_tokens.specs.Front.{front_of}
use Rattle.c_tokens.specs.Word.{is_left_out, is_name}

-- goes on so many bytes further; each part of a line is read from an offset and the bytes from there on
abbrev pub past : ℕ → (ℕ → List ℕ → Line) → ℕ → List ℕ → Line
past n next at bytes = next (at + n) (drop n bytes)

-- how many blanks stand here on the line
abbrev pub gap_len : List ℕ → ℕ
gap_len bytes = prefix_len is_gap bytes

-- goes on behind the blanks that stand here on the line
abbrev pub past_gap : (ℕ → List ℕ → Line) → ℕ → List ℕ → Line
past_gap next at bytes = past (gap_len bytes) next at bytes

-- a line with a fault
abbrev pub broken : ℕ → ReadCause → Line
broken at why = line.Broken (record { at = at; it = why })

-- why a word may not stand where it stands: it is left out, or not expected there
abbrev pub misfit_word : List ℕ → ReadCause
misfit_word word = if is_left_out word then cause.LeftOut word else cause.Unexpected

-- why a token may not stand where it stands
abbrev pub misfit_token : TokenKind → ReadCause
misfit_token (kind.Word word) = misfit_word word
misfit_token _ = cause.Unexpected

-- why what stands at the front doesn't fit, be it the line's end
abbrev pub misfit : Front → ReadCause
misfit (front.Fault why) = why
misfit (front.Token kind n) = misfit_token kind
misfit _ = cause.Unexpected

-- the headers, with their `<` and `>`
abbrev pub headers : List (List ℕ)
headers = codes "<stdio.h>" ∷ codes "<stdlib.h>" ∷ codes "<pthread.h>" ∷ []

-- the header that the bytes begin with
abbrev pub header_at : List ℕ → Option (List ℕ)
header_at bytes = find (λ header. starts_with nat_eq bytes header) headers

-- a fault of its own comes first where another header's name begins
abbrev pub other_header : Front → ReadCause
other_header (front.Fault why) = why
other_header _ = cause.LeftOut (codes "include")

-- an include, by the header that its name begins with
abbrev pub included : Option (List ℕ) → ℕ → List ℕ → Line
included (Some header) at bytes = line.Include (at + length header)
included None at bytes = broken at (other_header (front_of bytes))

-- an include, from the header's name on
abbrev pub include : ℕ → List ℕ → Line
include at bytes = included (header_at bytes) at bytes

-- a define, with the offset behind its number
abbrev pub defined : At (List ℕ) → Bool → ℤ → ℕ → Line
defined name minus value at = line.Define (record { name = name; minus = minus; value = value }) at

-- a define with a minus, by what stands where its number is due
abbrev pub number_of : At (List ℕ) → Front → ℕ → Line
number_of name (front.Token (kind.Number value) n) at = defined name true value (at + n)
number_of name f at = broken at (misfit f)

-- a define with a minus, from its number on
abbrev pub number : At (List ℕ) → ℕ → List ℕ → Line
number name at bytes = number_of name (front_of bytes) at

-- a define, by what stands where its number or its minus is due
abbrev pub value_of : At (List ℕ) → Front → ℕ → List ℕ → Line
value_of name (front.Token (kind.Number value) n) at bytes = defined name false value (at + n)
value_of name (front.Token (kind.Punct place) n) at bytes = if place == 1 then past n (past_gap (number name)) at bytes else broken at cause.Unexpected
value_of name f at bytes = broken at (misfit f)

-- a define, from behind its name on
abbrev pub value : At (List ℕ) → ℕ → List ℕ → Line
value name at bytes = value_of name (front_of bytes) at bytes

-- a define, from behind the token that stands where its name is due
abbrev pub named : TokenKind → ℕ → ℕ → List ℕ → Line
named (kind.Word word) at behind bytes = if is_name word then past_gap (value (record { at = at; it = word })) behind bytes else broken at (misfit_word word)
named kind at behind bytes = broken at (misfit_token kind)

-- a define, by what stands where its name is due
abbrev pub define_of : Front → ℕ → List ℕ → Line
define_of (front.Token kind n) at bytes = past n (named kind at) at bytes
define_of f at bytes = broken at (misfit f)

-- a define, from its name on
abbrev pub define : ℕ → List ℕ → Line
define at bytes = define_of (front_of bytes) at bytes

-- a directive, from behind its word on
abbrev pub worded : List ℕ → ℕ → List ℕ → Line
worded word at bytes =
    if pointwise nat_eq word (codes "include") then past_gap include at bytes
    else if pointwise nat_eq word (codes "define") then past_gap define at bytes
    else line.Other

-- a directive, from its word on
abbrev pub with_word : ℕ → List ℕ → Line
with_word at bytes = past (name_run bytes) (worded (take (name_run bytes) bytes)) at bytes

-- a directive, from its `#` on
abbrev pub directive : ℕ → List ℕ → Line
directive at bytes = past 1 (past_gap with_word) at bytes
