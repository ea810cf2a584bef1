-- Strings and character constants, from behind their opening quote on.
use Rattle.std.specs.Prelude.{ℕ, ◌+◌, Bool, true, false, not, ◌&&◌, ◌||◌, ◌==◌, if◌then◌else◌, List, [], ◌∷◌, ◌++◌, take, Option, Some, None, option_map}
use Rattle.c_tokens.specs.Byte.{is_within}
use Rattle.c_tokens.specs.declared.quoted.Quoted.{Quoted}
use Rattle.c_tokens.specs.declared.quoted.Quoted.TheVariants as quoted

-- whether a byte is a backslash that escapes the next one; `escaped` says that it is escaped itself
abbrev pub escapes : Bool → ℕ → Bool
escapes escaped b = b == 92 && not escaped

-- whether a byte is the closing quote
abbrev pub closes : ℕ → Bool → ℕ → Bool
closes quote escaped b = b == quote && not escaped

-- how many bytes stand before the closing quote, if it comes before the line's end
unfoldable pub up_to_quote : ℕ → Bool → List ℕ → Option ℕ
up_to_quote quote escaped [] = None
up_to_quote quote escaped (b ∷ rest) =
    if b == 10 then None
    else if closes quote escaped b then Some 0
    else option_map (λ n. 1 + n) (up_to_quote quote (escapes escaped b) rest)

-- the byte that an escape stands for
abbrev pub escape : ℕ → Option ℕ
escape b =
    if b == 110 then Some 10
    else if b == 116 then Some 9
    else if b == 92 || b == 34 || b == 39 then Some b
    else None

-- what a byte adds to the text, if it may stand there
abbrev pub added : Bool → ℕ → Option (List ℕ)
added true b = option_map (λ c. c ∷ []) (escape b)
added false b =
    if b == 92 then Some []
    else if is_within 32 126 b then Some (b ∷ [])
    else None

-- one text behind another, if both may stand there
abbrev pub joined : Option (List ℕ) → Option (List ℕ) → Option (List ℕ)
joined (Some front) (Some more) = Some (front ++ more)
joined _ _ = None

-- the text that the bytes between the quotes stand for
unfoldable pub text_of : Bool → List ℕ → Option (List ℕ)
text_of escaped [] = Some []
text_of escaped (b ∷ rest) = joined (added escaped b) (text_of (escapes escaped b) rest)

-- a text, with the number of the constant's bytes
abbrev pub closed : Option (List ℕ) → ℕ → Quoted
closed None n = quoted.Wrong
closed (Some text) n = quoted.Closed text n

-- a constant, by how many bytes stand before its closing quote
abbrev pub closed_at : Option ℕ → List ℕ → Quoted
closed_at None rest = quoted.Open
closed_at (Some n) rest = closed (text_of false (take n rest)) (n + 2)

-- a constant, by its quote and what follows the opening one
abbrev pub constant : ℕ → List ℕ → Quoted
constant quote rest = closed_at (up_to_quote quote false rest) rest
