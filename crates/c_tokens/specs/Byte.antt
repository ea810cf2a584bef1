-- The kinds of bytes.
use Rattle.std.specs.Prelude.{ℕ, Bool, ◌&&◌, ◌||◌, ◌==◌, nat_le, if◌then◌else◌, List}
use Rattle.std.specs.List.{prefix_len}
use Rattle.c_tokens.specs.declared.class.Class.{Class}
use Rattle.c_tokens.specs.declared.class.Class.TheVariants as class

-- whether a byte lies between two others or is one of them
abbrev pub is_within : ℕ → ℕ → ℕ → Bool
is_within low high b = nat_le low b && nat_le b high

-- a space, a tab or a carriage return: a blank that ends no line
abbrev pub is_gap : ℕ → Bool
is_gap b = b == 32 || b == 9 || b == 13

-- one of these, or a newline
abbrev pub is_blank : ℕ → Bool
is_blank b = is_gap b || b == 10

-- `0` to `9`
abbrev pub is_digit : ℕ → Bool
is_digit b = is_within 48 57 b

-- a letter or `_`
abbrev pub is_letter : ℕ → Bool
is_letter b = is_within 65 90 b || is_within 97 122 b || b == 95

-- a letter, a digit or `_`
abbrev pub is_name_byte : ℕ → Bool
is_name_byte b = is_letter b || is_digit b

-- what a byte says of the token that it begins
abbrev pub class_of : ℕ → Class
class_of b =
    if is_blank b then class.Blank
    else if is_digit b then class.Digit
    else if is_letter b then class.Letter
    else if b == 34 then class.Quote
    else if b == 39 then class.Apostrophe
    else class.Sign

-- how many name bytes stand at the front
abbrev pub name_run : List ℕ → ℕ
name_run bytes = prefix_len is_name_byte bytes
