-- Literals: decimal, octal with a leading 0, hexadecimal with a leading `0x` or `0X`.
use Rattle.std.specs.Prelude.{ℕ, ◌+◌, ◌-◌, ◌*◌, Bool, ◌&&◌, ◌||◌, nat_eq, nat_lt, nat_le, if◌then◌else◌, List, length, drop, fold, Result, Ok, Err, codes}
use Rattle.std.specs.List.{list_all, starts_with}
use Rattle.c_tree.specs.declared.cause.ReadCause.{ReadCause}
use Rattle.c_tree.specs.declared.cause.ReadCause.TheVariants as cause
use Rattle.c_tokens.specs.Byte.{is_within, is_digit}

-- what a byte counts as a digit: 0 to 15, and 16 where it is none
abbrev pub digit_of : ℕ → ℕ
digit_of b =
    if is_digit b then b - 48
    else if is_within 97 102 b then b - 87
    else if is_within 65 70 b then b - 55
    else 16

-- at least one byte, and each a digit of the base
abbrev pub are_digits : ℕ → List ℕ → Bool
are_digits base bytes = nat_lt 0 (length bytes) && list_all (λ b. nat_lt (digit_of b) base) bytes

-- the number that digits of a base spell
abbrev pub number_of : ℕ → List ℕ → ℕ
number_of base digits = fold (λ n b. base * n + digit_of b) 0 digits

-- the number from 0 to 2147483647 that digits of a base spell
abbrev pub in_base : ℕ → List ℕ → Result ℕ ReadCause
in_base base digits =
    if are_digits base digits then (if nat_le (number_of base digits) 2147483647 then Ok (number_of base digits) else Err cause.Literal)
    else Err cause.BadToken

-- whether a literal begins with `0x` or `0X`
abbrev pub is_hexadecimal : List ℕ → Bool
is_hexadecimal run = starts_with nat_eq run (codes "0x") || starts_with nat_eq run (codes "0X")

-- the number of a literal
abbrev pub literal : List ℕ → Result ℕ ReadCause
literal run =
    if is_hexadecimal run then in_base 16 (drop 2 run)
    else if starts_with nat_eq run (codes "0") then in_base 8 run
    else in_base 10 run
