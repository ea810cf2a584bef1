-- Comments.
use Rattle.std.specs.Prelude.{ℕ, ◌+◌, not, ◌==◌, nat_eq, if◌then◌else◌, List, [], ◌∷◌, Option, Some, None, option_map, codes}
use Rattle.std.specs.List.{prefix_len, starts_with}

-- how many bytes stand on the line from here on
abbrev pub line_len : List ℕ → ℕ
line_len bytes = prefix_len (λ b. not (b == 10)) bytes

-- how many bytes there are up to and including the first `*/`
unfoldable pub up_to_close : List ℕ → Option ℕ
up_to_close [] = None
up_to_close (b ∷ rest) = if starts_with nat_eq (b ∷ rest) (codes "*/") then Some 2 else option_map (λ n. 1 + n) (up_to_close rest)
