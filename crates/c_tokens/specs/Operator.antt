-- Operators.
use Rattle.std.specs.Prelude.{ℕ, nat_eq, List, [], ◌∷◌, slice_index_or, find, Option, codes}
use Rattle.std.specs.List.{starts_with}

-- the operators, by their places
abbrev pub operators : List (List ℕ)
operators =
    codes "+" ∷ codes "-" ∷ codes "*" ∷ codes "/" ∷ codes "%" ∷ codes "<<" ∷ codes ">>" ∷ codes "<" ∷ codes "<=" ∷
    codes ">" ∷ codes ">=" ∷ codes "==" ∷ codes "!=" ∷ codes "&" ∷ codes "^" ∷ codes "|" ∷ codes "&&" ∷ codes "||" ∷
    codes "!" ∷ codes "~" ∷ codes "=" ∷ codes "+=" ∷ codes "-=" ∷ codes "*=" ∷ codes "/=" ∷ codes "%=" ∷ codes "&=" ∷
    codes "^=" ∷ codes "|=" ∷ codes "<<=" ∷ codes ">>=" ∷ codes "++" ∷ codes "--" ∷ codes "->" ∷ codes "(" ∷ codes ")" ∷
    codes "[" ∷ codes "]" ∷ codes "{" ∷ codes "}" ∷ codes "," ∷ codes ";" ∷ codes "." ∷ codes "?" ∷ codes ":" ∷
    []

-- the bytes of the operator of a place
abbrev pub operator : ℕ → List ℕ
operator place = slice_index_or operators place []

-- their places, the longest operators first
abbrev pub longest_first : List ℕ
longest_first =
    29 ∷ 30 ∷
    5 ∷ 6 ∷ 8 ∷ 10 ∷ 11 ∷ 12 ∷ 16 ∷ 17 ∷ 21 ∷ 22 ∷ 23 ∷ 24 ∷ 25 ∷ 26 ∷ 27 ∷ 28 ∷ 31 ∷ 32 ∷ 33 ∷
    0 ∷ 1 ∷ 2 ∷ 3 ∷ 4 ∷ 7 ∷ 9 ∷ 13 ∷ 14 ∷ 15 ∷ 18 ∷ 19 ∷ 20 ∷ 34 ∷ 35 ∷ 36 ∷ 37 ∷ 38 ∷ 39 ∷ 40 ∷ 41 ∷ 42 ∷ 43 ∷ 44 ∷
    []

-- the place of the longest operator that the bytes begin with
abbrev pub longest : List ℕ → Option ℕ
longest bytes = find (λ place. starts_with nat_eq bytes (operator place)) longest_first
