-- Lines, and the texts that are made of like parts.
use Rattle.std.specs.Prelude.{ℕ, zero, suc, List, [], ◌∷◌, ◌++◌, codes}
use Rattle.std.specs.List.{flat_map}
use Rattle.std.specs.Fmt.{decimal}

-- a text so many times
unfoldable pub times : ℕ → List ℕ → List ℕ
times zero text = []
times (suc n) text = text ++ times n text

-- a line: two spaces for each step of its depth, the text, and a newline
unfoldable pub line : ℕ → List ℕ → List ℕ
line depth text = times depth (codes "  ") ++ (text ++ codes "\n")

-- a number between two texts
abbrev pub numbered : List ℕ → ℕ → List ℕ → List ℕ
numbered before n after = before ++ (decimal n ++ after)

-- the mark of a place at which a frame may be saved
abbrev pub mark : ℕ → List ℕ
mark n = numbered (codes "UP_AT(") n (codes ");")

-- the texts of some things, with `, ` before each
abbrev pub each : {A : Type 0} → (A → List ℕ) → List A → List ℕ
each text xs = flat_map (λ x. codes ", " ++ text x) xs

-- the texts of some things, with `, ` between them
abbrev pub listed : {A : Type 0} → (A → List ℕ) → List A → List ℕ
listed text [] = []
listed text (x ∷ rest) = text x ++ each text rest
