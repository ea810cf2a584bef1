-- To which files the pieces of an answer are put.
use Rattle.std.specs.Prelude.{◌≡◌, ◌⊎◌, ℕ, List, [], ◌∷◌, Option, Some, None}
use Rattle.up_base.specs.Outside.{Contents}
use Rattle.answers.specs.Answer.{Piece, ToOut, ToFile}

-- a name is in a list of names
abbrev pub IsIn : List (List ℕ) → List ℕ → Type 0
IsIn [] name = ⊥
IsIn (x ∷ xs) name = (x ≡ name) ⊎ IsIn xs name

-- what a name holds, where contents are told
abbrev pub at : Option Contents → List ℕ → Option (Option (List ℕ))
at None name = None
at (Some m) name = Some (m name)

-- Pieces are put to no other files than these.
abbrev pub WritesOnly : List (List ℕ) → List Piece → Type 0
WritesOnly names [] = Unit {0}
WritesOnly names (ToOut text ∷ ps) = WritesOnly names ps
WritesOnly names (ToFile name text ∷ ps) = IsIn names name × WritesOnly names ps
