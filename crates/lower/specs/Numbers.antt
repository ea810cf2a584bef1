-- The numbers of texts by places.
use Rattle.std.specs.Prelude.{ℕ, ◌+◌, List, [], ◌∷◌, length}
use Rattle.c_tree.specs.declared.place.Place.{Place}
use Rattle.target_code.specs.Code.{texts_at}

-- how many texts are printed before each of these places, where so many are printed before the first
abbrev pub numbers_from : ℕ → List Place → List ℕ
numbers_from from [] = []
numbers_from from (x ∷ rest) = from ∷ numbers_from (from + length (texts_at x.act)) rest
