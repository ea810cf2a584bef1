-- What holds of the texts.
use Rattle.std.specs.Prelude.{ℕ, ◌≤◌, length}
use Rattle.load_texts.specs.Texts.{mapping}

-- the mapping keeps the limit of a mapping's file
abbrev pub MappingsAreShort : Type 0
MappingsAreShort = (n : ℕ) → n ≤ 1000 → length (mapping n) ≤ 1048576
