-- The numbers of the texts that a function prints, as they are kept.
use Rattle.std.specs.Prelude.{ℕ, slice_index_or}
use Rattle.lower.specs.declared.texts.Numbers.{Numbers}

-- the number that is kept for place n, and past the last place that of all texts
abbrev pub number : Numbers → ℕ → ℕ
number x n = slice_index_or x.at.now n x.past
