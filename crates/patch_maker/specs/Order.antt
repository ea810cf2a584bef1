-- The numbers by which entries are ordered.
use Rattle.std.specs.Prelude.{ℕ}
use Rattle.c_tree.specs.Canonical.{Key}

-- the three numbers of a key
abbrev pub numbers_of : Key → ℕ × ℕ × ℕ
numbers_of k = (k.group, k.first, k.second)
