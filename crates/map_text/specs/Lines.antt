-- The parts of a line.
use Rattle.std.specs.Prelude.{ℕ, List, [], ◌∷◌, ◌++◌, codes}
use Rattle.c_tree.specs.declared.lifted.Lifted.{Lifted}
use Rattle.c_tree.specs.declared.mapping.LEntry.{LEntry}
use Rattle.c_tree.specs.Step.{function_of}
use Rattle.c_tree.specs.Points.{point_of}
use Rattle.c_tree.specs.Link.{Link}
use Rattle.c_tree.specs.Canonical.{point_text, entry_text}

-- the old side of a point
abbrev pub from : Lifted → ℕ → ℕ → List ℕ
from p f n = codes "point " ++ (function_of p f).name ++ 32 ∷ point_text (point_of (function_of p f) n)

-- the line of an entry
abbrev pub line : Link → LEntry → List ℕ
line k x = entry_text k x ++ 59 ∷ 10 ∷ []
