use Rattle.std.proofs.Common.{◌≡◌, ◌⊎◌, ◌<◌}
use Rattle.c_tree.specs.Points.{before}
use Rattle.c_tree.proofs.place.Places.find.Given as goal

-- how many of the kind have been seen, and that none of them was the one asked for
abbrev pub invariant-loop-n : goal.invariant-loop-n
invariant-loop-n l = (l.seen ≡ before l.kind l.row l.n) × ((l.k ≡ 0) ⊎ (l.seen < l.k))
