use Rattle.std.proofs.Common.{◌≡◌, map, take}
use Rattle.map_text.specs.Points.{points_of}
use Rattle.map_text.proofs.points.rows_of.Given as goal

-- the functions so far have their rows
abbrev pub invariant-functions : goal.invariant-functions
invariant-functions l = l.rows.items ≡ map points_of (take l.f l.functions)
