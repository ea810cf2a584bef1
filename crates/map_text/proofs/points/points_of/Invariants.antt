use Rattle.std.proofs.Common.{◌≡◌, map}
use Rattle.std.specs.List.{range_with_len}
use Rattle.c_places.specs.Tally.{of_first}
use Rattle.map_text.specs.Points.{point_at}
use Rattle.map_text.proofs.points.points_of.Given as goal

-- the places so far are counted, and have their points
abbrev pub invariant-places : goal.invariant-places
invariant-places l = (l.tally ≡ of_first l.row l.n) × (l.points.items ≡ map (λ m. point_at l.row m) (range_with_len 0 l.n))
