use Rattle.std.proofs.Common.{◌≡◌, ◌++◌}
use Rattle.std.specs.List.{flat_map, range_with_len}
use Rattle.c_tree.specs.Points.{kind_at, number_of, point, line}
use Rattle.c_places.specs.Tally.{of_first}
use Rattle.c_places.proofs.points.write_lines.Given as goal

-- the places so far are counted, and their lines written
abbrev pub invariant-places : goal.invariant-places
invariant-places l =
    (l.tally ≡ of_first l.row l.n)
    × (l.out.items ≡ l.initial.out.items ++ flat_map (λ i. line l.function i (point (kind_at l.row i) (number_of l.row i))) (range_with_len 0 l.n))
