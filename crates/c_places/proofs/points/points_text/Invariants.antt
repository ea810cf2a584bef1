use Rattle.std.proofs.Common.{◌≡◌, take}
use Rattle.std.specs.List.{flat_map}
use Rattle.c_tree.specs.Layout.{places}
use Rattle.c_tree.specs.Points.{lines_of}
use Rattle.c_places.proofs.points.points_text.Given as goal

-- the lines of the functions so far
abbrev pub invariant-functions : goal.invariant-functions
invariant-functions l = l.out.items ≡ flat_map (λ g. lines_of g.name (places g)) (take l.f l.functions)
