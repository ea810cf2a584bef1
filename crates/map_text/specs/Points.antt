-- The points of a function's places, in their order.
use Rattle.std.specs.Prelude.{ℕ, List, length, map, slice_index_or}
use Rattle.std.specs.List.{range_with_len}
use Rattle.c_tree.specs.declared.lifted.Lifted.{Lifted}
use Rattle.c_tree.specs.declared.mapping.Pt.{Pt}
use Rattle.c_tree.specs.declared.place.Place.{Place}
use Rattle.c_tree.specs.declared.place.PlaceKind.TheVariants as kind
use Rattle.c_tree.specs.Layout.{places}
use Rattle.c_tree.specs.Points.{kind_at, number_of}

-- the point of the place n
abbrev pub point_at : List Place → ℕ → Pt
point_at places n = record { kind = kind_at places n; number = number_of places n }

-- the point of each place
abbrev pub points_of : List Place → List Pt
points_of places = map (λ n. point_at places n) (range_with_len 0 (length places))

-- the points of each function
abbrev pub rows_of : Lifted → List (List Pt)
rows_of p = map (λ f. points_of (places f)) p.functions

-- the point of an entry
abbrev pub entry : Pt
entry = record { kind = kind.Entry; number = 1 }

-- what stands for a place that is not there
abbrev pub no_point : Pt
no_point = record { kind = kind.Plain; number = 1 }

-- the point of the place n of a row
abbrev pub point_in : List Pt → ℕ → Pt
point_in points n = slice_index_or points n no_point
