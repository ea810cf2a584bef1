-- The places of a program's functions.
use Rattle.std.specs.Prelude.{◌≡◌, List, map}
use Rattle.std.specs.Coded.{Coded-set, coded_list}
use Rattle.c_tree.specs.declared.lifted.Lifted.{Lifted}
use Rattle.c_tree.specs.declared.place.Place.{Place}
use Rattle.c_tree.specs.contracts.place.Place as place
use Rattle.c_tree.specs.Layout as layout

-- rows of places are those of a program's functions
abbrev pub ArePlacesOf : List (List Place) → Lifted → Type 0
ArePlacesOf rows p = rows ≡ map layout.places p.functions

-- they are so in one way
pub one_way : (rows : List (List Place)) (p : Lifted) → IsProp (ArePlacesOf rows p)
one_way rows p = Coded-set (coded_list (coded_list place.the_row.coded)) _ _
