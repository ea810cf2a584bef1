-- The numbers of a function's places by kind.
use Rattle.std.specs.Prelude.{List}
use Rattle.c_tree.specs.declared.place.Place.{Place}
use Rattle.c_tree.specs.declared.place.PlaceKind.TheVariants as kind
use Rattle.c_tree.specs.Points.{of_kind}
use Rattle.map_entries.specs.declared.numbers.Numbers.{Numbers}

-- the numbers of entries, loops' ends, calls and blocks among some places, ascending
abbrev pub numbers_of : List Place → Numbers
numbers_of ps = record {
  entries = of_kind kind.Entry ps;
  loops = of_kind kind.LoopEnd ps;
  calls = of_kind kind.Call ps;
  blocks = of_kind kind.Block ps;
}
