-- How many places of each kind have been seen.
use Rattle.std.specs.Prelude.{ℕ, ◌+◌, List}
use Rattle.c_tree.specs.declared.place.Place.{Place}
use Rattle.c_tree.specs.declared.place.PlaceKind.{PlaceKind}
use Rattle.c_tree.specs.declared.place.PlaceKind.TheVariants as kind
use Rattle.c_tree.specs.Points.{before}
use Rattle.c_places.specs.declared.tally.Tally.{Tally}

-- none
abbrev pub nothing : Tally
nothing = record { entries = 0; loops = 0; blocks = 0; calls = 0; plain = 0 }

-- those among the first n places
abbrev pub of_first : List Place → ℕ → Tally
of_first places n = record {
  entries = before kind.Entry places n;
  loops = before kind.LoopEnd places n;
  blocks = before kind.Block places n;
  calls = before kind.Call places n;
  plain = before kind.Plain places n;
}

-- those of a kind
abbrev pub seen : Tally → PlaceKind → ℕ
seen t kind.Entry = t.entries
seen t kind.LoopEnd = t.loops
seen t kind.Block = t.blocks
seen t kind.Call = t.calls
seen t kind.Plain = t.plain

-- with one place more
abbrev pub counted : Tally → PlaceKind → Tally
counted t kind.Entry = record t { entries = t.entries + 1 }
counted t kind.LoopEnd = record t { loops = t.loops + 1 }
counted t kind.Block = record t { blocks = t.blocks + 1 }
counted t kind.Call = record t { calls = t.calls + 1 }
counted t kind.Plain = record t { plain = t.plain + 1 }
