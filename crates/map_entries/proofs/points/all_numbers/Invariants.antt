use Rattle.std.proofs.Common.{◌≡◌, map, take}
use Rattle.map_entries.specs.Numbers.{numbers_of}
use Rattle.map_entries.proofs.points.all_numbers.Given as goal

-- those of the functions so far
abbrev pub invariant-loop-f : goal.invariant-loop-f
invariant-loop-f l = l.numbers.items ≡ map numbers_of (take l.f l.rows)
