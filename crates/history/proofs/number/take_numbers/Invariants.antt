use Rattle.std.proofs.Common.{◌≡◌, ◌-◌, ◌++◌, length, take, All}
use Rattle.std.specs.List.{flat_map}
use Rattle.history.specs.History.{IsShort, spaced}
use Rattle.history.specs.Taken.{LacksNumbers}
use Rattle.history.proofs.number.take_numbers.Given as goal

abbrev pub invariant-loop-i : goal.invariant-loop-i
invariant-loop-i l = record {
  four : length l.numbers ≡ 4;
  short : All IsShort (take l.i l.numbers);
  whole : l.bytes ≡ flat_map spaced (take l.i l.numbers) ++ l.rest;
  lacks : LacksNumbers (l.count - l.i) l.rest → LacksNumbers l.count l.bytes;
}
