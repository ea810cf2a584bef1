use Rattle.std.proofs.Common.{◌≡◌, ◌++◌, take}
use Rattle.std.specs.List.{flat_map}
use Rattle.history.specs.History.{spaced}
use Rattle.history.proofs.print.push_words.Given as goal

abbrev pub invariant-loop-number : goal.invariant-loop-number
invariant-loop-number l = l.out.items ≡ (l.fn.out.items ++ l.word) ++ flat_map spaced (take l.number-index l.numbers)
