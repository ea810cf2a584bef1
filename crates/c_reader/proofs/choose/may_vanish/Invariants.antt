use Rattle.std.proofs.Common.{◌≡◌, drop}
use Rattle.std.specs.Prelude.{map}
use Rattle.std.specs.List.{list_any}
use Rattle.c_reader.specs.Choices.{choices}
use Rattle.c_reader.specs.Picks.{is_empty}
use Rattle.c_reader.proofs.choose.may_vanish.Given as goal

abbrev pub invariant-loop-symbols : goal.invariant-loop-symbols
invariant-loop-symbols l = list_any is_empty (choices l.fn.rule) ≡ list_any is_empty (map (λ s. s.now) (drop l.symbols-index l.symbols-items))
