use Rattle.std.proofs.Common.{◌≡◌, drop}
use Rattle.std.specs.Prelude.{map}
use Rattle.c_reader.specs.Choices.{choices, first_kinds}
use Rattle.c_reader.specs.Picks.{predict}
use Rattle.c_reader.proofs.choose.pick.Given as goal

abbrev pub invariant-loop-symbols : goal.invariant-loop-symbols
invariant-loop-symbols l = predict choices first_kinds l.rule l.ahead ≡ predict (λ r. map (λ s. s.now) (drop l.symbols-index l.symbols-items)) first_kinds l.rule l.ahead
