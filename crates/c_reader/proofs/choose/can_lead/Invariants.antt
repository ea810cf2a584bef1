use Rattle.std.proofs.Common.{◌≡◌, drop}
use Rattle.c_reader.specs.Choices.{first_kinds}
use Rattle.c_reader.specs.Picks.{leads}
use Rattle.c_reader.proofs.choose.can_lead.Given as goal

abbrev pub invariant-loop-symbol : goal.invariant-loop-symbol
invariant-loop-symbol l = leads first_kinds l.symbols l.ahead ≡ leads first_kinds (drop l.symbol-index l.symbols) l.ahead
