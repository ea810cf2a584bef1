use Rattle.std.proofs.Common.{length, ◌-◌}
use Rattle.c_tokens.proofs.Scanning.{Scanned}
use Rattle.c_tokens.proofs.source.read_source.Given as goal

abbrev pub invariant-pieces : goal.invariant-pieces
invariant-pieces l = Scanned l.bytes l.lexemes.items l.part l.at

abbrev pub decreases-pieces : goal.decreases-pieces
decreases-pieces l = length l.bytes - l.at
