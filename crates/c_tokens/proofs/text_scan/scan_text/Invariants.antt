use Rattle.std.proofs.Common.{length, ◌-◌}
use Rattle.c_tokens.proofs.TextScanning.{Scanned}
use Rattle.c_tokens.proofs.text_scan.scan_text.Given as goal

abbrev pub invariant-fronts : goal.invariant-fronts
invariant-fronts l = Scanned l.bytes l.tokens.items l.at

abbrev pub decreases-fronts : goal.decreases-fronts
decreases-fronts l = length l.bytes - l.at
