use Rattle.std.proofs.Common.{◌≡◌, ◌+◌, ◌≤◌, min, drop}
use Rattle.target_code.specs.Operands.{sizes}
use Rattle.lower.proofs.size.args_size.Given as goal

abbrev pub invariant-each : goal.invariant-each
invariant-each l = (l.total ≤ 4294967296) × (min (l.total + sizes (drop l.i l.args)) 4294967296 ≡ min (sizes l.args) 4294967296)
