use Rattle.std.proofs.Common.{rules}
use Rattle.stack_map.proofs.SameLemmas.{same-Bin-Bin}
use Rattle.stack_map.proofs.expr.+same.Goals as goal

pub returns-in-Bin-b : goal.returns-in-Bin-b
returns-in-Bin-b t c = rw (c.in-Bin.is, c.in-Bin-b.is) (search (rules, same-Bin-Bin))
