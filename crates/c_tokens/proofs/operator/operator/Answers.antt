use Rattle.std.proofs.Common.{sym, arith, []}
use Rattle.std.proofs.lemmas.List.{get_or_past}
use Rattle.c_tokens.specs.Operator.{operators}
use Rattle.c_tokens.proofs.operator.operator.Goals as goal

pub returns-in_default : goal.returns-in_default
returns-in_default c = sym (get_or_past operators c.args.place [] (omega arith))
