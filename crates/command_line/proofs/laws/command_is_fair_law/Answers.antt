use Rattle.command_line.proofs.LawLemmas.{command_is_fair}
use Rattle.command_line.proofs.laws.command_is_fair_law.Goals as goal

pub returns : goal.returns
returns c = command_is_fair
