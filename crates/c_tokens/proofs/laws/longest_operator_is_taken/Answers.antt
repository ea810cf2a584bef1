use Rattle.c_tokens.proofs.Longest.{takes_longest}
use Rattle.c_tokens.proofs.laws.longest_operator_is_taken.Goals as goal

pub returns : goal.returns
returns c = takes_longest
