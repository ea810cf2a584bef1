use Rattle.c_tokens.proofs.Sizes.{result_within}
use Rattle.c_tokens.proofs.front.front_of.Goals as goal

pub returns-clause-within : goal.returns-clause-within
returns-clause-within c = result_within _ c.args.bytes.now c.read_front.ensures
