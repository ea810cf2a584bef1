use Rattle.c_tokens.proofs.TokenOrder.{result_order, result_within}
use Rattle.c_tokens.proofs.text_scan.tokens.Goals as goal

pub returns-clause-order : goal.returns-clause-order
returns-clause-order c = result_order _ c.args.bytes.now c.read_tokens.ensures.ok

pub returns-clause-within : goal.returns-clause-within
returns-clause-within c = result_within _ c.args.bytes.now c.read_tokens.ensures.ok
