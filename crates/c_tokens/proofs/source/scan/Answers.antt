use Rattle.c_tokens.proofs.TextOrder.{result_order, result_within}
use Rattle.c_tokens.proofs.source.scan.Goals as goal

pub returns-clause-order : goal.returns-clause-order
returns-clause-order c = result_order _ c.args.bytes.now c.read_source.ensures

pub returns-clause-within : goal.returns-clause-within
returns-clause-within c = result_within _ c.args.bytes.now c.read_source.ensures
