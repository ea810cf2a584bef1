use Rattle.std.proofs.Common.{sym, ◌∙◌}
use Rattle.stack_map.proofs.CarryLemmas.{carried_none, carried_from}
use Rattle.stack_map.proofs.carry.carried.Goals as goal

pub returns-in-None : goal.returns-in-None
returns-in-None c = sym (carried_none c.args.k.now c.args.olds.now c.args.new.now (sym c.requires ∙ c.in-None.is))

pub loop-i-init : goal.loop-i-init
loop-i-init c = carried_from c.args.k.now c.args.olds.now c.args.new.now c.in-Some.first (sym c.requires ∙ c.in-Some.is)
