use Rattle.c_lift.specs.Around.{standing}
use Rattle.c_lift.proofs.FunctionLemmas.{no_body}
use Rattle.c_lift.proofs.function.lift_stmts.Goals as goal

pub returns-in-None : goal.returns-in-None
returns-in-None c = no_body (standing c.args.setting.now c.args.locals.now) c.args.made.now.items c.args.body.now c.new-lifted.result.items c.in-None.is c.new-lifted.ensures.items
