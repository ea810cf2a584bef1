use Rattle.std.proofs.Common.{ap, refl, ◌∙◌}
use Rattle.c_tree.specs.declared.cause.ReadCause.TheVariants as cause
use Rattle.c_tree.specs.declared.program.Expr.{Expr}
use Rattle.c_reader.specs.declared.found.Found.TheVariants as found
use Rattle.c_reader.proofs.Outcomes.{at_case}
use Rattle.c_reader.proofs.Fronts.{found_whole, deep_there, rest_first, rest_reading}
use Rattle.c_reader.proofs.front.expr_at.Goals as goal

pub returns-in-Ok-Done : goal.returns-in-Ok-Done
returns-in-Ok-Done c =
    found_whole c.args.tokens.now c.args.from _ _ c.requires.within (rest_reading c.args.tokens.now _ c.args.from _ refl (at_case _ _ _ _ c.in-Ok-Done.ensures c.in-Ok-Done.field-0-is))
    (ap {B = Expr} (λ x. x.expr) c.pop_operand.ensures.value)

pub returns-in-Ok-Fault-default-TooDeep : goal.returns-in-Ok-Fault-default-TooDeep
returns-in-Ok-Fault-default-TooDeep c =
    deep_there c.args.tokens.now c.args.from _ _ (rest_first c.args.tokens.now _ c.args.from _ _ refl
    (at_case _ _ _ (found.Fault c.in-Ok-Fault-default-TooDeep.i cause.TooDeep) c.in-Ok-Fault-default-TooDeep.ensures
    (c.in-Ok-Fault-default-TooDeep.field-0-is ∙ ap (λ x. found.Fault c.in-Ok-Fault-default-TooDeep.i x) c.in-Ok-Fault-default-TooDeep.field-0-1-is)))
