use Rattle.std.proofs.Common.{◌≡◌, ℕ, ◌+◌, ◌-◌, List, take, drop, ap, arith}
use Rattle.c_tree.specs.declared.token.Token.{Token}
use Rattle.c_tree.specs.declared.program.Expr.{Expr}
use Rattle.c_reader.proofs.Outcomes.{at_case}
use Rattle.c_reader.proofs.Fronts.{found_part, cut_part, no_fault_part}
use Rattle.c_reader.proofs.front.expr_before.Goals as goal

part_is : (ts : List Token) (from count : ℕ) → take (from + count - from) (drop from ts) ≡ take count (drop from ts)
part_is ts from count = ap (λ n. take n (drop from ts)) (omega arith)

pub unreachable-requires : goal.unreachable-requires
unreachable-requires c =
    no_fault_part c.args.tokens.now _ c.args.from c.args.count _ c.args.cause _ (part_is c.args.tokens.now c.args.from c.args.count) c.requires.fault (at_case _ _ _ _ c.in-Ok-Fault.ensures c.in-Ok-Fault.field-0-is)

pub returns-in-Ok-Done : goal.returns-in-Ok-Done
returns-in-Ok-Done c =
    found_part c.args.tokens.now _ c.args.from c.args.count c.args.cause _ _ (part_is c.args.tokens.now c.args.from c.args.count) c.requires.other c.requires.fault (at_case _ _ _ _ c.in-Ok-Done.ensures c.in-Ok-Done.field-0-is)
    (ap {B = Expr} (λ x. x.expr) c.pop_operand.ensures.value)

pub returns-in-Ok-CutShort : goal.returns-in-Ok-CutShort
returns-in-Ok-CutShort c =
    cut_part c.args.tokens.now _ c.args.from c.args.count c.args.cause _ (part_is c.args.tokens.now c.args.from c.args.count) c.requires.other c.requires.fault (at_case _ _ _ _ c.in-Ok-CutShort.ensures c.in-Ok-CutShort.field-0-is)
