use Rattle.c_reader.proofs.Outcomes.{meets, misses_over}
use Rattle.c_reader.proofs.machine.Machine.meet.Goals as goal

pub returns-then-self-gt-OPERATOR_LIMIT : goal.returns-then-self-gt-OPERATOR_LIMIT
returns-then-self-gt-OPERATOR_LIMIT g c =
    misses_over _ _ _ _ _ _ _ _ _ _ _ c.kind-kind.ensures c.is_left_out.ensures c.if-is_left_out.false
    c.in_ok-advance.ensures.reached c.in-Some.is c.advance.ensures.lower c.advance.ensures.fewer c.keep.ensures.symbols c.in_ok-keep-in-Some.ensures.state c.if-self-gt-OPERATOR_LIMIT.true

pub returns-else-self-gt-OPERATOR_LIMIT : goal.returns-else-self-gt-OPERATOR_LIMIT
returns-else-self-gt-OPERATOR_LIMIT g c =
    meets _ _ _ _ _ _ _ _ _ _ _ _ _ c.kind-kind.ensures c.is_left_out.ensures c.if-is_left_out.false c.depth_limit.ensures c.is_deeper.ensures c.if-is_deeper.false
    c.in_ok-advance.ensures.reached c.in-Some.is c.advance.ensures.lower c.advance.ensures.fewer c.keep.ensures.symbols c.in_ok-keep-in-Some.ensures.state c.if-self-gt-OPERATOR_LIMIT.false
