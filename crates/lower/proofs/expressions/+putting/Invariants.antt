use Rattle.std.proofs.Common.{◌+◌, ◌*◌}
use Rattle.target_code.specs.Operands.{size}
use Rattle.lower.proofs.expressions.+putting.Given as goal

abbrev pub decreases-put_expr : goal.decreases-put_expr
decreases-put_expr l = 4 * size l.e.now

abbrev pub decreases-put_with : goal.decreases-put_with
decreases-put_with l = 4 * size l.e.now + 1

abbrev pub decreases-put_bin : goal.decreases-put_bin
decreases-put_bin l = 4 * (size l.left.now + size l.right.now) + 2

abbrev pub decreases-put_both : goal.decreases-put_both
decreases-put_both l = 4 * (size l.left.now + size l.right.now) + 1

abbrev pub decreases-put_and : goal.decreases-put_and
decreases-put_and l = 4 * (size l.left.now + size l.right.now) + 1

abbrev pub decreases-put_or : goal.decreases-put_or
decreases-put_or l = 4 * (size l.left.now + size l.right.now) + 1
