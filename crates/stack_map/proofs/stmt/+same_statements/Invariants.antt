use Rattle.std.proofs.Common.{◌≡◌, drop}
use Rattle.c_tree.specs.Same as spec
use Rattle.stack_map.proofs.stmt.+same_statements.Given as goal

-- what is left decides
abbrev pub invariant-same_block-loop-i : goal.invariant-same_block-loop-i
invariant-same_block-loop-i l = spec.same_body l.k l.a l.b ≡ spec.same_body l.k (drop l.i l.a) (drop l.i l.b)
