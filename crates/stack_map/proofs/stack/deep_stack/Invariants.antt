use Rattle.std.proofs.Common.{◌≡◌, ◌+◌, ◌≤◌, drop}
use Rattle.c_tree.specs.MapStack as spec
use Rattle.stack_map.proofs.stack.deep_stack.Given as goal

abbrev pub invariant-loop-i : goal.invariant-loop-i
invariant-loop-i l =
    (spec.new_depth l.m.link.now l.m.entries.now l.frames ≡ l.depth + spec.new_depth l.m.link.now l.m.entries.now (drop l.i l.frames))
    × (l.depth ≤ 10000)
