use Rattle.std.proofs.Common.{◌≡◌, drop}
use Rattle.c_tree.specs.MapStack as spec
use Rattle.stack_map.proofs.stack.unmapped_frame.Given as goal

abbrev pub invariant-loop-i : goal.invariant-loop-i
invariant-loop-i l =
    spec.unmapped l.m.link.now l.m.entries.now l.thread 0 l.frames ≡ spec.unmapped l.m.link.now l.m.entries.now l.thread l.i (drop l.i l.frames)
