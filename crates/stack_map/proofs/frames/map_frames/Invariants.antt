use Rattle.std.proofs.Common.{◌≡◌, drop}
use Rattle.c_tree.specs.MapStack as spec
use Rattle.stack_map.specs.Added.{after}
use Rattle.stack_map.specs.Moved as moved
use Rattle.stack_map.proofs.frames.map_frames.Given as goal

abbrev pub invariant-loop-i : goal.invariant-loop-i
invariant-loop-i l =
    (spec.map_frames l.m.link.now l.m.entries.now l.state l.thread 0 l.frames
    ≡ after l.made.items (spec.map_frames l.m.link.now l.m.entries.now l.state l.thread l.i (drop l.i l.frames)))
    × moved.Tells l.m.link.now l.m.entries.now l.known
