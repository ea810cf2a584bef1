use Rattle.std.proofs.Common.{◌≡◌, drop, map}
use Rattle.c_tree.specs.MapStack as spec
use Rattle.c_tree.specs.Step.{view_of}
use Rattle.stack_map.specs.Added.{after}
use Rattle.stack_map.specs.Filled.{because}
use Rattle.stack_map.specs.Moved as moved
use Rattle.stack_map.proofs.frames.add_parts.Given as goal

abbrev pub invariant-loop-part : goal.invariant-loop-part
invariant-loop-part l =
    after l.fn.made.items (spec.part_frames (view_of l.state l.frame) (because l.whose) 0 (map moved.part l.parts))
    ≡ after l.made.items (spec.part_frames (view_of l.state l.frame) (because l.whose) l.first (map moved.part (drop l.part-index l.parts)))
