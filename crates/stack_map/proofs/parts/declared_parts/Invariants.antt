use Rattle.std.proofs.Common.{◌≡◌, ◌++◌, drop, map}
use Rattle.c_tree.specs.MapStack as spec
use Rattle.c_tree.specs.Step.{function_of}
use Rattle.stack_map.specs.Moved as moved
use Rattle.stack_map.proofs.parts.declared_parts.Given as goal

abbrev pub invariant-loop-part : goal.invariant-loop-part
invariant-loop-part l =
    spec.parts_of l.k (function_of l.k.old l.function).slots l.parts
    ≡ map moved.part l.made.items ++ spec.parts_of l.k (moved.carried_from l.k l.from) (drop l.part-index l.parts)
