use Rattle.std.proofs.Common.{◌≡◌, drop}
use Rattle.c_tree.specs.Typing.{are_same_types}
use Rattle.c_check.proofs.repeats.are_same_types.Given as goal

abbrev pub invariant-loop-x : goal.invariant-loop-x
invariant-loop-x l = are_same_types l.a l.b ≡ are_same_types (drop l.x-index l.a) l.left
