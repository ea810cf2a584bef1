use Rattle.std.proofs.Common.{◌≡◌, map}
use Rattle.c_tree.specs.Canonical.{part_in_order}
use Rattle.patch_maker.proofs.order.parts_in_order.Given as goal

-- the parts so far have their slots in order
abbrev pub invariant-loop-part : goal.invariant-loop-part
invariant-loop-part l = l.made.items ≡ map part_in_order l.yielded
