use Rattle.std.proofs.Common.{◌≡◌, map}
use Rattle.c_tree.specs.Canonical.{with_fills_in_order}
use Rattle.patch_maker.proofs.order.all_with_fills_in_order.Given as goal

-- the entries so far have their slots in order
abbrev pub invariant-loop-entry : goal.invariant-loop-entry
invariant-loop-entry l = l.made.items ≡ map with_fills_in_order l.yielded
