use Rattle.std.proofs.Common.{◌≡◌}
use Rattle.c_tree.specs.MapGlobals as spec
use Rattle.state_transform.proofs.globals.resized.Given as goal

abbrev pub invariant-loop-i : goal.invariant-loop-i
invariant-loop-i l = l.made.items ≡ spec.resized l.i l.values
