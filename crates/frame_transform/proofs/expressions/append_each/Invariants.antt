use Rattle.std.proofs.Common.{◌≡◌, ◌++◌, take}
use Rattle.c_tree.specs.Shown.{shown}
use Rattle.frame_transform.specs.Inside.{reads}
use Rattle.frame_transform.specs.Line.{each}
use Rattle.frame_transform.proofs.expressions.append_each.Given as goal

abbrev pub invariant-exprs : goal.invariant-exprs
invariant-exprs l = l.out.items ≡ l.initial.out.items ++ each (shown (reads l.inside)) (take l.i l.exprs)
