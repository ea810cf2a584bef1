use Rattle.std.proofs.Common.{◌≡◌, ◌++◌}
use Rattle.std.specs.List.{flat_map, range_with_len}
use Rattle.c_tree.specs.Points.{nth, callee_in}
use Rattle.frame_transform.specs.TargetText.{rebuild_line}
use Rattle.frame_transform.proofs.rebuild.append_rebuilds.Given as goal

abbrev pub invariant-places : goal.invariant-places
invariant-places l = l.out.items ≡ l.initial.out.items ++ flat_map (λ i. rebuild_line l.program i (callee_in (nth l.row i).act)) (range_with_len 0 l.n)
