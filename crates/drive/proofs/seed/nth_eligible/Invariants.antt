use Rattle.std.proofs.Common.{◌≡◌, ◌+◌, length}
use Rattle.std.specs.Prelude.{filter}
use Rattle.std.specs.List.{range_with_len}
use Rattle.c_tree.specs.Run as r
use Rattle.world_core.specs.History.{core}
use Rattle.drive.proofs.seed.nth_eligible.Given as goal

abbrev pub invariant-loop-t : goal.invariant-loop-t
invariant-loop-t l = length (filter (r.may_step l.world.settings (core l.world)) (range_with_len 0 l.t)) + l.left ≡ l.index
