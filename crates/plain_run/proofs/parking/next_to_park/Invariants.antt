use Rattle.std.proofs.Common.{◌≡◌, None}
use Rattle.std.specs.Prelude.{find}
use Rattle.std.specs.List.{range_with_len}
use Rattle.c_tree.specs.Run as r
use Rattle.plain_run.specs.CoreAt.{core_at}
use Rattle.plain_run.proofs.parking.next_to_park.Given as goal

abbrev pub invariant-loop-t : goal.invariant-loop-t
invariant-loop-t l = find (r.may_park (core_at l.program l.now)) (range_with_len 0 l.t) ≡ None
