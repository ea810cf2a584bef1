use Rattle.std.proofs.Common.{◌≡◌, true}
use Rattle.std.specs.Prelude.{filter}
use Rattle.std.specs.List.{list_all, list_any, range_with_len}
use Rattle.std.specs.Prelude.{◌==◌}
use Rattle.c_tree.specs.Step.{is_live}
use Rattle.plain_run.proofs.parking.may_decide.Given as goal

abbrev pub invariant-loop-t : goal.invariant-loop-t
invariant-loop-t l = list_all (λ t. list_any (λ u. u == t) l.now.parked.items) (filter (is_live l.now.state) (range_with_len 0 l.t)) ≡ true
