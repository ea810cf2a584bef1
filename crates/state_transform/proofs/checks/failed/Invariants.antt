use Rattle.std.proofs.Common.{◌≡◌, ◌+◌, ◌≤◌, drop}
use Rattle.c_tree.specs.Refusal.{first_some}
use Rattle.c_tree.specs.Update as spec
use Rattle.state_transform.proofs.checks.failed.Given as goal

abbrev pub invariant-loop-i : goal.invariant-loop-i
invariant-loop-i l =
    (first_some (spec.failed_checks l.state 1 l.entries) ≡ first_some (spec.failed_checks l.state (l.before + 1) (drop l.i l.entries)))
    × (l.before ≤ l.i)
