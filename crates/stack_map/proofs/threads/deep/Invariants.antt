use Rattle.std.proofs.Common.{◌≡◌, drop}
use Rattle.c_tree.specs.Refusal.{first_some}
use Rattle.c_tree.specs.Update as spec
use Rattle.stack_map.proofs.threads.deep.Given as goal

abbrev pub invariant-loop-t : goal.invariant-loop-t
invariant-loop-t l =
    first_some (spec.all_deep l.m.link.now l.m.entries.now 0 l.threads) ≡ first_some (spec.all_deep l.m.link.now l.m.entries.now l.t (drop l.t l.threads))
