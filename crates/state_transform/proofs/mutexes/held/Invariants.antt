use Rattle.std.proofs.Common.{◌≡◌, drop}
use Rattle.c_tree.specs.MapMutexes as spec
use Rattle.state_transform.proofs.mutexes.held.Given as goal

abbrev pub invariant-loop-m : goal.invariant-loop-m
invariant-loop-m l = spec.held l.k 0 l.owners ≡ spec.held l.k l.m (drop l.m l.owners)
