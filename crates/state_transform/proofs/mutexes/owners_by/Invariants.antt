use Rattle.std.proofs.Common.{◌≡◌, ◌++◌, drop}
use Rattle.c_tree.specs.MapMutexes as spec
use Rattle.state_transform.proofs.OwnersFrom.{owners_from}
use Rattle.state_transform.proofs.mutexes.owners_by.Given as goal

abbrev pub invariant-loop-m : goal.invariant-loop-m
invariant-loop-m l = spec.new_owners l.k l.state ≡ l.made.items ++ owners_from l.k l.state l.m (drop l.m l.k.new.mutexes)
