use Rattle.std.proofs.Common.{◌≡◌, take}
use Rattle.patch_match.proofs.tables.mutex_names.Given as goal

abbrev pub invariant-loop-mutex : goal.invariant-loop-mutex
invariant-loop-mutex l = l.names ≡ take l.mutex-index l.mutexes
