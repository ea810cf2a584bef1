use Rattle.std.proofs.Common.{◌≤◌, length}
use Rattle.up_base.proofs.host_files.read_within.Given as goal

abbrev pub invariant-reads : goal.invariant-reads
invariant-reads g l = length l.bytes.items ≤ l.limit
