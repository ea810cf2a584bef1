use Rattle.std.proofs.Common.{◌≡◌, drop}
use Rattle.up_base.specs.Memory.{lookup}
use Rattle.up_base.proofs.mem_files.find.Given as goal

abbrev pub invariant-entries : goal.invariant-entries
invariant-entries l = lookup l.entries l.name ≡ lookup (drop l.e-index l.entries) l.name
