use Rattle.std.proofs.Common.{◌≡◌, ◌++◌}
use Rattle.std.specs.Prelude.{replicate, pos}
use Rattle.target_code.specs.declared.instr.Instr.TheVariants as instr
use Rattle.lower.proofs.calls.put_zeros.Given as goal

abbrev pub invariant-zeros : goal.invariant-zeros
invariant-zeros l = l.out.items ≡ l.initial.out.items ++ replicate l.i (instr.Const (pos 0))
