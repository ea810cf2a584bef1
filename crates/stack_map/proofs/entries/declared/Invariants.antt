use Rattle.std.proofs.Common.{take}
use Rattle.stack_map.specs.Subjects.{GivesFirst}
use Rattle.stack_map.proofs.entries.declared.Given as goal

abbrev pub invariant-loop-i : goal.invariant-loop-i
invariant-loop-i l = GivesFirst l.declared (take l.i l.entries)
