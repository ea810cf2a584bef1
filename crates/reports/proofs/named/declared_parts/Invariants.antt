use Rattle.std.proofs.Common.{◌≡◌, drop}
use Rattle.std.specs.Prelude.{find}
use Rattle.c_tree.specs.MapStack.{is_point_of}
use Rattle.reports.proofs.named.declared_parts.Given as goal

abbrev pub invariant-loop-entry : goal.invariant-loop-entry
invariant-loop-entry l = find (is_point_of l.function l.place) l.entries ≡ find (is_point_of l.function l.place) (drop l.entry-index l.entries)
