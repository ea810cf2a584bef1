use Rattle.std.proofs.Common.{◌≡◌, ◌++◌, take, Some, None}
use Rattle.std.specs.List.{flat_map}
use Rattle.c_tree.specs.Canonical.{fill_text}
use Rattle.c_tree.specs.MapExpr.{reads_of}
use Rattle.map_text.proofs.fills.append_each.Given as goal

-- the fills so far are written
abbrev pub invariant-fills : goal.invariant-fills
invariant-fills l = l.out.items ≡ l.initial.out.items ++ flat_map (fill_text (reads_of l.old (Some l.function) None) l.slots) (take l.i l.fills)
