use Rattle.std.proofs.Common.{◌≡◌, ◌++◌, take}
use Rattle.std.specs.List.{flat_map}
use Rattle.c_tree.specs.Canonical.{added_text}
use Rattle.map_text.proofs.part.append_each_added.Given as goal

-- the parts so far are written
abbrev pub invariant-added : goal.invariant-added
invariant-added l = l.out.items ≡ l.initial.out.items ++ flat_map (added_text l.programs l.function) (take l.i l.added)
