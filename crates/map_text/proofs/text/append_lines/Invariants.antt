use Rattle.std.proofs.Common.{◌≡◌, ◌++◌, take}
use Rattle.std.specs.List.{flat_map}
use Rattle.map_text.specs.Lines.{line}
use Rattle.map_text.proofs.text.append_lines.Given as goal

-- the entries so far are written
abbrev pub invariant-entries : goal.invariant-entries
invariant-entries l = l.out.items ≡ l.initial.out.items ++ flat_map (line l.programs) (take l.i l.entries)
