use Rattle.std.proofs.Common.{◌≡◌, ◌++◌, drop}
use Rattle.c_tree.specs.Names.{names_in}
use Rattle.patch_match.specs.Matching.{matched}
use Rattle.patch_match.proofs.matching.matches_beside.Given as goal

abbrev pub invariant-loop-i : goal.invariant-loop-i
invariant-loop-i l = matched l.named l.kind l.old l.new 0 (names_in l.old l.kind) ≡ l.made.items ++ matched l.named l.kind l.old l.new l.i (drop l.i l.names)
