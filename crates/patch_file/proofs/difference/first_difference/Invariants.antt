use Rattle.std.proofs.Common.{◌≡◌, ◌≤◌, length, take}
use Rattle.patch_file.proofs.difference.first_difference.Given as goal

-- the texts are the same so far
abbrev pub invariant-loop-i : goal.invariant-loop-i
invariant-loop-i l = record { same : take l.i l.a ≡ take l.i l.b; inside : l.i ≤ length l.b }
