use Rattle.std.proofs.Common.{take}
use Rattle.patch_match.specs.Origins.{GivesOrigins}
use Rattle.patch_match.proofs.backward.origins_of.Given as goal

abbrev pub invariant-loop-i : goal.invariant-loop-i
invariant-loop-i l = GivesOrigins l.origins (take l.i l.found)
