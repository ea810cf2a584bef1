use Rattle.std.proofs.Common.{take}
use Rattle.patch_match.specs.Matching.{TellsNumbers}
use Rattle.patch_match.proofs.numbered.sides_of.Given as goal

abbrev pub invariant-loop-entry : goal.invariant-loop-entry
invariant-loop-entry l = TellsNumbers l.named l.kind l.old l.new (take l.entry-index l.entries)
