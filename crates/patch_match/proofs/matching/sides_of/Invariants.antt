use Rattle.std.proofs.Common.{take}
use Rattle.std.specs.Prelude.{map}
use Rattle.patch_match.specs.Matching.{TellsOf}
use Rattle.patch_match.proofs.matching.sides_of.Given as goal

abbrev pub invariant-loop-entry : goal.invariant-loop-entry
invariant-loop-entry l = TellsOf l.named l.kind l.old l.new (map (λ x. x.it) (take l.entry-index l.mapping))
