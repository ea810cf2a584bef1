use Rattle.std.proofs.Common.{◌≡◌, replicate}
use Rattle.patch_match.specs.declared.sides.Said.TheVariants.{Nothing}
use Rattle.patch_match.proofs.sides.nothing.Given as goal

abbrev pub invariant-nothing : goal.invariant-nothing
invariant-nothing l = l.said.items ≡ replicate l.counter Nothing
