use Rattle.std.proofs.Common.{◌≡◌, false, replicate}
use Rattle.patch_match.proofs.sides.unnamed.Given as goal

abbrev pub invariant-unnamed : goal.invariant-unnamed
invariant-unnamed l = l.named.items ≡ replicate l.counter false
