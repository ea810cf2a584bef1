use Rattle.std.proofs.Common.{map}
use Rattle.c_tree.specs.Chain.{lifted_part}
use Rattle.map_entries.specs.Rest.{seen}
use Rattle.map_entries.proofs.PartLemmas.{SoFar}
use Rattle.map_entries.proofs.part.lifted_parts.Given as goal

-- the parts so far
abbrev pub invariant-parts : goal.invariant-parts
invariant-parts l = SoFar (λ x. lifted_part l.k l.from x.0 x.1.fills) (map seen l.sites) l.parts l.lifted.items l.i
