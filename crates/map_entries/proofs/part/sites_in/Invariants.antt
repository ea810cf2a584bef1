use Rattle.std.proofs.Common.{map}
use Rattle.map_entries.specs.Rest.{seen, site_in}
use Rattle.map_entries.proofs.PartLemmas.{SoFar}
use Rattle.map_entries.proofs.part.sites_in.Given as goal

-- the sites so far
abbrev pub invariant-parts : goal.invariant-parts
invariant-parts l = SoFar (λ x. site_in l.new x.0 x.1.point) l.functions l.parts (map seen l.sites.items) l.i
