use Rattle.std.specs.Prelude.{not}
use Rattle.c_tree.specs.Suits.{links_to}
use Rattle.map_entries.specs.Rest.{seen}
use Rattle.map_entries.proofs.PartLemmas.{LeftFrom}
use Rattle.map_entries.proofs.site.some_calls_another.Given as goal

-- the sites so far call the next one's function
abbrev pub invariant-sites : goal.invariant-sites
invariant-sites l = LeftFrom seen (λ s next. not (links_to l.new s next)) l.sites l.i
