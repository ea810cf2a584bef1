use Rattle.std.specs.Prelude.{not}
use Rattle.c_tree.specs.Suits.{is_call_at}
use Rattle.map_entries.specs.Rest.{seen}
use Rattle.map_entries.proofs.PartLemmas.{LeftFrom}
use Rattle.map_entries.proofs.site.some_is_no_call.Given as goal

-- the sites so far are calls
abbrev pub invariant-sites : goal.invariant-sites
invariant-sites l = LeftFrom seen (λ s next. not (is_call_at l.new s)) l.sites l.i
