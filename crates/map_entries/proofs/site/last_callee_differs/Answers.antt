use Rattle.std.proofs.Common.{◌∙◌, sym}
use Rattle.c_tree.specs.Suits.{callee_differs}
use Rattle.map_entries.specs.Rest.{seen}
use Rattle.map_entries.proofs.PartLemmas.{last_there}
use Rattle.map_entries.proofs.site.last_callee_differs.Goals as goal

pub returns-in-Some : goal.returns-in-Some
returns-in-Some c =
    c.callee_differs.ensures ∙ sym (last_there seen (callee_differs c.args.k.now (seen c.args.from)) c.args.sites.now c.in-Some.last.now (sym c.in-Some.ensures.value))
