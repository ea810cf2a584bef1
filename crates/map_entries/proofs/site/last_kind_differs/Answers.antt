use Rattle.std.proofs.Common.{◌∙◌, sym}
use Rattle.c_tree.specs.Suits.{kind_differs}
use Rattle.map_entries.specs.Rest.{seen}
use Rattle.map_entries.proofs.PartLemmas.{last_there}
use Rattle.map_entries.proofs.site.last_kind_differs.Goals as goal

pub returns-in-Some : goal.returns-in-Some
returns-in-Some c =
    c.kind_differs.ensures ∙ sym (last_there seen (kind_differs c.args.k.now (seen c.args.from)) c.args.sites.now c.in-Some.last.now (sym c.in-Some.ensures.value))
