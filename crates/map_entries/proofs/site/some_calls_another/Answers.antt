use Rattle.std.proofs.Common.{◌∙◌, sym, ap}
use Rattle.std.specs.Prelude.{not}
use Rattle.c_tree.specs.Suits.{links_to}
use Rattle.map_entries.specs.Rest.{seen}
use Rattle.map_entries.proofs.PartLemmas.{left_first, left_on, left_found, left_none}
use Rattle.map_entries.proofs.site.some_calls_another.Goals as goal

pub sites-init : goal.sites-init
sites-init c = left_first seen (λ s next. not (links_to c.args.new.now s next)) c.args.sites.now

pub sites-preserved : goal.sites-preserved
sites-preserved c =
    left_on seen (λ s next. not (links_to c.args.new.now s next)) c.args.sites.now c.sites.i (record { function = 0; place = 0 }) c.sites.auto.i c.sites-test.true
    (ap not (sym c.links_to.ensures ∙ c.if-not-links_to.false)) c.sites.invariant

pub returns-then-not-links_to : goal.returns-then-not-links_to
returns-then-not-links_to c =
    left_found seen (λ s next. not (links_to c.args.new.now s next)) c.args.sites.now c.sites.i (record { function = 0; place = 0 }) c.sites.auto.i c.sites-test.true
    (ap not (sym c.links_to.ensures ∙ c.if-not-links_to.true)) c.sites.invariant

pub returns : goal.returns
returns c = left_none seen (λ s next. not (links_to c.args.new.now s next)) c.args.sites.now c.sites.i c.sites-test.false c.sites.invariant
