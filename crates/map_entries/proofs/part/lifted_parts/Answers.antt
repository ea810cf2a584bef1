use Rattle.std.proofs.Common.{◌∙◌, ◌+◌, Some, get_or, map, sym, ap, subst, arith}
use Rattle.c_tree.specs.Chain.{lifted_part}
use Rattle.map_entries.specs.declared.site.Site.{Site}
use Rattle.map_entries.specs.Rest.{seen}
use Rattle.map_entries.proofs.PartLemmas.{SoFar, one_more_seen, one_lacks_seen, all_made_seen}
use Rattle.map_entries.proofs.part.lifted_parts.Goals as goal

abbrev none : Site
none = record { function = 0; place = 0 }

pub returns-in-None : goal.returns-in-None
returns-in-None c =
    one_lacks_seen seen (λ x. lifted_part c.args.k.now c.args.from x.0 x.1.fills) c.args.sites.now c.args.parts.now c.parts.lifted.items c.parts.i none c.index-parts-i.result
    (omega (arith, c.parts-test.true, c.min-i-end.ensures)) (omega (arith, c.parts-test.true, c.min-i-end.ensures)) c.index-parts-i.is c.parts.invariant
    (ap (λ p. lifted_part c.args.k.now c.args.from (seen (get_or c.args.sites.now c.parts.i none)) p.fills) c.index-parts-i.is
    ∙ (ap (lifted_part c.args.k.now c.args.from (seen (get_or c.args.sites.now c.parts.i none))) (sym c.as_slice.ensures) ∙ (sym c.in_ok-part.ensures ∙ c.in-None.is)))

pub parts-preserved : goal.parts-preserved
parts-preserved c =
    subst (λ made. SoFar (λ x. lifted_part c.args.k.now c.args.from x.0 x.1.fills) (map seen c.args.sites.now) c.args.parts.now made (c.parts.i + 1)) (sym c.in_ok-push-in-Some.ensures.items)
    (one_more_seen seen (λ x. lifted_part c.args.k.now c.args.from x.0 x.1.fills) c.args.sites.now c.args.parts.now c.parts.lifted.items c.parts.i none c.index-parts-i.result
    (omega (arith, c.parts-test.true, c.min-i-end.ensures)) (omega (arith, c.parts-test.true, c.min-i-end.ensures)) c.index-parts-i.is c.parts.invariant c.in-Some.part
    (ap (λ p. lifted_part c.args.k.now c.args.from (seen (get_or c.args.sites.now c.parts.i none)) p.fills) c.index-parts-i.is
    ∙ (ap (lifted_part c.args.k.now c.args.from (seen (get_or c.args.sites.now c.parts.i none))) (sym c.as_slice.ensures) ∙ (sym c.in_ok-part.ensures ∙ c.in-Some.is))))

pub returns : goal.returns
returns c =
    ap (λ xs. Some xs) c.from_vec.ensures
    ∙ sym (all_made_seen seen (λ x. lifted_part c.args.k.now c.args.from x.0 x.1.fills) c.args.sites.now c.args.parts.now c.parts.lifted.items c.parts.i
    (omega (arith, c.parts-test.false, c.min-i-end.ensures)) c.parts.invariant)
