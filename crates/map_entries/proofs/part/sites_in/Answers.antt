use Rattle.std.proofs.Common.{◌∙◌, Some, map, sym, ap, arith}
use Rattle.map_entries.specs.Rest.{seen, site_in}
use Rattle.map_entries.proofs.PartLemmas.{all_made}
use Rattle.map_entries.proofs.part.sites_in.Goals as goal

pub returns : goal.returns
returns c =
    ap (λ xs. Some (map seen xs)) c.from_vec.ensures
    ∙ sym (all_made (λ x. site_in c.args.new.now x.0 x.1.point) c.args.functions.now c.args.parts.now (map seen c.parts.sites.items) c.parts.i
    (omega (arith, c.parts-test.false, c.min-i-end.ensures)) c.parts.invariant)
