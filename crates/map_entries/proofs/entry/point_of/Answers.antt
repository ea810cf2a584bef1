use Rattle.map_entries.proofs.PointOfLemmas.{some_of, through}
use Rattle.map_entries.proofs.entry.point_of.Goals as goal

pub returns : goal.returns
returns c =
    through c.args.k.now c.args.old.now c.args.new.now c.args.f c.args.from c.args.functions.now c.args.parts.now c.point_between.result
    c.in_ok-n.n c.place_of.result c.in_ok-sites_in.field-0 c.in_ok-sites.sites c.as_slice.result.now c.requires.old c.requires.new c.place_of.ensures
    (some_of c.place_of.result _ c.ok_or.result c.in_ok-n.n c.ok_or.ensures.value c.in_ok-n.was)
    c.in_ok-sites_in.ensures (some_of c.in_ok-sites_in.field-0 _ c.ok_or-2.result c.in_ok-sites.sites c.ok_or-2.ensures.value c.in_ok-sites.was)
    c.as_slice.ensures c.point_between.ensures
