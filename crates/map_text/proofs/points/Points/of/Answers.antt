use Rattle.std.proofs.Common.{◌∙◌, map, ap}
use Rattle.std.proofs.lemmas.Simd.{map-map}
use Rattle.c_tree.specs.Layout.{places}
use Rattle.map_text.specs.Points.{points_of}
use Rattle.map_text.proofs.points.Points.of.Goals as goal

pub invariant_of-result : goal.invariant_of-result
invariant_of-result c =
    c.in_ok-rows.ensures ∙ (ap (map points_of) c.in_ok-places.ensures ∙ map-map points_of places c.args.program.now.functions)
