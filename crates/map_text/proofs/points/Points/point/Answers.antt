use Rattle.std.proofs.Common.{◌∙◌, ap}
use Rattle.c_tree.specs.Canonical.{point_text}
use Rattle.map_text.specs.Points.{point_in}
use Rattle.map_text.proofs.PointLemmas.{row_of_text, no_row_text}
use Rattle.map_text.proofs.points.Points.point.Goals as goal

pub returns-in-Some : goal.returns-in-Some
returns-in-Some c =
    ap point_text (c.point_in.ensures ∙ ap (λ xs. point_in xs c.args.place) c.as_slice-in-Some.ensures)
    ∙ row_of_text c.self.inside.program.now c.args.self.now c.as_slice.result.now c.in-Some.row.now c.args.function c.args.place
    c.self.view_is (c.as_slice.ensures ∙ c.self.invariant) c.in-Some.ensures.lookup.3.0 c.in-Some.ensures.lookup.1

pub returns-in-None : goal.returns-in-None
returns-in-None c =
    ap point_text c.point_in-in-None.ensures
    ∙ no_row_text c.self.inside.program.now c.args.self.now c.as_slice.result.now c.args.function c.args.place
    c.self.view_is (c.as_slice.ensures ∙ c.self.invariant) c.in-None.ensures.lookup.3
