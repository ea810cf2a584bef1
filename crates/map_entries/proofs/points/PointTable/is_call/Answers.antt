use Rattle.std.proofs.Common.{◌∙◌, ap}
use Rattle.std.specs.Prelude.{is_some}
use Rattle.c_tree.specs.Step.{function_of}
use Rattle.c_tree.specs.Layout.{place_at}
use Rattle.map_entries.proofs.NumberLemmas.{callee_is_call}
use Rattle.map_entries.proofs.points.PointTable.is_call.Goals as goal

pub returns : goal.returns
returns c =
    c.is_some.ensures ∙ (ap is_some c.callee.ensures ∙ callee_is_call (place_at (function_of c.args.self.now c.args.f) c.args.n).act)
