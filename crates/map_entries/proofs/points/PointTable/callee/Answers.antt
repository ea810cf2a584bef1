use Rattle.std.proofs.lemmas.Option.{slice_get_past}
use Rattle.map_entries.proofs.NumberLemmas.{outside_called}
use Rattle.map_entries.proofs.points.PointTable.callee.Goals as goal

pub returns-in-None : goal.returns-in-None
returns-in-None c =
    outside_called c.args.self.now.functions c.as_slice.result.now c.args.f c.args.n (cc (c.as_slice.ensures, c.self.invariant.0, c.self.view_is)) (slice_get_past c.as_slice.result.now c.args.f c.in-None.ensures.lookup.3)
