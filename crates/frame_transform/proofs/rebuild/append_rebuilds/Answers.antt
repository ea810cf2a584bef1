use Rattle.frame_transform.proofs.RebuildLemmas.{rebuild_more}
use Rattle.frame_transform.proofs.rebuild.append_rebuilds.Goals as goal

pub places-preserved : goal.places-preserved
places-preserved c =
    rebuild_more c.args.program.now c.args.row.now c.places.n c.index-row-n.result c.callee.result c.args.out.now.items c.places.out.items c.append_rebuild_at.new.out.items
    c.places-test.true c.index-row-n.is c.callee.ensures c.places.invariant c.in_ok-append_rebuild_at.ensures
