use Rattle.std.proofs.Common.{refl}
use Rattle.drive.proofs.OnWayLemmas.{way_begins, way_goes, way_ends}
use Rattle.drive.proofs.planned.drive_planned.Goals as goal

pub run-init : goal.run-init
run-init c = way_begins c.args.world.now.settings c.args.world.now c.args.start refl c.requires.single c.requires.new c.requires.low

pub run-preserved : goal.run-preserved
run-preserved c =
    way_goes c.args.world.now.settings c.args.start c.run.picker c.make_next.new.picker c.run.world c.make_next.new.world c.run.invariant c.in_ok-make_next.ensures.goes

pub returns-clause-planned : goal.returns-clause-planned
returns-clause-planned c =
    way_ends c.args.world.now.settings c.args.start c.run.picker c.run.world c.over.result c.run.invariant c.over.ensures c.run-test.ensures
