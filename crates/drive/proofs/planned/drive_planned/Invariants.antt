use Rattle.drive.specs.Measure.{measure}
use Rattle.drive.specs.OnWay.{OnWay}
use Rattle.drive.proofs.planned.drive_planned.Given as goal

abbrev pub invariant-run : goal.invariant-run
invariant-run l = OnWay l.initial.world.settings l.fn.start l.world l.picker

abbrev pub decreases-run : goal.decreases-run
decreases-run l = measure l.world
