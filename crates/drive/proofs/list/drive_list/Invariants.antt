use Rattle.drive.specs.Listed.{OnList}
use Rattle.drive.proofs.list.drive_list.Given as goal

abbrev pub invariant-loop-i : goal.invariant-loop-i
invariant-loop-i l = OnList l.initial.world.settings l.clean l.listed.items l.i l.world
