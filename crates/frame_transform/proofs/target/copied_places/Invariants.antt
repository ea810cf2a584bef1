use Rattle.std.proofs.Common.{◌≡◌, take}
use Rattle.frame_transform.proofs.target.copied_places.Given as goal

abbrev pub invariant-loop-row : goal.invariant-loop-row
invariant-loop-row l = l.functions.items ≡ take l.row-index l.rows
