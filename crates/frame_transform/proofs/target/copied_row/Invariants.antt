use Rattle.std.proofs.Common.{◌≡◌, take}
use Rattle.frame_transform.proofs.target.copied_row.Given as goal

abbrev pub invariant-loop-place : goal.invariant-loop-place
invariant-loop-place l = l.copy.items ≡ take l.place-index l.row
