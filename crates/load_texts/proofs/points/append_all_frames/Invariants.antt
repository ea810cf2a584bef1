use Rattle.std.proofs.Common.{◌≡◌, ◌++◌}
use Rattle.std.specs.List.{flat_map, range_with_len}
use Rattle.load_texts.specs.Texts.{frames}
use Rattle.load_texts.proofs.points.append_all_frames.Given as goal

-- the frames of the functions so far are written
abbrev pub invariant-functions : goal.invariant-functions
invariant-functions l = l.out.items ≡ l.initial.out.items ++ flat_map frames (range_with_len 1 l.i)
