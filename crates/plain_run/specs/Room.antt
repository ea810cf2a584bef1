-- The events that may come where no memory is left.
use Rattle.std.specs.Prelude.{ℕ, ◌+◌, if◌then◌else◌, List, length}
use Rattle.c_tree.specs.declared.run.Phase.{Phase}
use Rattle.c_tree.specs.Run.{is_asked}

-- how many they are: the outcome of an update that is asked for, and a Resume of each parked thread
abbrev pub owed : Phase → List ℕ → ℕ
owed phase parked = (if is_asked phase then 1 else 0) + length parked
