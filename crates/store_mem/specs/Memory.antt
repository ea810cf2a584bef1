-- The memory of a running program as contracts see it.
use Rattle.std.specs.Prelude.{ℕ, ◌<◌, List, [], ◌∷◌, map, length, Option, Some, None, ⊤}
use Rattle.std.specs.List.{AllZip}
use Rattle.c_tree.specs.declared.event.ThreadMark.{ThreadMark}
use Rattle.c_tree.specs.declared.event.ThreadMark.TheVariants.{Live, Ended, Fresh}
use Rattle.c_tree.specs.declared.lifted.Lifted.{Lifted}
use Rattle.c_tree.specs.declared.state.Frame.{Frame}
use Rattle.c_tree.specs.declared.state.State.{State}

-- the number of fields of each struct, what the threads share, as a state, and a mark of each thread that was made
pub record Memory : Type 0 where
  pub fields : List ℕ
  pub state : State
  pub marks : List ThreadMark

-- the number of fields of each struct of a program
abbrev pub field_counts : Lifted → List ℕ
field_counts p = map (λ s. length s.fields) p.structs

-- a state without its threads
abbrev pub shared : State → State
shared s = record s { threads = [] }

-- the memory in which a program starts in a state: thread 0 is live, and there is no other
abbrev pub memory_of : Lifted → State → Memory
memory_of p s = record { fields = field_counts p; state = shared s; marks = Live ∷ [] }

-- A mark is one of a thread: of one that has ended, or of one that has frames.
abbrev pub IsMarkOf : ThreadMark → Option (List Frame) → Type 0
IsMarkOf Ended None = ⊤
IsMarkOf Live (Some frames) = 0 < length frames
IsMarkOf (Fresh function argument) (Some frames) = 0 < length frames
IsMarkOf _ _ = ⊥

-- The marks are those of these threads, one by one.
abbrev pub Marked : List ThreadMark → List (Option (List Frame)) → Type 0
Marked marks threads = AllZip IsMarkOf marks threads
