-- What a thread of two frames stands for, behind each instruction of its unwinding and its rebuilding.
use Rattle.std.specs.Prelude.{◌≡◌, ℕ, zero, suc, pos, Bool, true, false, List, [], ◌∷◌, refl, Some}
use Rattle.std.specs.Option.{option_map}
use Rattle.c_tree.specs.declared.state.Frame.{Frame}
use Rattle.c_tree.specs.Start.{start}
use Rattle.store_mem.specs.Memory.{Memory, memory_of}
use Rattle.target_code.specs.declared.activation.Mode.TheVariants.{Running, Saved}
use Rattle.target_code.specs.Code.{code_of}
use Rattle.target_code.specs.Compute.{target_literals}
use Rattle.target_code.specs.Machine.{Setting, Machine, Did, Goes, Over, act, advance, instr_at, machine_of, target_of, rebuilds}
use Rattle.target_code.specs.Seen.{seen}
use Rattle.target_code.specs.Target.{Target}
use Rattle.target_code.specs.TargetRun.{target_run}
use Rattle.c_tree.proofs.UpdateExamples.{frame}
use Rattle.target_code.proofs.Programs.{asks_old, asks_new, asks_entries}
use Rattle.target_code.proofs.Rows.{armed, events}

-- a function stands at its loop's end, inside `main`
abbrev pub two_frames : List Frame
two_frames = frame 1 1 (0 ∷ []) ∷ frame 0 4 (10 ∷ []) ∷ []

-- the thread that stands for them
abbrev pub standing : Target
standing = record {
  mode = Running;
  activations = record { function = 0; pc = 16; slots = pos 10 ∷ [] } ∷ record { function = 1; pc = 8; slots = pos 0 ∷ [] } ∷ [];
  returned = pos 0;
  saved = [];
  count = 23;
}

-- the thread when its frames are saved
abbrev pub kept : Target
kept = record standing { mode = Saved; activations = []; saved = two_frames }

-- what the threads share, of which nothing matters here
abbrev pub nothing : Memory
nothing = memory_of asks_old (start asks_old [])

abbrev pub setting : Bool → Setting
setting flag = record { code = code_of asks_old; number = 0; flag = flag }

-- the instruction goes on with a machine, or the run is over
abbrev pub onward : Did → (Machine → Did) → Did
onward (Goes m) next = next m
onward (Over r) next = Over r

-- what n instructions do
abbrev pub done_by : Bool → ℕ → Machine → Did
done_by flag zero m = Goes m
done_by flag (suc n) m = onward (act (setting flag) (instr_at (setting flag) m) m) (done_by flag n)

-- what the thread stands for, where the run goes on
abbrev pub stands_for : Did → List Frame
stands_for (Goes m) = seen (code_of asks_old) (target_of m)
stands_for (Over r) = []

pub standing_is_reached :
    option_map (λ c. c.threads) (target_run 60 (armed asks_old asks_new asks_entries 6) (events (armed asks_old asks_new asks_entries 6) 6)) ≡ Some (Some standing ∷ [])
unfolding target_literals
standing_is_reached = refl

pub standing_stands : seen (code_of asks_old) standing ≡ two_frames
unfolding target_literals
standing_stands = refl

-- one frame is saved, and the other isn't
pub unwinding_stands : stands_for (done_by true 1 (advance (machine_of standing nothing))) ≡ two_frames
unfolding target_literals
unwinding_stands = refl

pub kept_stands : seen (code_of asks_old) kept ≡ two_frames
unfolding target_literals
kept_stands = refl

-- behind n instructions of the rebuilding
abbrev pub StandsRebuilding : ℕ → Type 0
StandsRebuilding n = stands_for (done_by false n (rebuilds (code_of asks_old) kept nothing)) ≡ two_frames

-- the first activation is at its `restore`
pub begun_stands : StandsRebuilding 0
unfolding target_literals
begun_stands = refl

-- it is in the rebuilding part of its call, at the zero
pub loaded_stands : StandsRebuilding 1
unfolding target_literals
loaded_stands = refl

-- and at the call
pub zero_stands : StandsRebuilding 2
unfolding target_literals
zero_stands = refl

-- the second activation is at its `restore`
pub called_stands : StandsRebuilding 3
unfolding target_literals
called_stands = refl

-- the second one is at its mark, and the thread runs
pub rebuilt_stands : StandsRebuilding 4
unfolding target_literals
rebuilt_stands = refl
