-- What the calls of a thread leave.
use Rattle.std.specs.Prelude.{◌≡◌, ◌≤◌, ℕ, ◌+◌, ◌*◌, Bool, true, false, length}
use Rattle.c_tree.specs.Limits.{max_frames}
use Rattle.store_mem.specs.Memory.{Memory}
use Rattle.target_code.specs.Between.{IsBetweenTurns}
use Rattle.target_code.specs.Code.{TargetCode, IsCode}
use Rattle.target_code.specs.Machine.{Setting, Machine, function_in, Unwound, Stopped, go, turn, machine_of, target_of, all_saved, rebuilds}
use Rattle.target_code.specs.Seen.{seen}
use Rattle.target_code.specs.Target.{Target}
use Rattle.target_laws.specs.SavedFrames.{AreSound}

-- what thread t runs in, with the flag set or not
abbrev pub setting : TargetCode → ℕ → Bool → Setting
setting code t flag = record { code = code; number = t; flag = flag }

-- a thread has unwound: the machine, whatever the memory, saves these frames with this count, and
-- they are those for which the thread stood; it takes two instructions a frame at most
pub record HasUnwound (code : TargetCode) (old new : Target) : Type 0 where
  pub is : new ≡ all_saved old new.saved new.count
  pub unwinds :
      (t : ℕ) (memory : Memory)
      → (n : ℕ) × (turn (setting code t true) n (machine_of old memory) ≡ Unwound new.saved memory new.count)
  pub stood : seen code old ≡ new.saved
  pub quick : new.count ≤ old.count + 2 * length old.activations

-- the saved frames of a thread can be rebuilt in the code, whose positions fit 32 bits
pub record CanRebuild (code : TargetCode) (x : Target) : Type 0 where
  pub coded : IsCode code
  pub sound : AreSound coded.program x.saved
  pub few : length x.saved ≤ max_frames
  pub short : (f : ℕ) → length (function_in code f).body ≤ 4294967296

-- a thread has rebuilt its frames: the machine, whatever the memory, comes to this thread and
-- leaves the memory; the thread is between two turns, and stands for the frames that were saved; it
-- takes 130 instructions a frame at most
pub record HasRebuilt (code : TargetCode) (old new : Target) : Type 0 where
  pub rebuilds :
      (t : ℕ) (memory : Memory)
      → (n : ℕ) × (m : Machine) × (go (setting code t false) n (rebuilds code old memory) ≡ Stopped m)
      × (new ≡ target_of m) × (m.memory ≡ memory)
  pub between : IsBetweenTurns code new
  pub stands : seen code new ≡ old.saved
  pub quick : new.count ≤ old.count + 130 * length old.saved
