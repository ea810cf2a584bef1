-- Turns of one thread that are made one after the other.
use Rattle.std.specs.Prelude.{◌≡◌, ◌≢◌, ℕ, false, slice_get, Some}
use Rattle.c_tree.specs.declared.lifted.Lifted.{Lifted}
use Rattle.store_mem.specs.Memory.{Memory}
use Rattle.target_code.specs.declared.activation.Mode.TheVariants.{Running}
use Rattle.target_code.specs.Between.{IsRunning, IsBetween}
use Rattle.target_code.specs.Code.{TargetCode}
use Rattle.target_code.specs.Machine.{Setting, Machine, Stopped, Stuck, turn, machine_of, target_of}
use Rattle.target_code.specs.Target.{Target}
use Rattle.target_code.specs.TargetRun.{TargetCore}

-- x is thread t of a running program between two events, and runs; this is the program's memory
pub record IsThreadOf (code : TargetCode) (t : ℕ) (x : Target) (memory : Memory) : Type 0 where
  pub program : Lifted
  pub core : TargetCore
  pub between : IsBetween program core
  pub code_is : core.code ≡ code
  pub memory_is : core.memory ≡ memory
  pub there : slice_get core.threads t ≡ Some (Some x)
  pub mode : x.mode ≡ Running

-- what thread t runs in where its frames aren't to be saved
abbrev pub calm : TargetCode → ℕ → Setting
calm code t = record { code = code; number = t; flag = false }

-- a turn of a thread never comes to an instruction, an operand or a saved frame that isn't there
abbrev pub ATurnIsNeverStuck : Type 0
ATurnIsNeverStuck =
    (code : TargetCode) (t : ℕ) (x : Target) (memory : Memory) (n : ℕ)
    → IsThreadOf code t x memory → turn (calm code t) n (machine_of x memory) ≢ Stuck

-- where a turn ends at a mark and no thread was made, the thread may make another one from there
abbrev pub ATurnLeadsToATurn : Type 0
ATurnLeadsToATurn =
    (code : TargetCode) (t : ℕ) (x : Target) (memory : Memory) (n : ℕ) (m : Machine)
    → IsThreadOf code t x memory → turn (calm code t) n (machine_of x memory) ≡ Stopped m
    → m.memory.marks ≡ memory.marks → IsThreadOf code t (target_of m) m.memory

-- where a turn ends at a mark the thread stands there, also where another thread was made
abbrev pub ATurnEndsStanding : Type 0
ATurnEndsStanding =
    (code : TargetCode) (t : ℕ) (x : Target) (memory : Memory) (n : ℕ) (m : Machine)
    → (h : IsThreadOf code t x memory) → turn (calm code t) n (machine_of x memory) ≡ Stopped m
    → IsRunning h.program (target_of m)

-- the thread stands at a mark, and its other activations wait
abbrev pub AThreadStands : Type 0
AThreadStands =
    (code : TargetCode) (t : ℕ) (x : Target) (memory : Memory)
    → (h : IsThreadOf code t x memory) → IsRunning h.program x

-- how many instructions a thread has run tells nothing of the running program
abbrev pub CountsTellNothing : Type 0
CountsTellNothing =
    (code : TargetCode) (t : ℕ) (x : Target) (memory : Memory) (count : ℕ)
    → IsThreadOf code t x memory → IsThreadOf code t (record x { count = count }) memory
