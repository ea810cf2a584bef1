-- What holds of the target machine and its code.
use Rattle.std.specs.Prelude.{◌≡◌, ◌≢◌, ◌⊎◌, ◌<◌, ◌≤◌, ℕ, Bool, true, false, ⊤, List, length, slice_get, Option, Some}
use Rattle.c_tree.specs.declared.lifted.Lifted.{Lifted}
use Rattle.c_tree.specs.declared.event.Event.{Event}
use Rattle.c_tree.specs.declared.run.Settings.{Settings}
use Rattle.c_tree.specs.declared.event.EventKind.TheVariants as e
use Rattle.c_tree.specs.declared.state.Frame.{Frame}
use Rattle.c_tree.specs.declared.state.State.{State}
use Rattle.c_tree.specs.Able.{is_update_place}
use Rattle.c_tree.specs.Formed.{IsFormed}
use Rattle.c_tree.specs.Limits.{max_frames}
use Rattle.c_tree.specs.Run.{Core, run}
use Rattle.c_tree.specs.Step.{Outcome, Done, Blocked, top_of, at_frame, step}
use Rattle.c_tree.specs.Step as source
use Rattle.c_tree.specs.Valid.{ValidStack}
use Rattle.state_laws.specs.Laws.{IsWellArmed}
use Rattle.store_mem.specs.Memory.{Memory}
use Rattle.target_code.specs.declared.instr.Instr.{Instr}
use Rattle.target_code.specs.declared.instr.Instr.TheVariants as i
use Rattle.target_code.specs.declared.activation.Mode.TheVariants.{Running}
use Rattle.target_code.specs.Between.{body_at, IsRunning, IsBetween}
use Rattle.target_code.specs.Code.{code_of}
use Rattle.target_code.specs.Machine.{Setting, Machine, Ran, Stopped, Trapped, Ended, Finished, Unwound, Unfinished, go, turn, machine_of, rebuilds, target_of}
use Rattle.target_code.specs.Seen.{seen}
use Rattle.target_code.specs.Target.{Target}
use Rattle.target_code.specs.Machine as machine
use Rattle.target_code.specs.TargetRun.{TargetCore, state_of, setting_of, target_next, target_run, IsTargetRun}
use Rattle.target_laws.specs.SavedFrames.{AreSound}

-- an instruction before which a turn stops, or at which a caller goes on or is saved
abbrev pub IsStop : Option Instr → Type 0
IsStop (Some (i.Mark n)) = ⊤
IsStop (Some (i.After n to)) = ⊤
IsStop _ = ⊥

-- in the code of a formed program each jump goes forward, or to a mark or an `after`
abbrev pub JumpsStop : Type 0
JumpsStop =
    (p : Lifted) (f at to : ℕ) → IsFormed p → slice_get (body_at p f) at ≡ Some (i.Jump to) → (at < to) ⊎ IsStop (slice_get (body_at p f) to)

-- in the code of a formed program each test goes forward
abbrev pub TestsGoForward : Type 0
TestsGoForward = (p : Lifted) (f at to : ℕ) → IsFormed p → slice_get (body_at p f) at ≡ Some (i.Jz to) → at < to

-- a run of a machine that is over ends the same where it may be longer
abbrev pub MachinesHaveOneEnd : Type 0
MachinesHaveOneEnd = (w : Setting) (m : Machine) (j k : ℕ) → j ≤ k → go w j m ≢ Unfinished → go w k m ≡ go w j m

-- where each thread may look at more instructions, a run leads to the same core
abbrev pub MoreFuelIsTheSame : Type 0
MoreFuelIsTheSame =
    (m n : ℕ) (k : Settings) (es : List Event) (c : TargetCore) → m ≤ n → target_run m k es ≡ Some c → target_run n k es ≡ Some c

-- a list of events leads the target machine to one core at most
abbrev pub RunsHaveOneTarget : Type 0
RunsHaveOneTarget = (k : Settings) (es : List Event) (c d : TargetCore) → IsTargetRun k es c → IsTargetRun k es d → c ≡ d

-- what thread t of a program runs in, with the flag set or not
abbrev pub setting : Lifted → ℕ → Bool → Setting
setting p t flag = record { code = code_of p; number = t; flag = flag }

-- a thread that runs and stands for frames whose innermost one is at an update place saves exactly these frames
abbrev pub AnUnwindingSaves : Type 0
AnUnwindingSaves =
    (p : Lifted) (t : ℕ) (x : Target) (memory : Memory) → IsRunning p x
    → is_update_place (at_frame p (top_of (seen (code_of p) x))).act ≡ true
    → (n : ℕ) × (count : ℕ) × (turn (setting p t true) n (machine_of x memory) ≡ Unwound (seen (code_of p) x) memory count)

-- the thread comes to run again, stands for these frames, and leaves the memory
abbrev pub Rebuilds : Lifted → ℕ → Target → Memory → List Frame → Type 0
Rebuilds p t x memory frames =
    (n : ℕ) × (m : Machine) × (go (setting p t false) n (rebuilds (code_of p) x memory) ≡ Stopped m)
    × IsRunning p (target_of m) × (seen (code_of p) (target_of m) ≡ frames) × (m.memory ≡ memory)

-- a thread whose saved frames are sound rebuilds exactly these frames
abbrev pub ARebuildingLoads : Type 0
ARebuildingLoads =
    (p : Lifted) (t : ℕ) (x : Target) (memory : Memory) → AreSound p x.saved → length x.saved ≤ max_frames → Rebuilds p t x memory x.saved

-- the frames of a live thread of a valid state can be rebuilt
abbrev pub ValidStacksAreSound : Type 0
ValidStacksAreSound = (p : Lifted) (objects : ℕ) (frames : List Frame) → ValidStack p objects frames → AreSound p frames

-- the state that a step leaves: as before at a trap, at the program's end, and where the thread has to wait
abbrev pub left_by : State → Outcome → State
left_by s (Done next) = next
left_by s _ = s

-- thread t is there and runs, and is not parked
pub record Runs (c : TargetCore) (t : ℕ) : Type 0 where
  pub thread : Target
  pub is : slice_get c.threads t ≡ Some (Some thread)
  pub mode : thread.mode ≡ Running

-- a turn of a thread that runs makes its step, and leaves what is true between two events
abbrev pub ATurnIsAStep : Type 0
ATurnIsAStep =
    (p : Lifted) (k : Settings) (c : TargetCore) (t : ℕ) → IsBetween p c → Runs c t → step p t (state_of c) ≢ Blocked
    → (n : ℕ) × (d : TargetCore) × (target_next n k c (e.Step t) ≡ Some d) × (state_of d ≡ left_by (state_of c) (step p t (state_of c))) × IsBetween p d

-- the end of a turn is that of a step: the same trap, the same status, or both have to wait; where the step is done,
-- the thread stands at a mark again or has ended
abbrev pub EndsAs : Ran → Outcome → Type 0
EndsAs (Stopped m) (Done next) = ⊤
EndsAs (Ended memory count) (Done next) = ⊤
EndsAs (Trapped cause count) (source.Trapped cause') = cause ≡ cause'
EndsAs (Finished status count) (source.Finished status') = status ≡ status'
EndsAs machine.Blocked Blocked = ⊤
EndsAs _ _ = ⊥

-- a turn of a thread that runs ends as its step does, so it waits where the step has to
abbrev pub ATurnEndsAsItsStep : Type 0
ATurnEndsAsItsStep =
    (p : Lifted) (c : TargetCore) (t : ℕ) → IsBetween p c → (r : Runs c t)
    → (n : ℕ) × EndsAs (turn (setting_of c t false) n (machine_of r.thread c.memory)) (step p t (state_of c))

-- where the step has to wait, so has the turn
abbrev pub ABlockedTurnWaits : Type 0
ABlockedTurnWaits =
    (p : Lifted) (c : TargetCore) (t : ℕ) → IsBetween p c → (r : Runs c t) → step p t (state_of c) ≡ Blocked
    → (n : ℕ) × (turn (setting_of c t false) n (machine_of r.thread c.memory) ≡ machine.Blocked)

-- the target's run of the events of a run leads to a core that stands for the state that the run leads to, and is that of
-- the program that runs then; the armed patch, where there is one, is sound and leads to a formed program
abbrev pub TargetsFollowRuns : Type 0
TargetsFollowRuns =
    (k : Settings) (es : List Event) (c : Core) → IsFormed k.program → IsWellArmed k → run k es ≡ Some c
    → (d : TargetCore) × IsTargetRun k es d × (state_of d ≡ c.state) × IsBetween c.program d
