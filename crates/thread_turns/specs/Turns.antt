-- A thread between two marks, and a row of its turns.
use Rattle.std.specs.Prelude.{◌≡◌, ◌⊎◌, ◌<◌, ◌≤◌, ℕ, zero, suc, ◌+◌, ℤ, ⊤, List, [], length, slice_get, Some}
use Rattle.c_tree.specs.Step.{function_of}
use Rattle.store_mem.specs.Memory.{Memory}
use Rattle.target_code.specs.declared.activation.Activation.{Activation}
use Rattle.target_code.specs.declared.activation.Mode.TheVariants.{Running}
use Rattle.target_code.specs.declared.instr.Instr.{Instr}
use Rattle.target_code.specs.declared.instr.Instr.TheVariants as i
use Rattle.target_code.specs.Code.{TargetCode}
use Rattle.target_code.specs.Machine.{Setting, Machine, Ran, Goes, Over, Stopped, Trapped, Ended, Finished, Blocked, act, advance, function_in, go, turn, machine_of, target_of}
use Rattle.target_code.specs.Target.{Target, top_of}
use Rattle.target_laws.specs.Effects.{Arrives}
use Rattle.target_laws.specs.Rows.{IsThreadOf, calm}
use Rattle.thread_turns.specs.declared.cursor.Cursor.{Cursor}
use Rattle.thread_turns.specs.declared.cursor.Did.{Did}
use Rattle.thread_turns.specs.declared.cursor.Did.TheVariants as did
use Rattle.thread_turns.specs.declared.cursor.Kept.{Kept}
use Rattle.thread_turns.specs.declared.cursor.Stop.{Stop}
use Rattle.thread_turns.specs.declared.cursor.Stop.TheVariants as stop
use Rattle.thread_turns.specs.Now.{CallFits, now}

-- a running thread of these activations between two turns
abbrev pub thread_of : Kept → List Activation → Target
thread_of kept frames = record {
  mode = Running;
  activations = frames;
  returned = kept.returned;
  saved = [];
  count = kept.count;
}

-- a turn of a thread ends at a mark, where the thread and the memory are these
pub record MakesTurn (w : Setting) (x : Target) (memory : Memory) (y : Target) (next : Memory) : Type 0 where
  pub fuel : ℕ
  pub machine : Machine
  pub stops : turn w fuel (machine_of x memory) ≡ Stopped machine
  pub thread : y ≡ target_of machine
  pub memory_is : next ≡ machine.memory

-- so many turns, one after the other, lead a thread and the memory to these
abbrev pub TurnsTo : Setting → ℕ → Target → Memory → Target → Memory → Type 0
TurnsTo w zero x memory y next = (y ≡ x) × (next ≡ memory)
TurnsTo w (suc n) x memory y next =
    (z : Target) × (between : Memory) × TurnsTo w n x memory z between × MakesTurn w z between y next

-- behind so many instructions a run from one machine is the run from another one
pub record Leads (w : Setting) (from to : Machine) : Type 0 where
  pub steps : ℕ
  pub same : (k : ℕ) → go w (steps + k) from ≡ go w k to

-- a run from a machine ends so
abbrev pub RunsTo : Setting → Machine → Ran → Type 0
RunsTo w from r = (n : ℕ) × (go w n from ≡ r)

-- these are the instructions of the innermost activation's function
abbrev pub IsBody : TargetCode → List Activation → List Instr → Type 0
IsBody code frames body = body ≡ (function_in code (top_of frames).function).body

-- the function that an instruction calls is there
abbrev pub CallsFit : TargetCode → Instr → Type 0
CallsFit code (i.Call g) = CallFits code g
CallsFit code _ = ⊤

-- an instruction that isn't plain, nor a mark
abbrev pub IsChange : Instr → Type 0
IsChange (i.Set k) = ⊤
IsChange (i.After n to) = ⊤
IsChange (i.Gset g) = ⊤
IsChange (i.Aset g) = ⊤
IsChange (i.Fset owner field) = ⊤
IsChange (i.Call g) = ⊤
IsChange i.Ret = ⊤
IsChange (i.New owner) = ⊤
IsChange i.Getc = ⊤
IsChange i.Free = ⊤
IsChange (i.Print k) = ⊤
IsChange (i.Lock k) = ⊤
IsChange (i.Unlock k) = ⊤
IsChange i.Join = ⊤
IsChange _ = ⊥

-- how many instructions a thread ran where a row ends so: at the mark, or behind a trap or an end
abbrev pub count_at : Stop → ℕ → ℕ → ℕ
count_at (stop.Trapped cause) ran marked = ran + 1
count_at stop.Ended ran marked = ran + 1
count_at (stop.Finished status) ran marked = ran + 1
count_at _ ran marked = marked

-- where an instruction ends a turn
abbrev pub IsEnd : Setting → Instr → Stop → Machine → Type 0
IsEnd w x (stop.Trapped cause) m = act w (Some x) m ≡ Over (Trapped cause (m.count + 1))
IsEnd w x stop.Blocked m = act w (Some x) m ≡ Over Blocked
IsEnd w x stop.Ended m = act w (Some x) m ≡ Over (Ended m.memory (m.count + 1))
IsEnd w x (stop.Finished status) m = act w (Some x) m ≡ Over (Finished status (m.count + 1))
IsEnd w x _ m = ⊤

-- an instruction behind an effect
abbrev pub IsBehind : Instr → Type 0
IsBehind i.Restore = ⊤
IsBehind (i.After n to) = ⊤
IsBehind (i.Set k) = ⊤
IsBehind (i.Gset g) = ⊤
IsBehind (i.Jump to) = ⊤
IsBehind _ = ⊥

-- two machines differ in position, operands and count at most
abbrev pub IsSameButWhere : Machine → Machine → Type 0
IsSameButWhere a b = b ≡ record a { pc = b.pc; operands = b.operands; count = b.count }

-- what became of an instruction: the thread goes on, or all but position and operands stays
abbrev pub IsDone : Setting → Instr → Did → Machine → Machine → Type 0
IsDone w x did.Goes before after = act w (Some x) before ≡ Goes after × (after.function ≡ before.function)
IsDone w x did.Moves before after = act w (Some x) before ≡ Goes after
IsDone w x (did.Ends s) before after =
    IsEnd w x s before × (IsBehind x → ⊥) × IsSameButWhere before after
    × (after.count ≡ before.count)

-- where the turn ends, all but position and operands stays
abbrev pub EndsSame : Did → Machine → Machine → Type 0
EndsSame (did.Ends s) before after =
    IsSameButWhere before after × (after.count ≡ before.count)
EndsSame _ before after = ⊤

-- fewer instructions than a thread runs up to a mark, and up to the end of a step from there
abbrev pub few : ℕ
few = 4611686018427387904

-- the same up to the end of a step
abbrev pub many : ℕ
many = 9223372036854775808

-- the mark of the place of a function is where an activation is
abbrev pub IsPlacedAt : TargetCode → Activation → ℕ → Type 0
IsPlacedAt code a place = slice_get (function_in code a.function).marks place ≡ Some a.pc

-- a thread makes its operands, or the effect of its step is done and nothing can fail up to a mark;
-- each with the number that its count stays below
abbrev pub IsInPhase : TargetCode → Target → Memory → Machine → ℕ → Type 0
IsInPhase code x memory m room =
    ((room ≡ few) × IsSameButWhere (machine_of x memory) m)
    ⊎ ((room ≡ many) × ((k : ℕ) × Arrives (function_in code m.function).body k m.pc
    × (m.count + k < many)))

-- a thread on its way from a mark, behind so many turns: at which place the mark is and how many
-- instructions were run there, and where the thread is now
pub record OnWay (code : TargetCode) (t : ℕ) (x0 : Target) (memory0 : Memory) (steps place marked room : ℕ) (m : Machine) : Type 0 where
  pub x : Target
  pub memory : Memory
  pub turns : TurnsTo (calm code t) steps x0 memory0 x memory
  pub thread : IsThreadOf code t x memory
  pub counted : x.count ≡ marked
  pub placed : IsPlacedAt code (top_of x.activations) place
  pub leads : Leads (calm code t) (advance (machine_of x memory)) m
  pub within : m.function < length thread.program.functions
  pub fits : length m.slots ≡ length (function_of thread.program m.function).slots
  pub marks : m.memory.marks ≡ memory.marks
  pub phase : IsInPhase code x memory m room

-- how a row of turns ends: behind the last turn the thread and the memory are as at the mark; a
-- trap, an end and a wait are what the next turn comes to
abbrev pub EndsAt : Setting → Stop → Target → Memory → Target → Memory → Type 0
EndsAt w stop.Blocked x memory y next =
    (y ≡ x) × (next ≡ memory) × RunsTo w (advance (machine_of x memory)) Blocked
EndsAt w (stop.Trapped cause) x memory y next =
    (y ≡ record x { count = y.count }) × (next ≡ memory)
    × RunsTo w (advance (machine_of x memory)) (Trapped cause y.count)
EndsAt w stop.Ended x memory y next =
    (y ≡ record x { count = y.count }) × (next ≡ memory)
    × RunsTo w (advance (machine_of x memory)) (Ended memory y.count)
EndsAt w (stop.Finished status) x memory y next =
    (y ≡ record x { count = y.count }) × (next ≡ memory)
    × RunsTo w (advance (machine_of x memory)) (Finished status y.count)
EndsAt w _ x memory y next = (y ≡ x) × (next ≡ memory)

-- a row of turns
pub record IsRow (code : TargetCode) (t : ℕ) (end : Stop) (x0 : Target) (memory0 : Memory) (steps : ℕ) (y : Target) (next : Memory) : Type 0 where
  pub x : Target
  pub memory : Memory
  pub turns : TurnsTo (calm code t) steps x0 memory0 x memory
  pub thread : IsThreadOf code t x memory
  pub ends : EndsAt (calm code t) end x memory y next

-- what is true of a row in the midst of a turn
pub record IsWay (code : TargetCode) (t : ℕ) (x0 : Target) (memory0 : Memory) (body : List Instr) (place marked room most : ℕ) (kept : Kept) (at : Cursor) (words : List ℤ) (frames : List Activation) (memory : Memory) : Type 0 where
  pub way : OnWay code t x0 memory0 kept.steps place marked room (now at words frames memory)
  pub body_is : IsBody code frames body
  pub live : 0 < length frames
  pub short : length body < 576460752303423488
  pub depth : at.depth ≤ length words
  pub steps : kept.steps < most
  pub counts : at.count ≤ many
