-- A thread in the midst of a turn, as a machine.
use Rattle.std.specs.Prelude.{◌≡◌, ℕ, false, Result, Ok, Err, ◌+◌, ◌-◌, ◌<◌, ◌≤◌, ℤ, ⊤, List, [], take, reverse, length, Some}
use Rattle.c_tree.specs.declared.state.Trap.{Trap}
use Rattle.store_mem.specs.Memory.{Memory}
use Rattle.target_code.specs.declared.activation.Activation.{Activation}
use Rattle.target_code.specs.declared.activation.Mode.TheVariants.{Running}
use Rattle.target_code.specs.declared.instr.Instr.{Instr}
use Rattle.target_code.specs.declared.instr.Instr.TheVariants as i
use Rattle.target_code.specs.Code.{TargetCode}
use Rattle.target_code.specs.Machine.{Setting, Machine, Goes, Over, Trapped, Blocked, act, function_in, with_operands}
use Rattle.target_code.specs.Target.{top_of, below_of}
use Rattle.thread_turns.specs.declared.cursor.Cursor.{Cursor}
use Rattle.thread_turns.specs.declared.cursor.Did.{Did}
use Rattle.thread_turns.specs.declared.cursor.Did.TheVariants as did
use Rattle.thread_turns.specs.declared.cursor.Stop.TheVariants as stop

-- the operands that are kept as the first so many words, top first
abbrev pub operands : ℕ → List ℤ → List ℤ
operands depth words = reverse (take depth words)

-- the machine of a running thread, of its frames, and of the memory
abbrev pub now : Cursor → List ℤ → List Activation → Memory → Machine
now at words frames memory = record {
  mode = Running;
  function = (top_of frames).function;
  pc = at.pc;
  slots = (top_of frames).slots;
  below = below_of frames;
  operands = operands at.depth words;
  returned = at.returned;
  saved = [];
  memory = memory;
  count = at.count;
}

-- there is room in numbers for one instruction more, and the operands are among the words
pub record IsAt (at : Cursor) (words : List ℤ) : Type 0 where
  pub pc : at.pc < 18446744073709551615
  pub count : at.count < 18446744073709551615
  pub depth : at.depth ≤ length words

-- how many operands an instruction always pops
abbrev pub popped : Instr → ℕ
popped (i.Set k) = 1
popped (i.Gset g) = 1
popped (i.Aget g) = 1
popped (i.Aset g) = 2
popped (i.Fget owner field) = 1
popped (i.Fset owner field) = 2
popped (i.Un op) = 1
popped (i.Bin op) = 2
popped (i.Jz to) = 1
popped i.Ret = 1
popped i.Free = 1
popped i.Join = 1
popped (i.Spawn g) = 1
popped _ = 0

-- the thread goes on, or is at its end for this cause
abbrev pub Performs : Setting → Instr → Did → Machine → Machine → Type 0
Performs w x did.Goes before after = act w (Some x) before ≡ Goes after
Performs w x did.Moves before after = act w (Some x) before ≡ Goes after
Performs w x (did.Ends (stop.Trapped cause)) before after =
    act w (Some x) before ≡ Over (Trapped cause (before.count + 1))
Performs w x (did.Ends stop.Blocked) before after = act w (Some x) before ≡ Over Blocked
Performs w x (did.Ends stop.Full) before after = ⊤
Performs w x (did.Ends stop.Memory) before after = ⊤
Performs w x (did.Ends _) before after = ⊥

-- one instruction on, with these operands; the returned value stays
pub record Leaves (ops : List ℤ) (before after : Cursor) (words : List ℤ) : Type 0 where
  pub pc : after.pc ≡ before.pc + 1
  pub count : after.count ≡ before.count + 1
  pub returned : after.returned ≡ before.returned
  pub operands_are : operands after.depth words ≡ ops
  pub depth : after.depth ≤ length words

-- the instruction is performed, whatever else the thread keeps
abbrev pub PerformsAlone : Instr → Did → Cursor → List ℤ → Cursor → List ℤ → Type 0
PerformsAlone x d a ws b vs =
    (w : Setting) (frames : List Activation) (memory : Memory)
    → Performs w x d (now a ws frames memory) (now b vs frames memory)

-- an instruction of the code names a slot of the innermost activation, where it names one
abbrev pub NamesSlot : Instr → List Activation → Type 0
NamesSlot (i.Get k) frames = k < length (top_of frames).slots
NamesSlot (i.Set k) frames = k < length (top_of frames).slots
NamesSlot (i.After n (Some k)) frames = k < length (top_of frames).slots
NamesSlot _ frames = ⊤

-- an instruction that ends a turn isn't counted, and the returned value stays
abbrev pub Keeps : Did → Cursor → Cursor → Type 0
Keeps (did.Ends s) before after =
    (after.count ≡ before.count) × (after.returned ≡ before.returned)
Keeps _ before after = ⊤

-- an instruction goes on with these operands
abbrev pub GoesWith : Instr → List ℤ → Setting → Machine → Type 0
GoesWith x ops w m = act w (Some x) m ≡ Goes (with_operands m ops)

-- an instruction that changes nothing but operands and the position, where the flag isn't set
abbrev pub IsPlain : Instr → Type 0
IsPlain (i.Const v) = ⊤
IsPlain (i.Get k) = ⊤
IsPlain (i.Gget g) = ⊤
IsPlain (i.Aget g) = ⊤
IsPlain (i.Fget owner field) = ⊤
IsPlain (i.Un op) = ⊤
IsPlain (i.Bin op) = ⊤
IsPlain (i.Jump to) = ⊤
IsPlain (i.Jz to) = ⊤
IsPlain i.Restore = ⊤
IsPlain (i.Flag n) = ⊤
IsPlain _ = ⊥

-- the instruction is performed with the frames and the memory as they are
abbrev pub IsEvaluated : Instr → Did → List Activation → Memory → Cursor → List ℤ → Cursor → List ℤ → Type 0
IsEvaluated x d frames memory a ws b vs =
    (w : Setting) → w.flag ≡ false → Performs w x d (now a ws frames memory) (now b vs frames memory)

-- where a turn ends in an instruction, the thread keeps these, and the memory stays
abbrev pub Stays : Did → Cursor → List Activation → Memory → Cursor → List Activation → Memory → Type 0
Stays (did.Ends s) a frames memory b frames' memory' =
    (b.returned ≡ a.returned) × (b.count ≡ a.count) × (frames' ≡ frames) × (memory' ≡ memory)
Stays _ a frames memory b frames' memory' = ⊤

-- an instruction is performed, and the operands stay among the words; where it ends the turn all
-- else stays
pub record Changes (x : Instr) (d : Did) (words : List ℤ) (a : Cursor) (frames : List Activation) (memory : Memory) (b : Cursor) (frames' : List Activation) (memory' : Memory) : Type 0 where
  pub performs : (w : Setting) → Performs w x d (now a words frames memory) (now b words frames' memory')
  pub stays : Stays d a frames memory b frames' memory'
  pub depth : b.depth ≤ length words

-- so many operands are dropped, or the turn ends in a trap
abbrev pub IsDropped : Result (Unit {0}) Trap → Did → ℕ → List ℤ → Cursor → Cursor → Type 0
IsDropped (Ok _) did.Goes n words a b = Leaves (operands (a.depth - n) words) a b words
IsDropped (Err cause) (did.Ends (stop.Trapped c)) n words a b = (c ≡ cause) × (b ≡ a)
IsDropped _ _ n words a b = ⊥

-- an instruction is performed, which may change operands, frames and the memory; where it ends the
-- turn all else stays
pub record Alters (w : Setting) (x : Instr) (d : Did) (a : Cursor) (ws : List ℤ) (frames : List Activation) (memory : Memory) (b : Cursor) (vs : List ℤ) (frames' : List Activation) (memory' : Memory) : Type 0 where
  pub performs : Performs w x d (now a ws frames memory) (now b vs frames' memory')
  pub stays : Stays d a frames memory b frames' memory'
  pub depth : b.depth ≤ length vs

-- a function is there, and its parameters are its first slots, of which there are few
pub record CallFits (code : TargetCode) (f : ℕ) : Type 0 where
  pub within : f < length code.functions
  pub parameters : (function_in code f).params ≤ (function_in code f).slots
  pub slots : (function_in code f).slots ≤ 128

-- an instruction by which threads wait for one another
abbrev pub IsWait : Instr → Type 0
IsWait (i.Lock k) = ⊤
IsWait (i.Unlock k) = ⊤
IsWait i.Join = ⊤
IsWait _ = ⊥
