-- What the target machine does: one instruction, and a run up to the next mark.
use Rattle.std.specs.Prelude.{ℕ, zero, suc, ◌+◌, ◌-◌, ◌%◌, ℤ, pos, negsuc, Bool, true, false, ◌==◌, nat_lt, if◌then◌else◌, List, [], ◌∷◌, ◌++◌, length, reverse, take, drop, replicate, slice_get, slice_index_or, slice_set, Option, Some, None, Result, Ok, Err, unwrap_or}
use Rattle.std.specs.Int.{w32, cast_unsigned}
use Rattle.c_tree.specs.declared.state.Frame.{Frame}
use Rattle.c_tree.specs.declared.state.State.{State}
use Rattle.c_tree.specs.declared.state.Trap.{Trap}
use Rattle.c_tree.specs.declared.state.Trap.TheVariants as trap
use Rattle.c_tree.specs.Limits.{max_frames}
use Rattle.c_tree.specs.Step.{printed}
use Rattle.c_tree.specs.Typing.{directives}
use Rattle.c_tree.specs.Valid.{outermost}
use Rattle.c_tree.specs.Value.{is_true, unary, binary, element, field_of}
use Rattle.store_mem.specs.Access.{values_of, set_scalar, written, field_written, made, freed, locked, unlocked, got, put, is_live_in, spawned}
use Rattle.store_mem.specs.Memory.{Memory}
use Rattle.target_code.specs.declared.activation.Activation.{Activation}
use Rattle.target_code.specs.declared.activation.Mode.{Mode}
use Rattle.target_code.specs.declared.activation.Mode.TheVariants.{Running, Unwinding, Saved, Rebuilding}
use Rattle.target_code.specs.declared.code.CallSpot.{CallSpot}
use Rattle.target_code.specs.declared.code.CodeFunction.{CodeFunction}
use Rattle.target_code.specs.declared.instr.Instr.{Instr}
use Rattle.target_code.specs.declared.instr.Instr.TheVariants as i
use Rattle.target_code.specs.Code.{TargetCode}
use Rattle.target_code.specs.Target.{Target, top_of, below_of}

-- what stays while a thread runs: the code, the thread's number, and whether the flag is set,
-- which asks threads that stand at an update place to save their frames
pub record Setting : Type 0 where
  pub code : TargetCode
  pub number : ℕ
  pub flag : Bool

-- a thread in the midst of its instructions, and the memory: its innermost activation (function,
-- position, slots), the others below it, innermost first, its operands, top first, and what else
-- it keeps
pub record Machine : Type 0 where
  pub mode : Mode
  pub function : ℕ
  pub pc : ℕ
  pub slots : List ℤ
  pub below : List Activation
  pub operands : List ℤ
  pub returned : ℤ
  pub saved : List Frame
  pub memory : Memory
  pub count : ℕ

-- how a run ends, with the count behind it: before a mark, in a trap, with the thread's end, with
-- the program's end and its status, with all frames saved. Or the thread has to wait; or the run
-- is longer than was allowed; or there is no instruction, operand or saved frame, which the code
-- of a formed program never comes to
pub data Ran : Type 0 where
  Stopped : Machine → Ran
  Trapped : Trap → ℕ → Ran
  Ended : Memory → ℕ → Ran
  Finished : ℕ → ℕ → Ran
  Unwound : List Frame → Memory → ℕ → Ran
  Blocked : Ran
  Unfinished : Ran
  Stuck : Ran

-- what one instruction does: the run goes on with a machine, or is over
pub data Did : Type 0 where
  Goes : Machine → Did
  Over : Ran → Did

-- what stands for the code of a function that isn't there
abbrev pub no_code : CodeFunction
no_code = record { params = 0; slots = 0; body = []; marks = []; calls = [] }

-- the code of the function of a number
abbrev pub function_in : TargetCode → ℕ → CodeFunction
function_in code f = slice_index_or code.functions f no_code

-- one instruction on, with these operands
abbrev pub with_operands : Machine → List ℤ → Machine
with_operands m ops = record m { pc = m.pc + 1; operands = ops; count = m.count + 1 }

-- one instruction on
abbrev pub advance : Machine → Machine
advance m = with_operands m m.operands

-- goes on with the top operand and the others
abbrev pub on_top : List ℤ → (ℤ → List ℤ → Did) → Did
on_top [] go = Over Stuck
on_top (v ∷ rest) go = go v rest

-- goes on with a value, or ends in its trap, with this count
abbrev pub on_result : {A : Type 0} → Result A Trap → ℕ → (A → Did) → Did
on_result (Ok x) count go = go x
on_result (Err cause) count go = Over (Trapped cause count)

-- one instruction on, with these operands and another state of the memory
abbrev pub leaves : State → List ℤ → Machine → Did
leaves st ops m = Goes (record (with_operands m ops) { memory = record m.memory { state = st } })

-- the innermost activation is dropped; without another one the run ends so
abbrev pub dropped : List Activation → Machine → Ran → Did
dropped [] m last = Over last
dropped (a ∷ rest) m last =
    Goes (record m { function = a.function; pc = a.pc; slots = a.slots; below = rest })

-- the innermost activation is saved as a frame at place n, and dropped
abbrev pub saves : ℕ → Machine → Did
saves n m =
    let saved = record { function = m.function; place = n; slots = m.slots } ∷ m.saved in
    let unwinding = record m { mode = Unwinding; saved = saved; count = m.count + 1 } in
    dropped m.below unwinding (Unwound saved m.memory (m.count + 1))

-- an update place n: where the flag is set the thread begins to unwind
abbrev pub flagged : Bool → ℕ → Machine → Did
flagged true n m = saves n m
flagged false n m = Goes (advance m)

-- the returned value goes to a slot, where one takes it
abbrev pub result_to : Option ℕ → Machine → Machine
result_to None m = m
result_to (Some k) m = record m { slots = slice_set m.slots k m.returned }

-- behind the call at place n: while the thread unwinds, the caller is saved too
abbrev pub after : Mode → ℕ → Option ℕ → Machine → Did
after Unwinding n to m = saves n m
after _ n to m = Goes (result_to to (advance m))

-- the position of the rebuilding part of the call at place n
abbrev pub part_at : List CallSpot → ℕ → ℕ
part_at [] n = 0
part_at (c ∷ rest) n = if c.place == n then c.rebuild else part_at rest n

-- the outermost frame that isn't taken yet is loaded: the last one goes to its mark, and the
-- thread runs; each other one goes to the rebuilding part of its call
abbrev pub loaded : CodeFunction → List Frame → Machine → Did
loaded c [] m = Over Stuck
loaded c (f ∷ []) m =
    Goes (record m {
      mode = Running;
      pc = slice_index_or c.marks f.place 0;
      slots = f.slots;
      saved = [];
      count = m.count + 1;
    })
loaded c (f ∷ g ∷ rest) m =
    Goes (record m {
      pc = part_at c.calls f.place;
      slots = f.slots;
      saved = g ∷ rest;
      count = m.count + 1;
    })

-- the start of a function: while the thread rebuilds, a frame is loaded
abbrev pub restore : Mode → CodeFunction → Machine → Did
restore Rebuilding c m = loaded c m.saved m
restore _ c m = Goes (advance m)

-- the function g is called with the operands that its parameters take, unless the limit of frames
-- is passed
abbrev pub pushed : Bool → CodeFunction → ℕ → Machine → Did
pushed true c g m =
    let args = reverse (take c.params m.operands) in
    Goes (record m {
      function = g;
      pc = 0;
      slots = args ++ replicate (c.slots - length args) (pos 0);
      below = record { function = m.function; pc = m.pc + 1; slots = m.slots } ∷ m.below;
      operands = drop c.params m.operands;
      count = m.count + 1;
    })
pushed false c g m = Over (Trapped trap.Frames (m.count + 1))

-- the outermost activation has returned a value: the thread ends, and with thread 0 the program
abbrev pub ended : Setting → ℤ → Machine → Ran
ended w v m =
    if w.number == 0 then Finished (cast_unsigned w32 v % 256) (m.count + 1)
    else Ended m.memory (m.count + 1)

-- a lock, which takes the mutex or waits for another thread
abbrev pub takes : Bool → State → Machine → Did
takes true st m = leaves st m.operands m
takes false st m = Over Blocked

-- a join of another live thread waits, and one of an ended thread passes
abbrev pub joins : Setting → ℤ → List ℤ → Machine → Did
joins w (pos u) rest m =
    if u == w.number
    then Over (Trapped trap.Join (m.count + 1))
    else (if is_live_in m.memory.marks u
    then Over Blocked
    else (if nat_lt u (length m.memory.marks)
    then Goes (with_operands m rest)
    else Over (Trapped trap.Join (m.count + 1))))
joins w (negsuc u) rest m = Over (Trapped trap.Join (m.count + 1))

-- a text is printed with the operands that its `%d` take
abbrev pub prints : List ℕ → Machine → Did
prints text m =
    let n = unwrap_or (directives text) 0 in
    let bytes = printed text (reverse (take n m.operands)) in
    on_result (put m.memory.state bytes) (m.count + 1) (λ st. leaves st (drop n m.operands) m)

-- one instruction of the innermost activation; a run stops before a mark
abbrev pub act : Setting → Option Instr → Machine → Did
act w (Some (i.Mark n)) m = Over (Stopped m)
act w (Some (i.Flag n)) m = flagged w.flag n m
act w (Some (i.After n to)) m = after m.mode n to m
act w (Some i.Restore) m = restore m.mode (function_in w.code m.function) m
act w (Some (i.Const v)) m = Goes (with_operands m (v ∷ m.operands))
act w (Some (i.Get k)) m = Goes (with_operands m (slice_index_or m.slots k (pos 0) ∷ m.operands))
act w (Some (i.Gget g)) m =
    Goes (with_operands m (slice_index_or (values_of m.memory.state g) 0 (pos 0) ∷ m.operands))
act w (Some (i.Set k)) m =
    on_top m.operands
    (λ v rest. Goes (record (with_operands m rest) { slots = slice_set m.slots k v }))
act w (Some (i.Gset g)) m =
    on_top m.operands (λ v rest. leaves (set_scalar m.memory.state g v) rest m)
act w (Some (i.Aget g)) m =
    on_top m.operands (λ at rest.
    on_result (element (values_of m.memory.state g) at) (m.count + 1)
    (λ v. Goes (with_operands m (v ∷ rest))))
act w (Some (i.Aset g)) m =
    on_top m.operands (λ v more.
    on_top more (λ at rest.
    on_result (written m.memory.state g at v) (m.count + 1) (λ st. leaves st rest m)))
act w (Some (i.Fget owner field)) m =
    on_top m.operands (λ o rest.
    on_result (field_of m.memory.state.heap.objects o owner field) (m.count + 1)
    (λ v. Goes (with_operands m (v ∷ rest))))
act w (Some (i.Fset owner field)) m =
    on_top m.operands (λ v more.
    on_top more (λ o rest.
    on_result (field_written m.memory.state o owner field v) (m.count + 1)
    (λ st. leaves st rest m)))
act w (Some (i.Un op)) m = on_top m.operands (λ x rest. Goes (with_operands m (unary op x ∷ rest)))
act w (Some (i.Bin op)) m =
    on_top m.operands (λ y more.
    on_top more (λ x rest.
    on_result (binary op x y) (m.count + 1) (λ v. Goes (with_operands m (v ∷ rest)))))
act w (Some (i.Jump to)) m = Goes (record (advance m) { pc = to })
act w (Some (i.Jz to)) m =
    on_top m.operands
    (λ v rest. Goes (record (with_operands m rest) { pc = if is_true v then m.pc + 1 else to }))
act w (Some (i.Call g)) m =
    pushed (nat_lt (length m.below + 1) max_frames) (function_in w.code g) g m
act w (Some i.Ret) m =
    on_top m.operands
    (λ v rest.
    dropped m.below (record m { returned = v; operands = rest; count = m.count + 1 }) (ended w v m))
act w (Some (i.Print k)) m = prints (slice_index_or w.code.texts k []) m
act w (Some (i.New owner)) m =
    on_result (made m.memory.fields m.memory.state owner) (m.count + 1)
    (λ r. leaves r.1 (r.0 ∷ m.operands) m)
act w (Some i.Getc) m = leaves (got m.memory.state).1 ((got m.memory.state).0 ∷ m.operands) m
act w (Some i.Free) m =
    on_top m.operands (λ o rest. on_result (freed m.memory.state o) (m.count + 1)
    (λ st. leaves st rest m))
act w (Some (i.Lock k)) m =
    on_result (locked m.memory.state k w.number) (m.count + 1) (λ r. takes r.0 r.1 m)
act w (Some (i.Unlock k)) m =
    on_result (unlocked m.memory.state k w.number) (m.count + 1) (λ st. leaves st m.operands m)
act w (Some i.Join) m = on_top m.operands (λ v rest. joins w v rest m)
act w (Some (i.Spawn g)) m =
    on_top m.operands (λ v rest.
    on_result (spawned m.memory.marks g v) (m.count + 1) (λ r.
    Goes (record (with_operands m (pos r.0 ∷ rest)) { memory = record m.memory { marks = r.1 } })))
act w None m = Over Stuck

-- the next instruction of the innermost activation
abbrev pub instr_at : Setting → Machine → Option Instr
instr_at w m = slice_get (function_in w.code m.function).body m.pc

-- a run goes on where an instruction does
abbrev pub led : Did → (Machine → Ran) → Ran
led (Goes m) next = next m
led (Over r) next = r

-- a run up to the next mark, which looks at n instructions at most
abbrev pub go : Setting → ℕ → Machine → Ran
go w zero m = Unfinished
go w (suc n) m = led (act w (instr_at w m) m) (go w n)

-- a turn, from one mark to the next, which looks at n instructions at most behind the first mark;
-- where the flag is set and the thread stands at an update place, an unwinding
abbrev pub turn : Setting → ℕ → Machine → Ran
turn w n m = go w n (advance m)

-- the machine of a thread between two events
abbrev pub machine_of : Target → Memory → Machine
machine_of t memory = record {
  mode = t.mode;
  function = (top_of t.activations).function;
  pc = (top_of t.activations).pc;
  slots = (top_of t.activations).slots;
  below = below_of t.activations;
  operands = [];
  returned = t.returned;
  saved = t.saved;
  memory = memory;
  count = t.count;
}

-- the thread of a machine between two events
abbrev pub target_of : Machine → Target
target_of m = record {
  mode = m.mode;
  activations = record { function = m.function; pc = m.pc; slots = m.slots } ∷ m.below;
  returned = m.returned;
  saved = m.saved;
  count = m.count;
}

-- a thread whose frames are all saved
abbrev pub all_saved : Target → List Frame → ℕ → Target
all_saved t saved count = record t { mode = Saved; activations = []; saved = saved; count = count }

-- a thread that starts a function, behind its `restore`; a parameter takes the argument
abbrev pub begins : TargetCode → ℕ → ℤ → Target
begins code f argument =
    let c = function_in code f in
    let args = take c.params (argument ∷ []) in
    let slots = args ++ replicate (c.slots - length args) (pos 0) in
    record {
      mode = Running;
      activations = record { function = f; pc = 1; slots = slots } ∷ [];
      returned = pos 0;
      saved = [];
      count = 0;
    }

-- the machine that rebuilds a saved thread: one activation of the outermost saved frame's
-- function, with zeros, at its `restore`. This first activation isn't counted
abbrev pub rebuilds : TargetCode → Target → Memory → Machine
rebuilds code t memory =
    let f = outermost t.saved in
    record {
      mode = Rebuilding;
      function = f;
      pc = 0;
      slots = replicate (function_in code f).slots (pos 0);
      below = [];
      operands = [];
      returned = t.returned;
      saved = t.saved;
      memory = memory;
      count = t.count;
    }
