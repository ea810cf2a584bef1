-- What is true of the running program between two events.
use Rattle.std.specs.Prelude.{◌≡◌, ◌⊎◌, ◌<◌, ℕ, zero, suc, ◌+◌, ℤ, ⊤, List, [], ◌∷◌, length, slice_get, Option, Some, MatchOption, All}
use Rattle.c_tree.specs.declared.lifted.LExpr.{LExpr}
use Rattle.c_tree.specs.declared.lifted.LStmt.TheVariants as s
use Rattle.c_tree.specs.declared.lifted.Lifted.{Lifted}
use Rattle.c_tree.specs.declared.place.Act.TheVariants.{Do}
use Rattle.c_tree.specs.declared.place.Follow.TheVariants.{One}
use Rattle.c_tree.specs.declared.place.Place.{Place}
use Rattle.c_tree.specs.declared.state.Frame.{Frame}
use Rattle.c_tree.specs.Formed.{IsFormed}
use Rattle.c_tree.specs.Layout.{place, place_at}
use Rattle.c_tree.specs.Step.{function_of}
use Rattle.store_mem.specs.Memory.{Marked, field_counts}
use Rattle.target_code.specs.declared.activation.Activation.{Activation}
use Rattle.target_code.specs.declared.activation.Mode.TheVariants.{Running, Saved}
use Rattle.target_code.specs.declared.instr.Instr.{Instr}
use Rattle.target_code.specs.declared.instr.Instr.TheVariants as i
use Rattle.target_code.specs.Code.{TargetCode, IsCode, code_of, marks}
use Rattle.target_code.specs.Machine.{function_in}
use Rattle.target_code.specs.Target.{Target}
use Rattle.target_code.specs.TargetRun.{TargetCore, seen_threads}

-- the instructions of a function of a program
abbrev pub body_at : Lifted → ℕ → List Instr
body_at p f = (function_in (code_of p) f).body

-- the positions of the marks of a function of a program
abbrev pub marks_at : Lifted → ℕ → List ℕ
marks_at p f = marks (function_of p f)

-- the place at which a frame is
abbrev pub place_of : Lifted → Frame → Place
place_of p f = place_at (function_of p f.function) f.place

-- k jumps lead from a position to the mark of place n
abbrev pub Path : List Instr → List ℕ → ℕ → ℕ → ℕ → Type 0
Path body ms zero at n = slice_get ms n ≡ Some at
Path body ms (suc k) at n = (to : ℕ) × (slice_get body at ≡ Some (i.Jump to)) × Path body ms k to n

-- jumps alone, or none, lead from a position to the mark of place n
abbrev pub Reaches : List Instr → List ℕ → ℕ → ℕ → Type 0
Reaches body ms at n = (k : ℕ) × Path body ms k at n

-- a frame is of a function of the program, and has a value for each of its slots
pub record FitsFunction (p : Lifted) (f : Frame) : Type 0 where
  pub within : f.function < length p.functions
  pub slots : length f.slots ≡ length (function_of p f.function).slots

-- an activation at a position stands for a frame: it is at the mark of the frame's place
pub record Stands (p : Lifted) (f : Frame) (pc : ℕ) : Type 0 where
  pub fits : FitsFunction p f
  pub mark : slice_get (marks_at p f.function) f.place ≡ Some pc

-- a frame that waits for its callee, and the position of its activation
pub record Wait : Type 0 where
  pub frame : Frame
  pub pc : ℕ

-- an activation waits for a frame: the frame's place is a call, and the activation is at the
-- `after` of that call, or, since a rebuilding, at a jump there; behind it jumps lead to the place
-- that follows the call
pub record Waits (p : Lifted) (x : Wait) : Type 0 where
  pub fits : FitsFunction p x.frame
  pub to : Option ℕ
  pub callee : ℕ
  pub args : List LExpr
  pub next : ℕ
  pub call : place_of p x.frame ≡ place (Do (s.Call to callee args)) (One next)
  pub after : ℕ
  pub has : slice_get (body_at p x.frame.function) after ≡ Some (i.After x.frame.place to)
  pub leads : Reaches (body_at p x.frame.function) (marks_at p x.frame.function) (after + 1) next
  pub at : (x.pc ≡ after) ⊎ (slice_get (body_at p x.frame.function) x.pc ≡ Some (i.Jump after))

-- each of these frames waits
abbrev pub AllWait : Lifted → List Wait → Type 0
AllWait p [] = ⊤
AllWait p (x ∷ rest) = Waits p x × AllWait p rest

-- the activation of a waiting frame
abbrev pub activation : Wait → Activation
activation x = record { function = x.frame.function; pc = x.pc; slots = x.frame.slots }

-- the activations of waiting frames
abbrev pub acts : List Wait → List Activation
acts [] = []
acts (x ∷ rest) = activation x ∷ acts rest

-- the waiting frames
abbrev pub frames : List Wait → List Frame
frames [] = []
frames (x ∷ rest) = x.frame ∷ frames rest

-- a running thread whose innermost frame is at a position, while the others, innermost first, wait
abbrev pub running : Frame → ℕ → List Wait → ℤ → ℕ → Target
running f pc ws returned count = record {
  mode = Running;
  activations = activation (record { frame = f; pc = pc }) ∷ acts ws;
  returned = returned;
  saved = [];
  count = count;
}

-- a thread runs: it stands at a mark, and its other activations wait
pub record IsRunning (p : Lifted) (x : Target) : Type 0 where
  pub frame : Frame
  pub pc : ℕ
  pub waits : List Wait
  pub is : x ≡ running frame pc waits x.returned x.count
  pub stands : Stands p frame pc
  pub wait : AllWait p waits

-- all frames of a thread are saved
pub record IsSaved (x : Target) : Type 0 where
  pub mode : x.mode ≡ Saved
  pub activations : x.activations ≡ []

-- a thread runs, or all its frames are saved
abbrev pub IsAtRest : Lifted → Target → Type 0
IsAtRest p x = IsRunning p x ⊎ IsSaved x

-- between two turns the code is that of a formed program, and the thread runs
pub record IsBetweenTurns (code : TargetCode) (x : Target) : Type 0 where
  pub coded : IsCode code
  pub runs : IsRunning coded.program x

-- between two events the code and the numbers of fields are those of the formed program p, the
-- memory has no threads but a mark for each, and each thread that hasn't ended runs or is saved
pub record IsBetween (p : Lifted) (c : TargetCore) : Type 0 where
  pub formed : IsFormed p
  pub code : c.code ≡ code_of p
  pub fields : c.memory.fields ≡ field_counts p
  pub shared : c.memory.state.threads ≡ []
  pub marked : Marked c.memory.marks (seen_threads c.code c.threads)
  pub threads : All (λ o. MatchOption o ⊤ (λ x. IsAtRest p x)) c.threads
