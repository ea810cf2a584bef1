-- That these accesses are those of a step, that threads play no part in them, and that the marks tell of the threads
-- what a step asks of them.
use Rattle.std.specs.Prelude.{◌≡◌, ℕ, ◌<◌, ℤ, pos, IsTrue, if◌then◌else◌, List, [], ◌∷◌, length, slice_set, Option, None, Result, Ok}
use Rattle.c_tree.specs.declared.event.ThreadMark.{ThreadMark}
use Rattle.c_tree.specs.declared.lifted.LExpr.{LExpr}
use Rattle.c_tree.specs.declared.lifted.LExpr.TheVariants as e
use Rattle.c_tree.specs.declared.lifted.LStmt.TheVariants as s
use Rattle.c_tree.specs.declared.place.Location.{Location}
use Rattle.c_tree.specs.declared.place.Location.TheVariants.{InGlobal, InArray, InObject}
use Rattle.c_tree.specs.declared.state.Frame.{Frame}
use Rattle.c_tree.specs.declared.state.State.{State}
use Rattle.c_tree.specs.declared.state.Trap.{Trap}
use Rattle.c_tree.specs.Value.{and_then, element, value}
use Rattle.c_tree.specs.Step as step
use Rattle.c_tree.specs.Step.{Acting, Blocked, on, done, goes, printed, view_of, set_slot, stored, top, value_in, values_in, store, fresh, with_thread, is_live, live_count}
use Rattle.store_mem.specs.Access.{values_of, written, set_scalar, field_written, made, freed, locked, unlocked, got, put, is_live_in, live_marks, spawned, begun, ended, forgotten}
use Rattle.store_mem.specs.Memory.{field_counts, Marked}

-- a scalar's value is the first of its values
abbrev pub ReadsFirst : Type 0
ReadsFirst =
    (st : State) (f : Frame) (g : ℕ) → 0 < length (values_of st g) → element (values_of st g) (pos 0) ≡ value (view_of st f) (e.Global g)

-- a store in a state and its innermost frame is a write in the state
abbrev pub StoresBy : Location → (State → ℤ → Result State Trap) → State → Type 0
StoresBy to write st = (f : Frame) (v : ℤ) → stored st f to v ≡ and_then (write st v) (λ next. Ok (next, f))

-- a store in a scalar is a write in its one value
abbrev pub StoresFirst : Type 0
StoresFirst = (st : State) (g : ℕ) → 0 < length (values_of st g) → StoresBy (InGlobal g) (λ s v. written s g (pos 0) v) st

-- a store in a scalar sets its value
abbrev pub SetsScalar : Type 0
SetsScalar = (st : State) (g : ℕ) → StoresBy (InGlobal g) (λ s v. Ok (set_scalar s g v)) st

-- a store in an array is a write in an element
abbrev pub StoresElement : Type 0
StoresElement = (st : State) (g : ℕ) (at : ℤ) → StoresBy (InArray g at) (λ s v. written s g at v) st

-- a store in an object is a write in a field
abbrev pub StoresField : Type 0
StoresField = (st : State) (o : ℤ) (owner field : ℕ) → StoresBy (InObject o owner field) (λ s v. field_written s o owner field v) st

-- `malloc` makes an object and stores its number
abbrev pub MakesObject : Type 0
MakesObject =
    (w : Acting) (n slot owner : ℕ) → done w n (s.New slot owner) ≡ on (made (field_counts w.program) w.state owner) (λ r. goes w n r.1 (set_slot slot r.0 (top w)))

-- `getchar` takes a byte and stores it
abbrev pub GetsByte : Type 0
GetsByte = (w : Acting) (n slot : ℕ) → done w n (s.Getc slot) ≡ goes w n (got w.state).1 (set_slot slot (got w.state).0 (top w))

-- `printf` puts out what it prints
abbrev pub PutsText : Type 0
PutsText =
    (w : Acting) (n : ℕ) (text : List ℕ) (args : List LExpr) → done w n (s.Print text args) ≡ on (values_in w args) (λ vs. on (put w.state (printed text vs)) (λ next. goes w n next (top w)))

-- `free` frees an object and stores nothing
abbrev pub FreesObject : Type 0
FreesObject =
    (w : Acting) (n : ℕ) (x : LExpr) → done w n (s.Free x) ≡ on (value_in w x) (λ o. on (freed w.state o) (λ next. goes w n next (top w)))

-- a lock goes on where the mutex is taken, and else waits
abbrev pub LocksMutex : Type 0
LocksMutex =
    (w : Acting) (n m : ℕ) → done w n (s.Lock m) ≡ on (locked w.state m w.thread) (λ r. if r.0 then goes w n r.1 (top w) else Blocked)

-- an unlock gives the mutex back and goes on
abbrev pub UnlocksMutex : Type 0
UnlocksMutex = (w : Acting) (n m : ℕ) → done w n (s.Unlock m) ≡ on (unlocked w.state m w.thread) (λ next. goes w n next (top w))

-- a state with these threads
abbrev pub with_threads : List (Option (List Frame)) → State → State
with_threads threads st = record st { threads = threads }

-- A change does the same whatever the threads, and leaves them.
abbrev pub IgnoresThreads : (State → Result State Trap) → Type 0
IgnoresThreads change =
    (threads : List (Option (List Frame))) (st : State) → change (with_threads threads st) ≡ and_then (change st) (λ next. Ok (with_threads threads next))

-- A change that gives a value does the same whatever the threads, and leaves them.
abbrev pub GivesIgnoringThreads : {A : Type 0} → (State → Result (A × State) Trap) → Type 0
GivesIgnoringThreads change =
    (threads : List (Option (List Frame))) (st : State) → change (with_threads threads st) ≡ and_then (change st) (λ r. Ok (r.0, with_threads threads r.1))

-- there are as many marks as threads
abbrev pub CountsThreads : Type 0
CountsThreads = (marks : List ThreadMark) (st : State) → Marked marks st.threads → length marks ≡ length st.threads

-- as many marks as threads are live
abbrev pub CountsLive : Type 0
CountsLive = (marks : List ThreadMark) (st : State) → Marked marks st.threads → live_marks marks ≡ live_count st

-- the marks tell which threads are live
abbrev pub TellsLive : Type 0
TellsLive = (marks : List ThreadMark) (st : State) (t : ℕ) → Marked marks st.threads → is_live_in marks t ≡ is_live st t

-- `pthread_create` makes a thread where the marks have room for it, and stores its number
abbrev pub SpawnsThread : Type 0
SpawnsThread =
    (marks : List ThreadMark) (w : Acting) (n : ℕ) (to : Location) (f : ℕ) (v : ℤ) → Marked marks w.state.threads
    → step.spawned w n to f v ≡ on (spawned marks f v) (λ r. store w n (with_thread w.state (fresh w.program f (v ∷ []) ∷ [])) to (pos r.0))

-- behind a spawn the marks are those of the threads, the new one among them
abbrev pub SpawnKeepsMarks : Type 0
SpawnKeepsMarks =
    (marks : List ThreadMark) (st : State) (f : ℕ) (v : ℤ) (frames : List Frame) (r : ℕ × List ThreadMark)
    → Marked marks st.threads → 0 < length frames → spawned marks f v ≡ Ok r → Marked r.1 (with_thread st frames).threads

-- a live thread begins
abbrev pub BeginKeepsMarks : Type 0
BeginKeepsMarks =
    (marks : List ThreadMark) (st : State) (t : ℕ) → Marked marks st.threads → IsTrue (is_live_in marks t) → Marked (begun marks t) st.threads

-- a thread ends
abbrev pub EndKeepsMarks : Type 0
EndKeepsMarks =
    (marks : List ThreadMark) (st : State) (t : ℕ) → Marked marks st.threads → Marked (ended marks t) (slice_set st.threads t None)

-- a spawn that is forgotten leaves the marks as they were
abbrev pub ForgetUndoesSpawn : Type 0
ForgetUndoesSpawn = (marks : List ThreadMark) (f : ℕ) (v : ℤ) (r : ℕ × List ThreadMark) → spawned marks f v ≡ Ok r → forgotten r.1 ≡ marks
