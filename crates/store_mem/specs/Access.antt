-- What a step reads and changes of what the threads share, an access at a time.
use Rattle.std.specs.Prelude.{ℕ, zero, ◌+◌, ◌-◌, ℤ, pos, negsuc, Bool, true, false, ◌&&◌, ◌==◌, nat_lt, nat_le, if◌then◌else◌, List, [], ◌∷◌, ◌++◌, length, count_by, take, replicate, slice_get, slice_index_or, slice_set, Option, Some, None, Result, Ok, Err}
use Rattle.c_tree.specs.declared.event.ThreadMark.{ThreadMark}
use Rattle.c_tree.specs.declared.event.ThreadMark.TheVariants.{Live, Ended, Fresh}
use Rattle.c_tree.specs.declared.state.Heap.{Heap}
use Rattle.c_tree.specs.declared.state.Object.{Object}
use Rattle.c_tree.specs.declared.state.State.{State}
use Rattle.c_tree.specs.declared.state.Trap.{Trap}
use Rattle.c_tree.specs.declared.state.Trap.TheVariants as trap
use Rattle.c_tree.specs.Value.{and_then, element, object, object_of}
use Rattle.c_tree.specs.Step.{index, set_global, set_field, set_object, with_object}
use Rattle.c_tree.specs.Limits.{max_live, max_threads, max_objects, max_output}
use Rattle.store_mem.specs.Memory.{Memory}

-- the values of a global: one of a scalar, and all of an array
abbrev pub values_of : State → ℕ → List ℤ
values_of s global = slice_index_or s.globals global []

-- a value is written where it can be read
abbrev pub written : State → ℕ → ℤ → ℤ → Result State Trap
written s global at v = and_then (element (values_of s global) at) (λ _. Ok (set_global s global (index at) v))

-- the first value of a global is set, where it is there
abbrev pub set_scalar : State → ℕ → ℤ → State
set_scalar s global v = set_global s global 0 v

-- a field is written where it can be read
abbrev pub field_written : State → ℤ → ℕ → ℕ → ℤ → Result State Trap
field_written s o owner field v =
    and_then (object_of s.heap.objects o owner) (λ _. Ok (set_field s (index o - 1) field v))

-- an object of a struct whose numbers of fields are given, with zeros
abbrev pub blank : List ℕ → ℕ → Object
blank fields owner = record { owner = owner; fields = replicate (slice_index_or fields owner 0) (pos 0) }

-- a new object, and its number
abbrev pub made : List ℕ → State → ℕ → Result (ℤ × State) Trap
made fields s owner =
    let count = length s.heap.objects in
    if nat_lt count max_objects then Ok (pos (count + 1), with_object s (blank fields owner)) else Err trap.Objects

-- an object is freed; null passes
abbrev pub freed : State → ℤ → Result State Trap
freed s (pos zero) = Ok s
freed s o = and_then (object s.heap.objects o) (λ _. Ok (set_object s (index o - 1) None))

-- the struct of an object, where there is one
abbrev pub owner_in : Result Object Trap → Option ℕ
owner_in (Ok o) = Some o.owner
owner_in (Err cause) = None

-- the struct of an object that is there
abbrev pub struct_of : State → ℤ → Option ℕ
struct_of s o = owner_in (object s.heap.objects o)

-- the thread that holds a mutex
abbrev pub holder_of : State → ℕ → Option ℕ
holder_of s mutex = slice_index_or s.mutexes mutex None

-- a state in which a thread, or none, holds a mutex
abbrev pub with_holder : State → ℕ → Option ℕ → State
with_holder s mutex holder = record s { mutexes = slice_set s.mutexes mutex holder }

-- a lock by thread t, where this holder has the mutex or none: whether t takes it, and the state
abbrev pub locked_from : State → ℕ → ℕ → Option ℕ → Result (Bool × State) Trap
locked_from s mutex t None = Ok (true, with_holder s mutex (Some t))
locked_from s mutex t (Some holder) = if holder == t then Err trap.Relock else Ok (false, s)

-- a lock by a thread: it takes the mutex, or waits for another thread
abbrev pub locked : State → ℕ → ℕ → Result (Bool × State) Trap
locked s mutex t = locked_from s mutex t (holder_of s mutex)

-- an unlock by thread t, where this holder has the mutex or none
abbrev pub unlocked_from : State → ℕ → ℕ → Option ℕ → Result State Trap
unlocked_from s mutex t None = Err trap.Unlock
unlocked_from s mutex t (Some holder) = if holder == t then Ok (with_holder s mutex None) else Err trap.Unlock

-- an unlock by a thread
abbrev pub unlocked : State → ℕ → ℕ → Result State Trap
unlocked s mutex t = unlocked_from s mutex t (holder_of s mutex)

-- the first byte of what is left of the input, or -1 at its end, and the state
abbrev pub got_from : State → List ℕ → ℤ × State
got_from s [] = (negsuc 0, s)
got_from s (c ∷ rest) = (pos c, record s { input = rest })

-- the next byte of the input, or -1 at its end
abbrev pub got : State → ℤ × State
got s = got_from s s.input

-- a text is put out whole, or not at all
abbrev pub put : State → List ℕ → Result State Trap
put s text =
    let out = s.output ++ text in
    if nat_le (length out) max_output then Ok (record s { output = out }) else Err trap.Output

-- whether a mark is one of a live thread, also of one that is still to begin
abbrev pub is_live_mark : ThreadMark → Bool
is_live_mark Live = true
is_live_mark Ended = false
is_live_mark (Fresh function argument) = true

-- whether there is a mark, one of a live thread
abbrev pub has_live_mark : Option ThreadMark → Bool
has_live_mark (Some mark) = is_live_mark mark
has_live_mark None = false

-- whether the thread of a number is there and live
abbrev pub is_live_in : List ThreadMark → ℕ → Bool
is_live_in marks t = has_live_mark (slice_get marks t)

-- how many threads are live
abbrev pub live_marks : List ThreadMark → ℕ
live_marks marks = count_by is_live_mark marks

-- a new thread that is to begin in a function with an argument: its number, and the marks
abbrev pub spawned : List ThreadMark → ℕ → ℤ → Result (ℕ × List ThreadMark) Trap
spawned marks function argument =
    let number = length marks in
    if nat_lt (live_marks marks) max_live && nat_lt number max_threads
    then Ok (number, marks ++ Fresh function argument ∷ [])
    else Err trap.Threads

-- a thread begins
abbrev pub begun : List ThreadMark → ℕ → List ThreadMark
begun marks t = slice_set marks t Live

-- a thread ends; its number stays taken
abbrev pub ended : List ThreadMark → ℕ → List ThreadMark
ended marks t = slice_set marks t Ended

-- the marks without their last one, where that is of a thread still to begin
abbrev pub forgotten_from : Option ThreadMark → List ThreadMark → List ThreadMark
forgotten_from (Some (Fresh function argument)) marks = take (length marks - 1) marks
forgotten_from _ marks = marks

-- the last thread is dropped, where it is still to begin
abbrev pub forgotten : List ThreadMark → List ThreadMark
forgotten marks = forgotten_from (slice_get marks (length marks - 1)) marks

-- the memory after an update: other numbers of fields, globals, heap and mutexes
abbrev pub put_in : Memory → List ℕ → List (List ℤ) → Heap → List (Option ℕ) → Memory
put_in m fields globals heap mutexes =
    record m { fields = fields; state = record m.state { globals = globals; heap = heap; mutexes = mutexes } }
