-- The run of the target machine over a list of events.
use Rattle.std.specs.Prelude.{◌≡◌, ℕ, ◌+◌, ◌-◌, pos, Bool, true, false, List, [], ◌∷◌, ◌++◌, length, map, reverse, fold, slice_get, slice_set, Option, Some, None, Result, Ok, Err}
use Rattle.std.specs.Option.{option_and_then, option_map}
use Rattle.c_tree.specs.declared.event.Event.{Event}
use Rattle.c_tree.specs.declared.event.EventKind.{EventKind}
use Rattle.c_tree.specs.declared.event.EventKind.TheVariants as e
use Rattle.c_tree.specs.declared.event.Reason.{Reason}
use Rattle.c_tree.specs.declared.event.ThreadMark.{ThreadMark}
use Rattle.c_tree.specs.declared.event.ThreadMark.TheVariants.{Fresh}
use Rattle.c_tree.specs.declared.event.TraceMark.{TraceMark}
use Rattle.c_tree.specs.declared.lifted.Lifted.{Lifted}
use Rattle.c_tree.specs.declared.run.Armed.{Armed}
use Rattle.c_tree.specs.declared.run.Settings.{Settings}
use Rattle.c_tree.specs.declared.state.Frame.{Frame}
use Rattle.c_tree.specs.declared.state.State.{State}
use Rattle.c_tree.specs.Start.{start}
use Rattle.c_tree.specs.Step.{frames_in}
use Rattle.c_tree.specs.Update.{update}
use Rattle.store_mem.specs.Access.{begun, ended, put_in}
use Rattle.store_mem.specs.Memory.{Memory, field_counts, memory_of}
use Rattle.target_code.specs.Code.{TargetCode, code_of}
use Rattle.target_code.specs.Machine.{Setting, Ran, Stopped, Trapped, Ended, Finished, Unwound, Blocked, Unfinished, Stuck, go, turn, machine_of, target_of, all_saved, begins, rebuilds}
use Rattle.target_code.specs.Seen.{seen}
use Rattle.target_code.specs.Target.{Target}

-- the running program between two events: the code, what the threads share, the threads (none in
-- place of one that has ended), how many instructions all threads ran, those that ended too,
-- whether the code is the new program's, and the frames that were saved and loaded, in this order
pub record TargetCore : Type 0 where
  pub code : TargetCode
  pub memory : Memory
  pub threads : List (Option Target)
  pub count : ℕ
  pub new : Bool
  pub trace : List TraceMark

-- the frames that each thread stands for; none of a thread that has ended
abbrev pub seen_threads : TargetCode → List (Option Target) → List (Option (List Frame))
seen_threads code threads = map (λ o. option_map (λ t. seen code t) o) threads

-- the state that the running program stands for
abbrev pub state_of : TargetCore → State
state_of c = record c.memory.state { threads = seen_threads c.code c.threads }

-- where a program starts: thread 0 in `main`
abbrev pub core_of : Lifted → List ℕ → TargetCore
core_of p input = record {
  code = code_of p;
  memory = memory_of p (start p input);
  threads = Some (begins (code_of p) p.main (pos 0)) ∷ [];
  count = 0;
  new = false;
  trace = [];
}

-- where a run starts
abbrev pub target_first : Settings → TargetCore
target_first k = core_of k.program k.input

-- what a thread runs in
abbrev pub setting_of : TargetCore → ℕ → Bool → Setting
setting_of c t flag = record { code = c.code; number = t; flag = flag }

-- the core with the instructions that a thread ran, whose count was one number and is another
abbrev pub counted : TargetCore → ℕ → ℕ → TargetCore
counted c from to = record c { count = c.count + (to - from) }

-- a core with another thread in place of thread t; none is one that has ended
abbrev pub with_target : TargetCore → ℕ → Option Target → TargetCore
with_target c t o = record c { threads = slice_set c.threads t o }

-- a mark without a thread yet is one of a thread that begins now
abbrev pub joined_by : TargetCore → Option ThreadMark → TargetCore
joined_by c (Some (Fresh f argument)) = record c {
  memory = record c.memory { marks = begun c.memory.marks (length c.threads) };
  threads = c.threads ++ Some (begins c.code f argument) ∷ [];
}
joined_by c _ = c

-- the threads with one more, where the memory has a mark more than there are threads
abbrev pub with_new_thread : TargetCore → TargetCore
with_new_thread c = joined_by c (slice_get c.memory.marks (length c.threads))

-- the core after a turn of thread t. A trap and the program's end leave all but the counts
abbrev pub after_turn : TargetCore → ℕ → Target → Ran → Option TargetCore
after_turn c t x (Stopped m) =
    let d = with_target (counted c x.count m.count) t (Some (target_of m)) in
    Some (with_new_thread (record d { memory = m.memory }))
after_turn c t x (Ended memory n) =
    let d = with_target (counted c x.count n) t None in
    Some (record d { memory = record memory { marks = ended memory.marks t } })
after_turn c t x (Trapped cause n) =
    Some (with_target (counted c x.count n) t (Some (record x { count = n })))
after_turn c t x (Finished status n) =
    Some (with_target (counted c x.count n) t (Some (record x { count = n })))
after_turn c t x (Unwound saved memory n) = None
after_turn c t x Blocked = None
after_turn c t x Unfinished = None
after_turn c t x Stuck = None

-- a frame of thread t in a trace: it is saved, or else loaded
abbrev pub trace_mark : Bool → ℕ → Bool → Frame → TraceMark
trace_mark save t new f =
    record { save = save; thread = t; new = new; function = f.function; place = f.place }

-- the core after thread t has unwound: all its frames are saved, the innermost first
abbrev pub after_unwinding : TargetCore → ℕ → Target → Ran → Option TargetCore
after_unwinding c t x (Unwound saved memory n) =
    let d = with_target (counted c x.count n) t (Some (all_saved x saved n)) in
    Some (record d { trace = c.trace ++ map (trace_mark true t c.new) (reverse saved) })
after_unwinding c t x _ = None

-- the core after thread t has rebuilt its frames: all are loaded, the outermost first
abbrev pub after_rebuilding : TargetCore → ℕ → Target → Ran → Option TargetCore
after_rebuilding c t x (Stopped m) =
    let d = with_target (counted c x.count m.count) t (Some (target_of m)) in
    Some (record d { trace = c.trace ++ map (trace_mark false t c.new) x.saved })
after_rebuilding c t x _ = None

-- the thread of a number, where it was made and hasn't ended
abbrev pub live_in : Option (Option Target) → Option Target
live_in (Some o) = o
live_in None = None

-- goes on with a thread that is live
abbrev pub on_thread : TargetCore → ℕ → (Target → Option TargetCore) → Option TargetCore
on_thread c t go = option_and_then go (live_in (slice_get c.threads t))

-- saved threads with these frames in place of theirs
abbrev pub with_saved : List (Option Target) → List (Option (List Frame)) → List (Option Target)
with_saved [] frames = []
with_saved (x ∷ threads) [] = x ∷ threads
with_saved (None ∷ threads) (o ∷ frames) = None ∷ with_saved threads frames
with_saved (Some x ∷ threads) (o ∷ frames) =
    Some (record x { saved = frames_in (Some o) }) ∷ with_saved threads frames

-- the core after an update to the program p that gives this state, where it gives one: the code of
-- the program, the parts of the state, and its frames as the threads' saved ones
abbrev pub after_update : TargetCore → Lifted → Result State Reason → Option TargetCore
after_update c p (Ok s) = Some (record c {
  code = code_of p;
  memory = put_in c.memory (field_counts p) s.globals s.heap s.mutexes;
  threads = with_saved c.threads s.threads;
  new = true;
})
after_update c p (Err r) = None

-- the core after the update by a patch
abbrev pub updated_by : TargetCore → Armed → Option TargetCore
updated_by c a = after_update c a.patch.new (update a.patch (state_of c))

-- the core after an event, in which a thread looks at n instructions at most; none where it needs
-- more. A Step is a turn, a Park an unwinding, a Resume a rebuilding. Whether the event is legal
-- isn't asked here
unfoldable pub target_next : ℕ → Settings → TargetCore → EventKind → Option TargetCore
target_next n k c (e.Step t) =
    on_thread c t (λ x. after_turn c t x (turn (setting_of c t false) n (machine_of x c.memory)))
target_next n k c e.Request = Some c
target_next n k c (e.Park t) =
    on_thread c t
    (λ x. after_unwinding c t x (turn (setting_of c t true) n (machine_of x c.memory)))
target_next n k c e.Update = option_and_then (λ a. updated_by c a) k.armed
target_next n k c (e.Refuse r) = Some c
target_next n k c (e.Resume t) =
    on_thread c t
    (λ x. after_rebuilding c t x (go (setting_of c t false) n (rebuilds c.code x c.memory)))

-- the core after one more event
abbrev pub target_after : ℕ → Settings → Option TargetCore → Event → Option TargetCore
target_after n k c e = option_and_then (λ d. target_next n k d e.kind) c

-- the core after the events of a run from its start, in each of which a thread looks at n
-- instructions at most
abbrev pub target_run : ℕ → Settings → List Event → Option TargetCore
target_run n k es = fold (target_after n k) (Some (target_first k)) es

-- a core is where the target's run of these events leads
pub record IsTargetRun (k : Settings) (es : List Event) (c : TargetCore) : Type 0 where
  pub fuel : ℕ
  pub leads : target_run fuel k es ≡ Some c
