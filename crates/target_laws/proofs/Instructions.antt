-- What one instruction of a statement does is what the step does.
use Rattle.std.proofs.Common.{◌≡◌, inr, ℕ, zero, suc, ◌+◌, ◌<◌, ◌≤◌, ◌==◌, ◌&&◌, ℤ, pos, negsuc, Bool, true, false, List, [], ◌∷◌, ◌++◌, length, reverse, take, drop, Some, Result, Ok, Err, refl, sym, ap, ◌∙◌, subst, le_of_eq}
use Rattle.std.specs.Prelude.{slice_get, slice_index_or, if◌then◌else◌, nat_lt, nat_le, unwrap_or}
use Rattle.std.proofs.lemmas.List.{take_all, length-reverse, reverse-reverse}
use Rattle.std.proofs.Math.ListN.{drop_of_length-le}
use mathlib.Core.List.{reverse_aux}
use Rattle.c_tree.specs.declared.event.ThreadMark.{ThreadMark}
use Rattle.c_tree.specs.declared.event.ThreadMark.TheVariants.{Fresh}
use Rattle.c_tree.specs.declared.lifted.Dest.{Dest}
use Rattle.c_tree.specs.declared.lifted.Dest.TheVariants as d
use Rattle.c_tree.specs.declared.lifted.Lifted.{Lifted}
use Rattle.c_tree.specs.declared.place.Location.{Location}
use Rattle.c_tree.specs.declared.place.Location.TheVariants.{InSlot, InGlobal, InArray, InObject}
use Rattle.c_tree.specs.declared.state.Frame.{Frame}
use Rattle.c_tree.specs.declared.state.State.{State}
use Rattle.c_tree.specs.declared.state.Trap.{Trap}
use Rattle.c_tree.specs.declared.state.Trap.TheVariants as trap
use Rattle.c_tree.specs.Limits.{max_live, max_threads, max_output}
use Rattle.c_tree.specs.Step.{Outcome, Acting, on, function_of, moved, set_slot, set_global, fresh, top_of, with_top, with_thread, is_live, live_count, goes, store, stored, printed, wrote, joined, spawned}
use Rattle.c_tree.specs.Step as step
use Rattle.c_tree.specs.Typing.{directives}
use Rattle.c_tree.specs.Value.{and_then, is_true}
use Rattle.store_mem.proofs.AccessLemmas.{on_if, stores-element, stores-field, written-threads, field_written-threads, put-threads}
use Rattle.store_mem.specs.Access.{written, field_written, is_live_in, live_marks}
use Rattle.store_mem.specs.Access.{put as put_text}
use Rattle.store_mem.specs.Laws.{with_threads, IgnoresThreads, GivesIgnoringThreads}
use Rattle.store_mem.specs.Memory.{Memory, field_counts}
use Rattle.target_code.specs.declared.instr.Instr.{Instr}
use Rattle.target_code.specs.declared.instr.Instr.TheVariants as i
use Rattle.target_code.specs.Between.{body_at, FitsFunction, Wait, AllWait, frames}
use Rattle.target_code.specs.Machine.{Setting, Machine, Ran, Trapped, Blocked, Did, Goes, Over, on_result, with_operands, act}
use Rattle.target_code.specs.Machine as machine
use Rattle.target_code.specs.Operands.{store_instr}
use Rattle.target_laws.specs.Laws.{setting}
use Rattle.target_laws.proofs.Calls.{thread}
use Rattle.target_laws.proofs.Exprs.{put}
use Rattle.target_laws.proofs.Frames.{with_top_reverse}
use Rattle.target_laws.proofs.Halts.{run_of}
use Rattle.target_laws.proofs.Turned.{Threads, Spawned, Holds, holds_first, holds_state, fits_set, Leading, state_with, Ends, ends_step, ends_at, arrives}

pub on_and : {A B : Type 0} (r : Result A Trap) (h : A → B) (f : B → Outcome) → on r (λ a. f (h a)) ≡ on (and_then r (λ a. Ok (h a))) f
on_and (Ok a) h f = refl
on_and (Err cause) h f = refl

-- a change before the threads are put back
pub ignored_on : (change : State → Result State Trap) → IgnoresThreads change → (ts : Threads) (st : State) (f : State → Outcome) → on (change (with_threads ts st)) f ≡ on (change st) (λ n. f (with_threads ts n))
ignored_on change h ts st f = ap (λ r. on r f) (h ts st) ∙ sym (on_and (change st) (λ n. with_threads ts n) f)

pub gives_on : {A : Type 0} (change : State → Result (A × State) Trap) → GivesIgnoringThreads change → (ts : Threads) (st : State) (f : A × State → Outcome) → on (change (with_threads ts st)) f ≡ on (change st) (λ r. f (r.0, with_threads ts r.1))
gives_on change h ts st f = ap (λ r. on r f) (h ts st) ∙ sym (on_and (change st) (λ r. (r.0, with_threads ts r.1)) f)

threads_in : Result State Trap → Threads
threads_in (Ok s) = s.threads
threads_in (Err c) = []

threads_beside : {A : Type 0} → Result (A × State) Trap → Threads
threads_beside (Ok s) = s.1.threads
threads_beside (Err c) = []

-- such a change leaves the threads
pub kept : (change : State → Result State Trap) → IgnoresThreads change → (st next : State) → change st ≡ Ok next → next.threads ≡ st.threads
unfolding threads_in
kept change h st next e =
    let all : change st ≡ and_then (change st) (λ n. Ok (with_threads st.threads n)) = h st.threads st in
    ap threads_in (sym e ∙ (all ∙ ap (λ r. and_then r (λ n. Ok (with_threads st.threads n))) e))

pub given_kept : {A : Type 0} (change : State → Result (A × State) Trap) → GivesIgnoringThreads change → (st : State) (next : A × State) → change st ≡ Ok next → next.1.threads ≡ st.threads
unfolding threads_beside
given_kept {A = A} change h st next e =
    let put_back : A × State → Result (A × State) Trap = λ n. Ok (n.0, with_threads st.threads n.1) in
    let all : change st ≡ and_then (change st) put_back = h st.threads st in
    ap threads_beside (sym e ∙ (all ∙ ap (λ r. and_then r put_back) e))

-- a destination by the value of its operand, if it has one
abbrev pub location_of : Dest → ℤ → Location
location_of (d.Slot k) o = InSlot k
location_of (d.Global k) o = InGlobal k
location_of (d.Elem k x) o = InArray k o
location_of (d.Field x owner field) o = InObject o owner field

abbrev pub held : Dest → ℤ → List ℤ
held (d.Slot k) o = []
held (d.Global k) o = []
held (d.Elem k x) o = o ∷ []
held (d.Field x owner field) o = o ∷ []

-- the memory's marks and its numbers of fields are those of the program and the threads
pub record Tells (p : Lifted) (mem0 : Memory) (ts0 : Threads) : Type 0 where
  pub fields : mem0.fields ≡ field_counts p
  pub long : length mem0.marks ≡ length ts0
  pub live : (u : ℕ) → is_live_in mem0.marks u ≡ is_live (with_threads ts0 mem0.state) u
  pub live_count : live_marks mem0.marks ≡ live_count (with_threads ts0 mem0.state)

-- a thread that turns: its frames, whose innermost one stands, and the positions of the others
pub record Turning (p : Lifted) (fs : List Frame) (ws : List Wait) : Type 0 where
  pub fits : FitsFunction p (top_of fs)
  pub waits : AllWait p ws
  pub frames_are : fs ≡ reverse (top_of fs ∷ frames ws)

module _ (p : Lifted) (t : ℕ) (mem0 : Memory) (ts0 : Threads) (fs : List Frame) (at0 : ℕ) (ws : List Wait) (ret : ℤ) (turning : Turning p fs ws) where
  abbrev w : Setting
  w = setting p t false

  abbrev f : Frame
  f = top_of fs

  abbrev z : Acting
  z = thread p t mem0 ts0 fs

  abbrev EndsAs : Machine → Outcome → Type 0
  EndsAs m o = Ends p t mem0 ts0 m o

  -- the thread goes on with a frame
  pub goes_on : (g : Frame) (at n : ℕ) (memory : Memory) (ts : Threads) → FitsFunction p g → Holds p mem0 ts0 memory ts → Leading p g.function at n → (c : ℕ) → EndsAs (run_of g at ws ret memory c) (goes z n (with_threads ts memory.state) g)
  goes_on g at n memory ts fits holds leads c =
      let same : with_top fs (moved n g) ≡ reverse (moved n g ∷ frames ws) = ap (λ l. with_top l (moved n g)) turning.frames_are ∙ with_top_reverse f (moved n g) (frames ws) in
      subst (λ l. EndsAs (run_of g at ws ret memory c) (step.Done (state_with p t mem0 ts0 memory ts l))) (sym same) (arrives p t mem0 ts0 g at n ws ret memory ts fits turning.waits holds leads c)

  -- `jz` behind the test
  pub branches : (at l a b : ℕ) → slice_get (body_at p f.function) at ≡ Some (i.Jz l) → Leading p f.function (at + 1) a → Leading p f.function l b → (v : ℤ) (c : ℕ) → EndsAs (put (run_of f at0 ws ret mem0 c) at (v ∷ []) c) (goes z (if is_true v then a else b) (with_threads ts0 mem0.state) f)
  branches at l a b h ga gb (pos zero) c =
      ends_step p t mem0 ts0 (put (run_of f at0 ws ret mem0 c) at (pos 0 ∷ []) c) (run_of f l ws ret mem0 (c + 1)) (i.Jz l) (goes z b (with_threads ts0 mem0.state) f) h refl (goes_on f l b mem0 ts0 turning.fits (holds_first p mem0 ts0) gb (c + 1))
  branches at l a b h ga gb (pos (suc k)) c =
      ends_step p t mem0 ts0 (put (run_of f at0 ws ret mem0 c) at (pos (suc k) ∷ []) c) (run_of f (at + 1) ws ret mem0 (c + 1)) (i.Jz l) (goes z a (with_threads ts0 mem0.state) f) h refl (goes_on f (at + 1) a mem0 ts0 turning.fits (holds_first p mem0 ts0) ga (c + 1))
  branches at l a b h ga gb (negsuc k) c =
      ends_step p t mem0 ts0 (put (run_of f at0 ws ret mem0 c) at (negsuc k ∷ []) c) (run_of f (at + 1) ws ret mem0 (c + 1)) (i.Jz l) (goes z a (with_threads ts0 mem0.state) f) h refl (goes_on f (at + 1) a mem0 ts0 turning.fits (holds_first p mem0 ts0) ga (c + 1))

  -- an instruction that changes the state, or traps
  result_ends : (r : Result State Trap) (m : Machine) (memory : Memory) (ts : Threads) (i : Instr) (at n c : ℕ) → Holds p mem0 ts0 memory ts → ((a : State) → r ≡ Ok a → a.threads ≡ memory.state.threads) → slice_get (body_at p m.function) m.pc ≡ Some i → act w (Some i) m ≡ on_result r (c + 1) (λ a. Goes (run_of f (at + 1) ws ret (record memory { state = a }) (c + 1))) → Leading p f.function (at + 1) n → EndsAs m (on r (λ a. goes z n (with_threads ts a) f))
  result_ends (Ok a) m memory ts i at n c holds keeps h e g =
      ends_step p t mem0 ts0 m (run_of f (at + 1) ws ret (record memory { state = a }) (c + 1)) i (goes z n (with_threads ts a) f) h e (goes_on f (at + 1) n (record memory { state = a }) ts turning.fits (holds_state p mem0 ts0 memory ts a (keeps a refl) holds) g (c + 1))
  result_ends (Err cause) m memory ts i at n c holds keeps h e g = ends_at p t mem0 ts0 m i (Trapped cause (c + 1)) (step.Trapped cause) h e refl

  pub change_ends : (change : State → Result State Trap) → IgnoresThreads change → (m : Machine) (memory : Memory) (ts : Threads) (i : Instr) (at n c : ℕ) → Holds p mem0 ts0 memory ts → slice_get (body_at p m.function) m.pc ≡ Some i → act w (Some i) m ≡ on_result (change memory.state) (c + 1) (λ a. Goes (run_of f (at + 1) ws ret (record memory { state = a }) (c + 1))) → Leading p f.function (at + 1) n → EndsAs m (on (change (with_threads ts memory.state)) (λ a. goes z n a f))
  change_ends change law m memory ts i at n c holds h e g =
      subst (λ o. EndsAs m o) (sym (ignored_on change law ts memory.state (λ a. goes z n a f))) (result_ends (change memory.state) m memory ts i at n c holds (kept change law memory.state) h e g)

  -- a value is stored in a slot
  pub sets : (memory : Memory) (ts : Threads) (at k n : ℕ) → Holds p mem0 ts0 memory ts → slice_get (body_at p f.function) at ≡ Some (i.Set k) → Leading p f.function (at + 1) n → (v : ℤ) (c : ℕ) → EndsAs (put (run_of f at0 ws ret memory c) at (v ∷ []) c) (goes z n (with_threads ts memory.state) (set_slot k v f))
  sets memory ts at k n holds h g v c =
      ends_step p t mem0 ts0 (put (run_of f at0 ws ret memory c) at (v ∷ []) c) (run_of (set_slot k v f) (at + 1) ws ret memory (c + 1)) (i.Set k) (goes z n (with_threads ts memory.state) (set_slot k v f)) h refl (goes_on (set_slot k v f) (at + 1) n memory ts (fits_set p f k v turning.fits) holds g (c + 1))

  -- the store of a destination
  pub dest_stores : (to : Dest) (o : ℤ) (memory : Memory) (ts : Threads) (at n : ℕ) → Holds p mem0 ts0 memory ts → slice_get (body_at p f.function) at ≡ Some (store_instr to) → Leading p f.function (at + 1) n → (v : ℤ) (c : ℕ) → EndsAs (put (run_of f at0 ws ret memory c) at (v ∷ held to o) c) (store z n (with_threads ts memory.state) (location_of to o) v)
  dest_stores (d.Slot k) o memory ts at n holds h g v c = sets memory ts at k n holds h g v c
  dest_stores (d.Global k) o memory ts at n holds h g v c =
      let st = set_global memory.state k 0 v in
      ends_step p t mem0 ts0 (put (run_of f at0 ws ret memory c) at (v ∷ []) c) (run_of f (at + 1) ws ret (record memory { state = st }) (c + 1)) (i.Gset k) (goes z n (with_threads ts st) f) h refl (goes_on f (at + 1) n (record memory { state = st }) ts turning.fits (holds_state p mem0 ts0 memory ts st refl holds) g (c + 1))
  dest_stores (d.Elem k x) o memory ts at n holds h g v c =
      let m = put (run_of f at0 ws ret memory c) at (v ∷ o ∷ []) c in
      let s = with_threads ts memory.state in
      let go : State × Frame → Outcome = λ q. goes z n q.0 q.1 in
      let same : store z n s (InArray k o) v ≡ on (written s k o v) (λ a. goes z n a f) = ap (λ r. on r go) (stores-element s k o f v) ∙ sym (on_and (written s k o v) (λ a. (a, f)) go) in
      subst (λ x. EndsAs m x) (sym same) (change_ends (λ s. written s k o v) (written-threads k o v) m memory ts (i.Aset k) at n c holds h refl g)
  dest_stores (d.Field x owner field) o memory ts at n holds h g v c =
      let m = put (run_of f at0 ws ret memory c) at (v ∷ o ∷ []) c in
      let s = with_threads ts memory.state in
      let go : State × Frame → Outcome = λ q. goes z n q.0 q.1 in
      let same : store z n s (InObject o owner field) v ≡ on (field_written s o owner field v) (λ a. goes z n a f) = ap (λ r. on r go) (stores-field s o owner field f v) ∙ sym (on_and (field_written s o owner field v) (λ a. (a, f)) go) in
      subst (λ x. EndsAs m x) (sym same) (change_ends (λ s. field_written s o owner field v) (field_written-threads o owner field v) m memory ts (i.Fset owner field) at n c holds h refl g)

  -- an instruction that pushes a value, which a slot takes
  pub pushed_ends : (r : Result (ℤ × State) Trap) (m : Machine) (x : Instr) (at slot n c : ℕ) → ((q : ℤ × State) → r ≡ Ok q → q.1.threads ≡ mem0.state.threads) → slice_get (body_at p m.function) m.pc ≡ Some x → act w (Some x) m ≡ on_result r (c + 1) (λ q. Goes (put (run_of f at0 ws ret (record mem0 { state = q.1 }) (c + 1)) (at + 1) (q.0 ∷ []) (c + 1))) → slice_get (body_at p f.function) (at + 1) ≡ Some (i.Set slot) → Leading p f.function (at + 1 + 1) n → EndsAs m (on r (λ q. goes z n (with_threads ts0 q.1) (set_slot slot q.0 f)))
  pushed_ends (Ok q) m x at slot n c keeps h e h1 g =
      let memory = record mem0 { state = q.1 } in
      ends_step p t mem0 ts0 m (put (run_of f at0 ws ret memory (c + 1)) (at + 1) (q.0 ∷ []) (c + 1)) x (goes z n (with_threads ts0 q.1) (set_slot slot q.0 f)) h e (sets memory ts0 (at + 1) slot n (holds_state p mem0 ts0 mem0 ts0 q.1 (keeps q refl) (holds_first p mem0 ts0)) h1 g q.0 (c + 1))
  pushed_ends (Err cause) m x at slot n c keeps h e h1 g = ends_at p t mem0 ts0 m x (Trapped cause (c + 1)) (step.Trapped cause) h e refl

  taken_by : (b : Bool) (st : State) (m : Machine) (i : Instr) (at n c : ℕ) → st.threads ≡ mem0.state.threads → slice_get (body_at p m.function) m.pc ≡ Some i → act w (Some i) m ≡ (if b then Goes (run_of f (at + 1) ws ret (record mem0 { state = st }) (c + 1)) else Over Blocked) → Leading p f.function (at + 1) n → EndsAs m (if b then goes z n (with_threads ts0 st) f else step.Blocked)
  taken_by true st m i at n c keeps h e g =
      let memory = record mem0 { state = st } in
      ends_step p t mem0 ts0 m (run_of f (at + 1) ws ret memory (c + 1)) i (goes z n (with_threads ts0 st) f) h e (goes_on f (at + 1) n memory ts0 turning.fits (holds_state p mem0 ts0 mem0 ts0 st keeps (holds_first p mem0 ts0)) g (c + 1))
  taken_by false st m i at n c keeps h e g = ends_at p t mem0 ts0 m i Blocked step.Blocked h e tt

  takes_is : (b : Bool) (st : State) (at c : ℕ) → machine.takes b st (run_of f at ws ret mem0 c) ≡ (if b then Goes (run_of f (at + 1) ws ret (record mem0 { state = st }) (c + 1)) else Over Blocked)
  takes_is true st at c = refl
  takes_is false st at c = refl

  -- an instruction that takes a mutex, waits, or traps
  pub lock_ends : (r : Result (Bool × State) Trap) (i : Instr) (at n c : ℕ) → ((q : Bool × State) → r ≡ Ok q → q.1.threads ≡ mem0.state.threads) → slice_get (body_at p f.function) at ≡ Some i → act w (Some i) (run_of f at ws ret mem0 c) ≡ on_result r (c + 1) (λ q. machine.takes q.0 q.1 (run_of f at ws ret mem0 c)) → Leading p f.function (at + 1) n → EndsAs (run_of f at ws ret mem0 c) (on r (λ q. if q.0 then goes z n (with_threads ts0 q.1) f else step.Blocked))
  lock_ends (Ok q) i at n c keeps h e g = taken_by q.0 q.1 (run_of f at ws ret mem0 c) i at n c (keeps q refl) h (e ∙ takes_is q.0 q.1 at c) g
  lock_ends (Err cause) i at n c keeps h e g = ends_at p t mem0 ts0 (run_of f at ws ret mem0 c) i (Trapped cause (c + 1)) (step.Trapped cause) h e refl

  join_by : (own alive made : Bool) (m : Machine) (at n c : ℕ) → slice_get (body_at p m.function) m.pc ≡ Some i.Join → act w (Some i.Join) m ≡ (if own then Over (Trapped trap.Join (c + 1)) else (if alive then Over Blocked else (if made then Goes (run_of f (at + 1) ws ret mem0 (c + 1)) else Over (Trapped trap.Join (c + 1))))) → Leading p f.function (at + 1) n → EndsAs m (if own then step.Trapped trap.Join else (if alive then step.Blocked else (if made then goes z n (with_threads ts0 mem0.state) f else step.Trapped trap.Join)))
  join_by true alive made m at n c h e g = ends_at p t mem0 ts0 m i.Join (Trapped trap.Join (c + 1)) (step.Trapped trap.Join) h e refl
  join_by false true made m at n c h e g = ends_at p t mem0 ts0 m i.Join Blocked step.Blocked h e tt
  join_by false false true m at n c h e g =
      ends_step p t mem0 ts0 m (run_of f (at + 1) ws ret mem0 (c + 1)) i.Join (goes z n (with_threads ts0 mem0.state) f) h e (goes_on f (at + 1) n mem0 ts0 turning.fits (holds_first p mem0 ts0) g (c + 1))
  join_by false false false m at n c h e g = ends_at p t mem0 ts0 m i.Join (Trapped trap.Join (c + 1)) (step.Trapped trap.Join) h e refl

  pub join_ends : Tells p mem0 ts0 → (at n : ℕ) → slice_get (body_at p f.function) at ≡ Some i.Join → Leading p f.function (at + 1) n → (v : ℤ) (c : ℕ) → EndsAs (put (run_of f at0 ws ret mem0 c) at (v ∷ []) c) (joined z n v)
  join_ends tells at n h g (negsuc u) c =
      ends_at p t mem0 ts0 (put (run_of f at0 ws ret mem0 c) at (negsuc u ∷ []) c) i.Join (Trapped trap.Join (c + 1)) (step.Trapped trap.Join) h refl refl
  join_ends tells at n h g (pos u) c =
      let m = put (run_of f at0 ws ret mem0 c) at (pos u ∷ []) c in
      let next = goes z n (with_threads ts0 mem0.state) f in
      let o : Bool → ℕ → Outcome = λ alive long. (if u == t then step.Trapped trap.Join else (if alive then step.Blocked else (if nat_lt u long then next else step.Trapped trap.Join))) in
      let first : EndsAs m (o (is_live_in mem0.marks u) (length mem0.marks)) = join_by (u == t) (is_live_in mem0.marks u) (nat_lt u (length mem0.marks)) m at n c h refl g in
      subst (λ long. EndsAs m (o (is_live z.state u) long)) tells.long (subst (λ alive. EndsAs m (o alive (length mem0.marks))) (tells.live u) first)

  -- what is done behind a spawn, or the trap
  spawn_by : (b : Bool) (to : Dest) (o : ℤ) (at k n number : ℕ) (v : ℤ) (c : ℕ) → slice_get (body_at p f.function) at ≡ Some (i.Spawn k) → slice_get (body_at p f.function) (at + 1) ≡ Some (store_instr to) → Leading p f.function (at + 1 + 1) n → k < length p.functions → (function_of p k).params ≡ 1 → 1 ≤ length (function_of p k).slots
      → act w (Some (i.Spawn k)) (put (run_of f at0 ws ret mem0 c) at (v ∷ held to o) c) ≡ on_result {A = ℕ × List ThreadMark} (if b then Ok (number, mem0.marks ++ Fresh k v ∷ []) else Err trap.Threads) (c + 1) (λ r. Goes (put (run_of f at0 ws ret (record mem0 { marks = r.1 }) (c + 1)) (at + 1) (pos r.0 ∷ held to o) (c + 1)))
      → EndsAs (put (run_of f at0 ws ret mem0 c) at (v ∷ held to o) c) (if b then store z n (with_thread z.state (fresh p k (v ∷ []) ∷ [])) (location_of to o) (pos number) else step.Trapped trap.Threads)
  spawn_by true to o at k n number v c h h1 g within params slots e =
      let m = put (run_of f at0 ws ret mem0 c) at (v ∷ held to o) c in
      let memory = record mem0 { marks = mem0.marks ++ Fresh k v ∷ [] } in
      let ts = ts0 ++ Some (fresh p k (v ∷ []) ∷ []) ∷ [] in
      let there = put (run_of f at0 ws ret memory (c + 1)) (at + 1) (pos number ∷ held to o) (c + 1) in
      let spawned_one : Spawned p mem0.marks ts0 memory.marks ts = record { function = k; argument = v; within = within; params = params; slots = slots; marks_are = refl; threads_are = refl } in
      let holds : Holds p mem0 ts0 memory ts = record { fields = refl; shared = refl; grown = inr spawned_one } in
      ends_step p t mem0 ts0 m there (i.Spawn k) (store z n (with_threads ts mem0.state) (location_of to o) (pos number)) h e (dest_stores to o memory ts (at + 1) n holds h1 g (pos number) (c + 1))
  spawn_by false to o at k n number v c h h1 g within params slots e =
      ends_at p t mem0 ts0 (put (run_of f at0 ws ret mem0 c) at (v ∷ held to o) c) (i.Spawn k) (Trapped trap.Threads (c + 1)) (step.Trapped trap.Threads) h e refl

  pub spawn_ends : Tells p mem0 ts0 → (to : Dest) (o : ℤ) (at k n : ℕ) → slice_get (body_at p f.function) at ≡ Some (i.Spawn k) → slice_get (body_at p f.function) (at + 1) ≡ Some (store_instr to) → Leading p f.function (at + 1 + 1) n → k < length p.functions → (function_of p k).params ≡ 1 → 1 ≤ length (function_of p k).slots → (v : ℤ) (c : ℕ) → EndsAs (put (run_of f at0 ws ret mem0 c) at (v ∷ held to o) c) (spawned z n (location_of to o) k v)
  spawn_ends tells to o at k n h h1 g within params slots v c =
      let m = put (run_of f at0 ws ret mem0 c) at (v ∷ held to o) c in
      let out : ℕ → ℕ → Outcome = λ alive number. (if nat_lt alive max_live && nat_lt number max_threads then store z n (with_thread z.state (fresh p k (v ∷ []) ∷ [])) (location_of to o) (pos number) else step.Trapped trap.Threads) in
      let first : EndsAs m (out (live_marks mem0.marks) (length mem0.marks)) = spawn_by (nat_lt (live_marks mem0.marks) max_live && nat_lt (length mem0.marks) max_threads) to o at k n (length mem0.marks) v c h h1 g within params slots refl in
      subst (λ number. EndsAs m (out (live_count z.state) number)) tells.long (subst (λ alive. EndsAs m (out alive (length mem0.marks))) tells.live_count first)

  pub print_ends : (at k n : ℕ) (text : List ℕ) → slice_get (body_at p f.function) at ≡ Some (i.Print k) → slice_index_or w.code.texts k [] ≡ text → Leading p f.function (at + 1) n → (vs : List ℤ) (c : ℕ) → length vs ≡ unwrap_or (directives text) 0 → EndsAs (put (run_of f at0 ws ret mem0 c) at (reverse_aux vs []) c) (wrote z n (printed text vs))
  print_ends at k n text h e g vs c long =
      let m = put (run_of f at0 ws ret mem0 c) at (reverse_aux vs []) c in
      let count : List ℕ → ℕ = λ x. unwrap_or (directives x) 0 in
      let did_of : List ℕ → List ℤ → List ℤ → Did = λ x vs rest. on_result (put_text mem0.state (printed x vs)) (c + 1) (λ st. machine.leaves st rest m) in
      let le = le_of_eq (length-reverse vs ∙ long) in
      let taken : reverse (take (count text) (reverse_aux vs [])) ≡ vs = ap (λ (l : List ℤ). reverse l) (take_all (count text) (reverse vs) le) ∙ reverse-reverse vs in
      let none : drop (count text) (reverse_aux vs []) ≡ [] = drop_of_length-le (reverse vs) le in
      let did : act w (Some (i.Print k)) m ≡ did_of text vs [] =
      ap (λ (x : List ℕ). did_of x (reverse (take (count x) (reverse_aux vs []))) (drop (count x) (reverse_aux vs []))) e
      ∙ (ap (λ (x : List ℤ). did_of text x (drop (count text) (reverse_aux vs []))) taken
      ∙ ap (λ (x : List ℤ). did_of text vs x) none) in
      let out = z.state.output ++ printed text vs in
      let same : wrote z n (printed text vs) ≡ on (put_text z.state (printed text vs)) (λ a. goes z n a f) = on_if (nat_le (length out) max_output) (record z.state { output = out }) trap.Output (λ a. goes z n a f) in
      subst (λ o. EndsAs m o) (sym same) (change_ends (λ s. put_text s (printed text vs)) (put-threads (printed text vs)) m mem0 ts0 (i.Print k) at n c (holds_first p mem0 ts0) h did g)

  -- `flag` while no flag is set
  pub flags : (n next at : ℕ) → slice_get (body_at p f.function) at ≡ Some (i.Flag n) → Leading p f.function (at + 1) next → (c : ℕ) → EndsAs (run_of f at ws ret mem0 c) (goes z next (with_threads ts0 mem0.state) f)
  flags n next at h g c =
      ends_step p t mem0 ts0 (run_of f at ws ret mem0 c) (run_of f (at + 1) ws ret mem0 (c + 1)) (i.Flag n) (goes z next (with_threads ts0 mem0.state) f) h refl (goes_on f (at + 1) next mem0 ts0 turning.fits (holds_first p mem0 ts0) g (c + 1))
