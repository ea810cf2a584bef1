-- When the end of a turn is that of a step, and how a turn comes to the next mark.
use Rattle.std.proofs.Common.{◌≡◌, ◌⊎◌, inl, ℕ, zero, suc, ◌+◌, ◌-◌, ◌<◌, ◌≤◌, ℤ, pos, false, List, [], ◌∷◌, ◌++◌, length, reverse, replicate, Option, Some, None, Result, Ok, Err, refl, sym, ap, ◌∙◌, subst, arith, length-append}
use Rattle.std.specs.Prelude.{slice_get, slice_set}
use Rattle.std.proofs.lemmas.List.{length-set, length-replicate}
use mathlib.Core.List.{reverse_aux}
use Rattle.c_tree.specs.declared.event.ThreadMark.{ThreadMark}
use Rattle.c_tree.specs.declared.event.ThreadMark.TheVariants.{Fresh}
use Rattle.c_tree.specs.declared.lifted.LExpr.{LExpr}
use Rattle.c_tree.specs.declared.lifted.Lifted.{Lifted}
use Rattle.c_tree.specs.declared.state.Frame.{Frame}
use Rattle.c_tree.specs.declared.state.State.{State}
use Rattle.c_tree.specs.declared.state.Trap.{Trap}
use Rattle.c_tree.specs.Step.{Outcome, on, values, function_of, with_frames, moved, set_slot, fresh}
use Rattle.c_tree.specs.Step as step
use Rattle.c_tree.specs.Value.{and_then, value}
use Rattle.store_mem.specs.Laws.{with_threads}
use Rattle.store_mem.specs.Memory.{Memory}
use Rattle.target_code.specs.declared.instr.Instr.{Instr}
use Rattle.target_code.specs.declared.instr.Instr.TheVariants as i
use Rattle.target_code.specs.Between.{body_at, Path, Reaches, FitsFunction, Stands, Wait, AllWait, frames}
use Rattle.target_code.specs.Code.{marks}
use Rattle.target_code.specs.Machine.{Setting, Machine, Ran, Stopped, Trapped, Ended, Finished, Blocked, Goes, Over, act, function_in, go}
use Rattle.target_code.specs.Operands.{size, sizes, expr_code, args_code}
use Rattle.target_laws.specs.Laws.{setting}
use Rattle.target_laws.proofs.Blocks.{HasAt, has_front, has_back}
use Rattle.target_laws.proofs.Exprs.{put, view_in, Comes, Fails, Gives, comes_on, fails_on, expr_runs}
use Rattle.target_laws.proofs.Halts.{Halts, halts_step, halts_at, run_of}
use Rattle.target_laws.proofs.Lengths.{expr_length}
use Rattle.target_laws.proofs.SeenFrames.{mark_in}

-- the frames of the threads of a state
abbrev pub Threads : Type 0
Threads = List (Option (List Frame))

-- a thread was started: it has a mark, and one frame
pub record Spawned (p : Lifted) (marks0 : List ThreadMark) (ts0 : Threads) (marks : List ThreadMark) (ts : Threads) : Type 0 where
  pub function : ℕ
  pub argument : ℤ
  pub within : function < length p.functions
  pub params : (function_of p function).params ≡ 1
  pub slots : 1 ≤ length (function_of p function).slots
  pub marks_are : marks ≡ marks0 ++ Fresh function argument ∷ []
  pub threads_are : ts ≡ ts0 ++ Some (fresh p function (argument ∷ []) ∷ []) ∷ []

-- the memory and the threads during a turn that began with others: one more thread at most
pub record Holds (p : Lifted) (mem0 : Memory) (ts0 : Threads) (memory : Memory) (ts : Threads) : Type 0 where
  pub fields : memory.fields ≡ mem0.fields
  pub shared : memory.state.threads ≡ mem0.state.threads
  pub grown : ((memory.marks ≡ mem0.marks) × (ts ≡ ts0)) ⊎ Spawned p mem0.marks ts0 memory.marks ts

-- at the start of the turn
pub holds_first : (p : Lifted) (memory : Memory) (ts : Threads) → Holds p memory ts memory ts
holds_first p memory ts = record { fields = refl; shared = refl; grown = inl (refl, refl) }

-- with another state
pub holds_state : (p : Lifted) (mem0 : Memory) (ts0 : Threads) (memory : Memory) (ts : Threads) (st : State) → st.threads ≡ memory.state.threads → Holds p mem0 ts0 memory ts → Holds p mem0 ts0 (record memory { state = st }) ts
holds_state p mem0 ts0 memory ts st e h = record { fields = h.fields; shared = e ∙ h.shared; grown = h.grown }

-- a frame fits its function with another value in a slot
pub fits_set : (p : Lifted) (f : Frame) (k : ℕ) (v : ℤ) → FitsFunction p f → FitsFunction p (set_slot k v f)
fits_set p f k v h = record { within = h.within; slots = length-set f.slots k v ∙ h.slots }

-- and at another place
pub fits_moved : (p : Lifted) (f : Frame) (n : ℕ) → FitsFunction p f → FitsFunction p (moved n f)
fits_moved p f n h = record { within = h.within; slots = h.slots }

-- the frame of a call fits its function
pub fits_fresh : (p : Lifted) (g : ℕ) (vs : List ℤ) → g < length p.functions → length vs ≤ length (function_of p g).slots → FitsFunction p (fresh p g vs)
fits_fresh p g vs within le =
    let n = length (function_of p g).slots in
    let a = length-append vs (replicate (n - length vs) (pos 0)) in
    let b = length-replicate (n - length vs) (pos 0) in
    record { within = within; slots = omega (arith, a, b, le) }

-- a run goes on in the function in whose code the position is
abbrev pub Leading : Lifted → ℕ → ℕ → ℕ → Type 0
Leading p f at n = Reaches (body_at p f) (marks (function_of p f)) at n

-- what the arguments of a call push: the last is on top
abbrev pub GivesAll : Setting → Machine → ℕ → List ℤ → ℕ → ℕ → Result (List ℤ) Trap → Type 0
GivesAll w m pc ops pc' n (Ok vs) = Comes w m pc ops pc' (reverse_aux vs ops) × (length vs ≡ n)
GivesAll w m pc ops pc' n (Err cause) = Fails w m pc ops cause

args_then : (w : Setting) (m : Machine) (pc pc1 pc2 n : ℕ) (ops : List ℤ) (r : Result ℤ Trap) (rs : Result (List ℤ) Trap) → Gives w m pc ops pc1 ops r → ((v : ℤ) → GivesAll w m pc1 (v ∷ ops) pc2 n rs) → GivesAll w m pc ops pc2 (suc n) (and_then r (λ v. and_then rs (λ vs. Ok (v ∷ vs))))
args_then w m pc pc1 pc2 n ops (Err cause) rs g h = g
args_then w m pc pc1 pc2 n ops (Ok v) (Err cause) g h = fails_on w m pc pc1 ops (v ∷ ops) cause g (h v)
args_then w m pc pc1 pc2 n ops (Ok v) (Ok vs) g h =
    let k = h v in (comes_on w m pc pc1 pc2 ops (v ∷ ops) (reverse_aux vs (v ∷ ops)) g k.0, ap suc k.1)

args_at : (w : Setting) (m : Machine) (pc pc1 pc2 n : ℕ) (ops : List ℤ) (rs : Result (List ℤ) Trap) → pc1 ≡ pc2 → GivesAll w m pc ops pc1 n rs → GivesAll w m pc ops pc2 n rs
args_at w m pc pc1 pc2 n ops rs e g = subst (λ k. GivesAll w m pc ops k n rs) e g

-- arguments push their values, or end in the first trap
pub args_run : (w : Setting) (m : Machine) (es : List LExpr) (pc : ℕ) (ops : List ℤ) → HasAt (function_in w.code m.function).body pc (args_code pc es) → GivesAll w m pc ops (pc + sizes es) (length es) (values (view_in m) es)
args_run w m [] pc ops h =
    let e : pc ≡ pc + 0 = omega arith in
    (λ c. (c, λ k. (k, ap (λ p. go w k (put m p ops c)) e)), refl)
args_run w m (e ∷ rest) pc ops h =
    let code = (function_in w.code m.function).body in
    let h1 = has_back code pc (size e) (expr_code pc e) _ (expr_length pc e) h in
    let x = view_in m in
    args_at w m pc (pc + size e + sizes rest) _ _ ops (values x (e ∷ rest)) (omega arith) (args_then w m pc (pc + size e) _ (length rest) ops (value x e) (values x rest) (expr_runs w m e pc ops (has_front code pc (expr_code pc e) _ h)) (λ v. args_run w m rest (pc + size e) (v ∷ ops) h1))

-- the thread t of a program, in a turn that began with this memory and these threads
module _ (p : Lifted) (t : ℕ) (mem0 : Memory) (ts0 : Threads) where
  abbrev w : Setting
  w = setting p t false

  -- the state with these frames of the thread
  abbrev pub state_with : Memory → Threads → List Frame → State
  state_with memory ts fs = with_frames (with_threads ts memory.state) t fs

  -- the thread stands for its frames in the state, and its memory for the rest
  pub record GoesOn (m : Machine) (state : State) : Type 0 where
    pub frame : Frame
    pub pc : ℕ
    pub waits : List Wait
    pub returned : ℤ
    pub memory : Memory
    pub count : ℕ
    pub threads : Threads
    pub is : m ≡ run_of frame pc waits returned memory count
    pub stands : Stands p frame pc
    pub all_wait : AllWait p waits
    pub holds : Holds p mem0 ts0 memory threads
    pub state_is : state ≡ state_with memory threads (reverse (frame ∷ frames waits))

  -- a turn's end is a step's
  abbrev pub Agrees : Ran → Outcome → Type 0
  Agrees (Stopped m) (step.Done state) = GoesOn m state
  Agrees (Ended memory count) (step.Done state) = (memory ≡ mem0) × (state ≡ record mem0.state { threads = slice_set ts0 t None })
  Agrees (Trapped cause count) (step.Trapped cause') = cause ≡ cause'
  Agrees (Finished code count) (step.Finished code') = code ≡ code'
  Agrees Blocked step.Blocked = Unit {0}
  Agrees _ _ = ⊥

  -- a run ends as the step does
  abbrev pub Ends : Machine → Outcome → Type 0
  Ends m o = Halts w m (λ r. Agrees r o)

  -- a value, and what is done with it
  pub ends_value : (m : Machine) (pc pc1 : ℕ) (ops o1 : List ℤ) (r : Result ℤ Trap) (f : ℤ → Outcome) → Gives w m pc ops pc1 o1 r → ((v : ℤ) (c : ℕ) → Ends (put m pc1 (v ∷ o1) c) (f v)) → (c : ℕ) → Ends (put m pc ops c) (on r f)
  ends_value m pc pc1 ops o1 (Ok v) f g h c =
      let a = g c in let b = h v a.0 in let d = a.1 b.0 in (d.0, subst (λ r. Agrees r (f v)) (sym d.1) b.1)
  ends_value m pc pc1 ops o1 (Err cause) f g h c =
      let a = g c in (a.1, subst (λ r. Agrees r (step.Trapped cause)) (sym a.2) refl)

  pub ends_values : (m : Machine) (pc pc1 n : ℕ) (ops : List ℤ) (rs : Result (List ℤ) Trap) (f : List ℤ → Outcome) → GivesAll w m pc ops pc1 n rs → ((vs : List ℤ) (c : ℕ) → length vs ≡ n → Ends (put m pc1 (reverse_aux vs ops) c) (f vs)) → (c : ℕ) → Ends (put m pc ops c) (on rs f)
  ends_values m pc pc1 n ops (Ok vs) f g h c =
      let a = g.0 c in let b = h vs a.0 g.1 in let d = a.1 b.0 in (d.0, subst (λ r. Agrees r (f vs)) (sym d.1) b.1)
  ends_values m pc pc1 n ops (Err cause) f g h c =
      let a = g c in (a.1, subst (λ r. Agrees r (step.Trapped cause)) (sym a.2) refl)

  -- an instruction that goes on, and the last one
  pub ends_step : (m m' : Machine) (i : Instr) (o : Outcome) → slice_get (body_at p m.function) m.pc ≡ Some i → act w (Some i) m ≡ Goes m' → Ends m' o → Ends m o
  ends_step m m' i o e f h = halts_step w m m' i (λ r. Agrees r o) e f h

  pub ends_at : (m : Machine) (i : Instr) (r : Ran) (o : Outcome) → slice_get (body_at p m.function) m.pc ≡ Some i → act w (Some i) m ≡ Over r → Agrees r o → Ends m o
  ends_at m i r o e f h = halts_at w m i r (λ r. Agrees r o) e f h

  -- the thread comes to the mark of place n, with a frame and a memory
  arrives_by : (k : ℕ) (f : Frame) (at n : ℕ) (ws : List Wait) (ret : ℤ) (memory : Memory) (ts : Threads) → FitsFunction p f → AllWait p ws → Holds p mem0 ts0 memory ts → Path (body_at p f.function) (marks (function_of p f.function)) k at n → (c : ℕ) → Ends (run_of f at ws ret memory c) (step.Done (state_with memory ts (reverse (moved n f ∷ frames ws))))
  arrives_by zero f at n ws ret memory ts fits waits holds path c =
      let stands : Stands p (moved n f) at = record { fits = fits_moved p f n fits; mark = path } in
      ends_at (run_of f at ws ret memory c) (i.Mark n) (Stopped (run_of f at ws ret memory c)) (step.Done (state_with memory ts (reverse (moved n f ∷ frames ws)))) (mark_in p (moved n f) at stands) refl (record {
        frame = moved n f;
        pc = at;
        waits = ws;
        returned = ret;
        memory = memory;
        count = c;
        threads = ts;
        is = refl;
        stands = stands;
        all_wait = waits;
        holds = holds;
        state_is = refl;
      })
  arrives_by (suc k) f at n ws ret memory ts fits waits holds path c =
      ends_step (run_of f at ws ret memory c) (run_of f path.0 ws ret memory (c + 1)) (i.Jump path.0) (step.Done (state_with memory ts (reverse (moved n f ∷ frames ws)))) path.1 refl (arrives_by k f path.0 n ws ret memory ts fits waits holds path.2 (c + 1))

  pub arrives : (f : Frame) (at n : ℕ) (ws : List Wait) (ret : ℤ) (memory : Memory) (ts : Threads) → FitsFunction p f → AllWait p ws → Holds p mem0 ts0 memory ts → Leading p f.function at n → (c : ℕ) → Ends (run_of f at ws ret memory c) (step.Done (state_with memory ts (reverse (moved n f ∷ frames ws))))
  arrives f at n ws ret memory ts fits waits holds g c = arrives_by g.0 f at n ws ret memory ts fits waits holds g.1 c
