-- The end of a row: the thread stands at its last mark.
use Rattle.std.proofs.Common.{◌≡◌, ◌<◌, ℕ, ◌+◌, ℤ, List, [], ◌∷◌, length, Some, sym, ap, ◌∙◌, subst, arith}
use Rattle.std.specs.Prelude.{slice_index_or}
use Rattle.std.proofs.lemmas.Option.{get_or_from_slice_get}
use Rattle.c_tree.specs.declared.lifted.Lifted.{Lifted}
use Rattle.c_tree.specs.declared.state.Frame.{Frame}
use Rattle.store_mem.specs.Memory.{Memory}
use Rattle.target_code.specs.declared.activation.Activation.{Activation}
use Rattle.target_code.specs.declared.activation.Mode.{Mode}
use Rattle.target_code.specs.declared.activation.Mode.TheVariants.{Running}
use Rattle.target_code.specs.declared.instr.Instr.{Instr}
use Rattle.target_code.specs.Between.{IsRunning}
use Rattle.target_code.specs.Code.{TargetCode}
use Rattle.target_code.specs.Machine.{Setting, Machine, Ran, Over, Blocked, Trapped, Ended, Finished, act, advance, function_in, instr_at, machine_of}
use Rattle.target_code.specs.Stack.{with_pc}
use Rattle.target_code.specs.Target.{Target, below_of, top_of}
use Rattle.target_laws.specs.Effects.{IsMark}
use Rattle.target_laws.specs.Rows.{IsThreadOf, calm}
use Rattle.target_laws.proofs.Threads.{thread_stands}
use Rattle.thread_turns.specs.declared.cursor.Kept.{Kept}
use Rattle.thread_turns.specs.declared.cursor.Stop.{Stop}
use Rattle.thread_turns.specs.declared.cursor.Stop.TheVariants as stop
use Rattle.thread_turns.specs.Turns.{EndsAt, IsBehind, IsEnd, IsPlacedAt, IsRow, IsSameButWhere, OnWay, RunsTo, count_at, thread_of}
use Rattle.thread_turns.proofs.MidLemmas.{leads_over}
use Rattle.thread_turns.proofs.WayLemmas.{ends_evaluating}

-- an activation by its parts
same_activation : (a b : Activation) (pc : ℕ) → a.function ≡ b.function → a.slots ≡ b.slots → pc ≡ b.pc → record a { pc = pc } ≡ b
same_activation a b pc f s p =
    ap (λ (k : ℕ). record { function = k; pc = pc; slots = a.slots }) f
    ∙ (ap (λ (k : List ℤ). record { function = b.function; pc = pc; slots = k }) s
    ∙ ap (λ (k : ℕ). record { function = b.function; pc = k; slots = b.slots }) p)

-- the stack, put at a position
placed_frames : (frames xs : List Activation) (pc : ℕ) → 0 < length frames → 0 < length xs → (top_of frames).function ≡ (top_of xs).function → (top_of frames).slots ≡ (top_of xs).slots → below_of frames ≡ below_of xs → pc ≡ (top_of xs).pc → with_pc pc frames ≡ xs
placed_frames [] xs pc l k f s b p = absurd (omega (arith, l))
placed_frames (a ∷ rest) [] pc l k f s b p = absurd (omega (arith, k))
placed_frames (a ∷ rest) (y ∷ ys) pc l k f s b p =
    ap (λ z. z ∷ rest) (same_activation a y pc f s p) ∙ ap (λ z. y ∷ z) b

-- a thread by its parts
same_thread : (x : Target) (kept : Kept) (frames : List Activation) → Running ≡ x.mode → frames ≡ x.activations → kept.returned ≡ x.returned → [] ≡ x.saved → thread_of kept frames ≡ record x { count = kept.count }
same_thread x kept frames m a r s =
    ap (λ (k : Mode). record (thread_of kept frames) { mode = k }) m
    ∙ (ap (λ (k : List Activation). record (thread_of kept k) { mode = x.mode }) a
    ∙ (ap (λ (k : ℤ). record (thread_of kept x.activations) { mode = x.mode; returned = k }) r
    ∙ ap (λ (k : List Frame). record (thread_of kept x.activations) { mode = x.mode; returned = x.returned; saved = k }) s))

pub some_frames : (p : Lifted) (x : Target) → IsRunning p x → 0 < length x.activations
some_frames p x r = subst (λ (l : List Activation). 0 < length l) (sym (ap (λ (y : Target). y.activations) r.is)) (omega arith)

-- the thread of the stack that was put at its mark
pub stopped_thread : (code : TargetCode) (t : ℕ) (x : Target) (memory : Memory) (place : ℕ) (m to : Machine) (frames back : List Activation) (kept : Kept) → IsThreadOf code t x memory → IsPlacedAt code (top_of x.activations) place → IsSameButWhere (machine_of x memory) m → IsSameButWhere m to → 0 < length frames → (top_of frames).function ≡ to.function → (top_of frames).slots ≡ to.slots → below_of frames ≡ to.below → back ≡ with_pc (slice_index_or (function_in code (top_of frames).function).marks place 0) frames → kept.returned ≡ to.returned → thread_of kept back ≡ record x { count = kept.count }
stopped_thread code t x memory place m to frames back kept h placed a b live function slots below set returned =
    let r = thread_stands code t x memory h in
    let function_x : (top_of frames).function ≡ (top_of x.activations).function = function ∙ (ap (λ (k : Machine). k.function) b ∙ ap (λ (k : Machine). k.function) a) in
    let slots_x : (top_of frames).slots ≡ (top_of x.activations).slots = slots ∙ (ap (λ (k : Machine). k.slots) b ∙ ap (λ (k : Machine). k.slots) a) in
    let below_x : below_of frames ≡ below_of x.activations = below ∙ (ap (λ (k : Machine). k.below) b ∙ ap (λ (k : Machine). k.below) a) in
    let returned_x : kept.returned ≡ x.returned = returned ∙ (ap (λ (k : Machine). k.returned) b ∙ ap (λ (k : Machine). k.returned) a) in
    let pc : slice_index_or (function_in code (top_of frames).function).marks place 0 ≡ (top_of x.activations).pc = ap (λ f. slice_index_or (function_in code f).marks place 0) function_x ∙ get_or_from_slice_get (function_in code (top_of x.activations).function).marks place (top_of x.activations).pc 0 placed in
    let frames_x : back ≡ x.activations = set ∙ placed_frames frames x.activations _ live (some_frames h.program x r) function_x slots_x below_x pc in
    same_thread x kept back (sym h.mode) frames_x returned_x (sym (ap (λ (y : Target). y.saved) r.is))

-- where the count is that of the mark, nothing is new
pub same_count : (x y : Target) (n : ℕ) → y ≡ record x { count = n } → n ≡ x.count → y ≡ x
same_count x y n e c = e ∙ ap (λ (k : ℕ). record x { count = k }) c

-- what the turn comes to
ends_at : (w : Setting) (s : Stop) (instr : Instr) (x : Target) (memory next : Memory) (m : Machine) (n marked : ℕ) (y : Target) → IsEnd w instr s m → instr_at w m ≡ Some instr → ((r : Ran) → act w (Some instr) m ≡ Over r → RunsTo w (advance (machine_of x memory)) r) → x.count ≡ marked → n ≡ count_at s m.count marked → y ≡ record x { count = n } → next ≡ memory → m.memory ≡ memory → EndsAt w s x memory y next
ends_at w stop.Blocked instr x memory next m n marked y h is run c k e q z = (same_count x y n e (k ∙ sym c), q, run Blocked h)
ends_at w (stop.Trapped cause) instr x memory next m n marked y h is run c k e q z =
    let counted : y.count ≡ m.count + 1 = ap (λ (v : Target). v.count) e ∙ k in
    (e ∙ ap (λ (v : ℕ). record x { count = v }) (sym (ap (λ (v : Target). v.count) e)), q, subst (λ v. RunsTo w (advance (machine_of x memory)) (Trapped cause v)) (sym counted) (run _ h))
ends_at w stop.Ended instr x memory next m n marked y h is run c k e q z =
    let counted : y.count ≡ m.count + 1 = ap (λ (v : Target). v.count) e ∙ k in
    (e ∙ ap (λ (v : ℕ). record x { count = v }) (sym (ap (λ (v : Target). v.count) e)), q, subst (λ v. RunsTo w (advance (machine_of x memory)) (Ended memory v)) (sym counted) (subst (λ v. RunsTo w (advance (machine_of x memory)) (Ended v (m.count + 1))) z (run _ h)))
ends_at w (stop.Finished status) instr x memory next m n marked y h is run c k e q z =
    let counted : y.count ≡ m.count + 1 = ap (λ (v : Target). v.count) e ∙ k in
    (e ∙ ap (λ (v : ℕ). record x { count = v }) (sym (ap (λ (v : Target). v.count) e)), q, subst (λ v. RunsTo w (advance (machine_of x memory)) (Finished status v)) (sym counted) (run _ h))
ends_at w stop.Made instr x memory next m n marked y h is run c k e q z = (same_count x y n e (k ∙ sym c), q)
ends_at w stop.Spawning instr x memory next m n marked y h is run c k e q z = (same_count x y n e (k ∙ sym c), q)
ends_at w stop.Standing instr x memory next m n marked y h is run c k e q z = (same_count x y n e (k ∙ sym c), q)
ends_at w stop.Full instr x memory next m n marked y h is run c k e q z = (same_count x y n e (k ∙ sym c), q)
ends_at w stop.Memory instr x memory next m n marked y h is run c k e q z = (same_count x y n e (k ∙ sym c), q)

-- a row ends in an instruction that ends the turn
pub way_ends : (code : TargetCode) (t : ℕ) (x0 : Target) (memory0 : Memory) (steps place marked room : ℕ) (instr : Instr) (s : Stop) (m to : Machine) (frames back : List Activation) (kept : Kept) → OnWay code t x0 memory0 steps place marked room m → instr_at (calm code t) m ≡ Some instr → (IsMark (Some instr) → ⊥) → IsEnd (calm code t) instr s m × (IsBehind instr → ⊥) × IsSameButWhere m to × (to.count ≡ m.count) → 0 < length frames → (top_of frames).function ≡ to.function → (top_of frames).slots ≡ to.slots → below_of frames ≡ to.below → back ≡ with_pc (slice_index_or (function_in code (top_of frames).function).marks place 0) frames → kept.returned ≡ to.returned → kept.count ≡ count_at s to.count marked → IsRow code t s x0 memory0 steps (thread_of kept back) to.memory
way_ends code t x0 memory0 steps place marked room instr s m to frames back kept o is no_mark done live function slots below set returned count =
    let w = calm code t in
    let evaluating = ends_evaluating code o.x o.memory room instr m is done.1 no_mark o.phase in
    let thread = stopped_thread code t o.x o.memory place m to frames back kept o.thread o.placed evaluating done.2 live function slots below set returned in
    let here : m.memory ≡ o.memory = ap (λ (k : Machine). k.memory) evaluating in
    record {
      x = o.x;
      memory = o.memory;
      turns = o.turns;
      thread = o.thread;
      ends = ends_at w s instr o.x o.memory to.memory m kept.count marked (thread_of kept back) done.0 is (λ r e. leads_over w (advance (machine_of o.x o.memory)) m r o.leads (ap (λ k. act w k m) is ∙ e)) o.counted (count ∙ ap (λ n. count_at s n marked) done.3) thread (ap (λ (k : Machine). k.memory) done.2 ∙ here) here;
    }
