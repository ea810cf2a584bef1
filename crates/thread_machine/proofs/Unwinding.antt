-- An unwinding, with its count.
use Rattle.std.proofs.Common.{◌≡◌, ◌⊎◌, inl, inr, ⊎_elim, ℕ, ◌+◌, ◌≤◌, ℤ, true, List, [], ◌∷◌, length, reverse, Option, Some, refl, sym, subst, ap, ◌∙◌, arith}
use Rattle.std.specs.Prelude.{slice_get}
use mathlib.Core.List.{reverse_aux}
use Rattle.c_tree.specs.declared.lifted.Lifted.{Lifted}
use Rattle.c_tree.specs.declared.state.Frame.{Frame}
use Rattle.c_tree.specs.Formed.{IsFormed}
use Rattle.c_tree.specs.Limits.{max_slots}
use Rattle.c_tree.specs.Step.{no_function}
use Rattle.store_mem.specs.Memory.{Memory}
use Rattle.target_code.specs.declared.activation.Mode.TheVariants.{Running, Unwinding, Saved}
use Rattle.target_code.specs.declared.instr.Instr.{Instr}
use Rattle.target_code.specs.declared.instr.Instr.TheVariants as i
use Rattle.target_code.specs.Between.{body_at, FitsFunction, Stands, Wait, Waits, AllWait, activation, acts, frames, running, IsBetweenTurns}
use Rattle.target_code.specs.Code.{TargetCode, code_of}
use Rattle.target_code.specs.Machine.{Setting, Machine, Ran, Unwound, turn, machine_of, all_saved}
use Rattle.target_code.specs.Seen.{place_after, seen}
use Rattle.target_code.specs.Target.{Target}
use Rattle.target_laws.proofs.Halts.{Halts, halts_step, halts_at, run_of}
use Rattle.target_laws.proofs.SeenFrames.{mark_in, stands_seen}
use Rattle.thread_machine.specs.Room.{HaveFewSlots}
use Rattle.thread_machine.specs.Standing.{place_by, cost_by, saved_frame, saved_frames, saving_cost, IsAtUpdate}
use Rattle.thread_machine.specs.Threads.{setting, HasUnwound}
use Rattle.thread_machine.proofs.StackLemmas.{saving_cost_le}

-- the run has ended with these frames saved, and with this count
abbrev Saves : List Frame → Memory → ℕ → Ran → Type 0
Saves fs memory count r = r ≡ Unwound fs memory count

-- a thread that unwinds, at its innermost activation
abbrev unwinding : Wait → List Wait → List Frame → ℤ → Memory → ℕ → Machine
unwinding x ws saved ret memory c = record (run_of x.frame x.pc ws ret memory c) { mode = Unwinding; saved = saved }

abbrev moved_to : ℕ → Wait → Wait
moved_to pc x = record { frame = x.frame; pc = pc }

two : (c : ℕ) → c + 1 + 1 ≡ c + 2
two c = omega arith

last : (c k : ℕ) → c + k ≡ c + (k + 0)
last c k = omega arith

more : (c k l : ℕ) → c + k + l ≡ c + (k + l)
more c k l = omega arith

module _ (p : Lifted) (t : ℕ) (ret : ℤ) (memory : Memory) where
  abbrev w : Setting
  w = setting (code_of p) t true

  abbrev cost_of : Wait → ℕ
  cost_of x = cost_by (slice_get (body_at p x.frame.function) x.pc)

  -- an activation that waits goes to its `after`, and is saved
  to_after : (x : Wait) (ws : List Wait) (saved : List Frame) (Q : ℕ → Ran → Type 0) (q : Waits p x)
      → ((c : ℕ) → Halts w (unwinding (moved_to q.after x) ws saved ret memory c) (Q (c + 1)))
      → (c : ℕ) → Halts w (unwinding x ws saved ret memory c) (Q (c + cost_of x))
  to_after x ws saved Q q h c =
      let body = body_at p x.frame.function in
      ⊎_elim
      (λ e.
      let cost : cost_of x ≡ 1 = ap (λ pc. cost_by (slice_get body pc)) e ∙ ap (λ (o : Option Instr). cost_by o) q.has in
      let there = subst (λ pc. Halts w (unwinding (moved_to pc x) ws saved ret memory c) (Q (c + 1))) (sym e) (h c) in
      subst (λ k. Halts w (unwinding x ws saved ret memory c) (Q (c + k))) (sym cost) there)
      (λ e.
      let cost : cost_of x ≡ 2 = ap (λ (o : Option Instr). cost_by o) e in
      let there = halts_step w (unwinding x ws saved ret memory c) (unwinding (moved_to q.after x) ws saved ret memory (c + 1)) (i.Jump q.after) (Q (c + 1 + 1)) e refl (h (c + 1)) in
      let sum : c + 1 + 1 ≡ c + cost_of x = two c ∙ ap (λ k. c + k) (sym cost) in
      subst (λ k. Halts w (unwinding x ws saved ret memory c) (Q k)) sum there)
      q.at

  unwinds : (x : Wait) (ws : List Wait) (saved : List Frame) → Waits p x → AllWait p ws → (c : ℕ)
      → Halts w (unwinding x ws saved ret memory c) (Saves (reverse_aux (frames (x ∷ ws)) saved) memory (c + saving_cost (code_of p) (acts (x ∷ ws))))
  unwinds x [] saved q all c =
      let fs = x.frame ∷ saved in
      let there = to_after x [] saved (λ k. Saves fs memory k) q (λ c. halts_at w (unwinding (moved_to q.after x) [] saved ret memory c) (i.After x.frame.place q.to) (Unwound fs memory (c + 1)) (Saves fs memory (c + 1)) q.has refl refl) c in
      subst (λ k. Halts w (unwinding x [] saved ret memory c) (Saves fs memory k)) (last c (cost_of x)) there
  unwinds x (y ∷ ws) saved q all c =
      let fs = reverse_aux (frames (y ∷ ws)) (x.frame ∷ saved) in
      let rest = saving_cost (code_of p) (acts (y ∷ ws)) in
      let there = to_after x (y ∷ ws) saved (λ k. Saves fs memory (k + rest)) q (λ c. halts_step w (unwinding (moved_to q.after x) (y ∷ ws) saved ret memory c) (unwinding y ws (x.frame ∷ saved) ret memory (c + 1)) (i.After x.frame.place q.to) (Saves fs memory (c + 1 + rest)) q.has refl (unwinds y ws (x.frame ∷ saved) all.0 all.1 (c + 1))) c in
      subst (λ k. Halts w (unwinding x (y ∷ ws) saved ret memory c) (Saves fs memory k)) (more c (cost_of x) rest) there

  -- `flag` at the update place
  flags : (f : Frame) (pc : ℕ) (ws : List Wait) → AllWait p ws → slice_get (body_at p f.function) pc ≡ Some (i.Flag f.place) → (c : ℕ)
      → Halts w (run_of f pc ws ret memory c) (Saves (reverse (f ∷ frames ws)) memory (c + 1 + saving_cost (code_of p) (acts ws)))
  flags f pc [] all h c =
      let there = halts_at w (run_of f pc [] ret memory c) (i.Flag f.place) (Unwound (f ∷ []) memory (c + 1)) (Saves (f ∷ []) memory (c + 1)) h refl refl in
      subst (λ k. Halts w (run_of f pc [] ret memory c) (Saves (f ∷ []) memory k)) (let e : c + 1 ≡ c + 1 + 0 = omega arith in e) there
  flags f pc (x ∷ ws) all h c =
      halts_step w (run_of f pc (x ∷ ws) ret memory c) (unwinding x ws (f ∷ []) ret memory (c + 1)) (i.Flag f.place) (Saves (reverse (f ∷ frames (x ∷ ws))) memory (c + 1 + saving_cost (code_of p) (acts (x ∷ ws)))) h refl (unwinds x ws (f ∷ []) all.0 all.1 (c + 1))

module _ (p : Lifted) where
  abbrev at_place : Frame → ℕ → Frame
  at_place f n = record f { place = n }

  -- a waiting activation is saved as its frame
  waits_by : (body : List Instr) (pc after n : ℕ) (to : Option ℕ) → slice_get body after ≡ Some (i.After n to) → (pc ≡ after) ⊎ (slice_get body pc ≡ Some (i.Jump after)) → place_by body (slice_get body pc) ≡ n
  waits_by body pc after n to h (inl e) = ap (λ (k : ℕ). place_by body (slice_get body k)) e ∙ ap (λ (o : Option Instr). place_by body o) h
  waits_by body pc after n to h (inr e) = ap (λ (o : Option Instr). place_by body o) e ∙ ap (λ (o : Option Instr). place_after o) h

  wait_saved : (x : Wait) → Waits p x → saved_frame (code_of p) (activation x) ≡ x.frame
  wait_saved x q =
      ap (λ (n : ℕ). at_place x.frame n) (waits_by (body_at p x.frame.function) x.pc q.after x.frame.place q.to q.has q.at)

  waits_saved : (ws : List Wait) → AllWait p ws → saved_frames (code_of p) (acts ws) ≡ frames ws
  waits_saved [] all = refl
  waits_saved (x ∷ ws) all =
      ap (λ f. f ∷ saved_frames (code_of p) (acts ws)) (wait_saved x all.0) ∙ ap (λ fs. x.frame ∷ fs) (waits_saved ws all.1)

mark_number : (n k : ℕ) → Some (i.Mark n) ≡ Some (i.Mark k) → n ≡ k
mark_number n k e = cc

-- what an unwinding of a running thread comes to
pub record Unwinds (p : Lifted) (x : Target) : Type 0 where
  pub frames : List Frame
  pub saved : frames ≡ reverse (saved_frames (code_of p) x.activations)
  pub stood : seen (code_of p) x ≡ frames
  pub unwinds : (t : ℕ) (memory : Memory) → (n : ℕ) × (turn (setting (code_of p) t true) n (machine_of x memory) ≡ Unwound frames memory (x.count + saving_cost (code_of p) x.activations))

running_unwinds : (p : Lifted) (f : Frame) (pc : ℕ) (ws : List Wait) (ret : ℤ) (c n : ℕ) → Stands p f pc → AllWait p ws → slice_get (body_at p f.function) pc ≡ Some (i.Mark n) → slice_get (body_at p f.function) (pc + 1) ≡ Some (i.Flag n) → Unwinds p (running f pc ws ret c)
running_unwinds p f pc ws ret c n stands all is_mark is_flag =
    let body = body_at p f.function in
    let code = code_of p in
    let mark = mark_in p f pc stands in
    let same : n ≡ f.place = mark_number n f.place (sym is_mark ∙ mark) in
    let flag : slice_get body (pc + 1) ≡ Some (i.Flag f.place) = is_flag ∙ ap (λ k. let o : Option Instr = Some (i.Flag k) in o) same in
    let a = activation (record { frame = f; pc = pc }) in
    let top : saved_frame code a ≡ f = ap (λ (o : Option Instr). record f { place = place_by body o }) mark in
    let cost : cost_by (slice_get body pc) ≡ 2 = ap (λ (o : Option Instr). cost_by o) mark in
    let rest = saving_cost code (acts ws) in
    let sum : c + 1 + 1 + rest ≡ c + (cost_by (slice_get body pc) + rest) = omega (arith, cost) in
    record {
      frames = reverse (f ∷ frames ws);
      saved = sym (ap (λ g. reverse (g ∷ saved_frames code (acts ws))) top ∙ ap (λ fs. reverse (f ∷ fs)) (waits_saved p ws all));
      stood = stands_seen p f pc ws ret c stands all;
      unwinds = λ t memory.
          let r = flags p t ret memory f (pc + 1) ws all flag (c + 1) in
          (r.0, r.1 ∙ ap (λ k. Unwound (reverse (f ∷ frames ws)) memory k) sum);
    }

thread_unwinds : (p : Lifted) (x : Target) (f : Frame) (pc : ℕ) (ws : List Wait) → x ≡ running f pc ws x.returned x.count → Stands p f pc → AllWait p ws → IsAtUpdate (code_of p) x → Unwinds p x
thread_unwinds p x f pc ws is stands all update =
    let update' = subst (λ y. IsAtUpdate (code_of p) y) is update in
    subst (λ y. Unwinds p y) (sym is) (running_unwinds p f pc ws x.returned x.count update'.0 stands all update'.1 update'.2)

of_program : (p : Lifted) (x y : Target) → Unwinds p x → y ≡ all_saved x (reverse (saved_frames (code_of p) x.activations)) (x.count + saving_cost (code_of p) x.activations) → HasUnwound (code_of p) x y
of_program p x y u e =
    let saved : u.frames ≡ y.saved = u.saved ∙ sym (ap (λ (z : Target). z.saved) e) in
    let count : x.count + saving_cost (code_of p) x.activations ≡ y.count = sym (ap (λ (z : Target). z.count) e) in
    record {
      is = e ∙ ap (λ fs. all_saved x fs (x.count + saving_cost (code_of p) x.activations)) (sym u.saved ∙ saved) ∙ ap (λ k. all_saved x y.saved k) count;
      unwinds = λ t memory.
          let r = u.unwinds t memory in
          (r.0, r.1 ∙ ap (λ fs. Unwound fs memory (x.count + saving_cost (code_of p) x.activations)) saved ∙ ap (λ k. Unwound y.saved memory k) count);
      stood = u.stood ∙ saved;
      quick = let most = saving_cost_le (code_of p) x.activations in omega (arith, most, count);
    }

-- a thread that runs and stands at an update place has unwound, where its activations' frames are
-- saved and counted
pub has_unwound : (code : TargetCode) (x y : Target) → IsBetweenTurns code x → IsAtUpdate code x → y ≡ all_saved x (reverse (saved_frames code x.activations)) (x.count + saving_cost code x.activations) → HasUnwound code x y
has_unwound code x y between update e =
    let p = between.coded.program in
    let r = between.runs in
    let is = between.coded.is in
    let update' = subst (λ c. IsAtUpdate c x) is update in
    let e' = subst (λ c. y ≡ all_saved x (reverse (saved_frames c x.activations)) (x.count + saving_cost c x.activations)) is e in
    subst (λ c. HasUnwound c x y) (sym is) (of_program p x y (thread_unwinds p x r.frame r.pc r.waits r.is r.stands r.wait update') e')

-- the same, of the thread's parts
pub left_unwound : (code : TargetCode) (v x y : Target) → v ≡ x → IsBetweenTurns code x → IsAtUpdate code x → y.mode ≡ Saved → y.activations ≡ [] → y.returned ≡ v.returned → y.saved ≡ reverse (saved_frames code v.activations) → y.count ≡ v.count + saving_cost code v.activations → HasUnwound code x y
left_unwound code v x y is between update mode none returned saved count =
    let whole : y ≡ all_saved v (reverse (saved_frames code v.activations)) (v.count + saving_cost code v.activations) =
    ap (λ m. record y { mode = m }) mode ∙ ap (λ l. record y { mode = Saved; activations = l }) none ∙ ap (λ r. record y { mode = Saved; activations = []; returned = r }) returned ∙ ap (λ fs. record y { mode = Saved; activations = []; returned = v.returned; saved = fs }) saved ∙ ap (λ k. all_saved v (reverse (saved_frames code v.activations)) k) count in
    has_unwound code x y between update (subst (λ (z : Target). y ≡ all_saved z (reverse (saved_frames code z.activations)) (z.count + saving_cost code z.activations)) is whole)

-- the activations of a running thread have few enough slots
pub few_slots : (p : Lifted) (f : Frame) → IsFormed p → FitsFunction p f → length f.slots ≤ max_slots
few_slots p f formed fits =
    let most = formed.limits.slots f.function no_function fits.within in
    omega (arith, fits.slots, most)

few_waits : (p : Lifted) (ws : List Wait) → IsFormed p → AllWait p ws → HaveFewSlots (acts ws)
few_waits p [] formed all = tt
few_waits p (x ∷ ws) formed all = (few_slots p x.frame formed all.0.fits, few_waits p ws formed all.1)

pub thread_is_few : (code : TargetCode) (x : Target) → IsBetweenTurns code x → HaveFewSlots x.activations
thread_is_few code x between =
    let p = between.coded.program in
    let r = between.runs in
    let few : HaveFewSlots (running r.frame r.pc r.waits x.returned x.count).activations = (few_slots p r.frame between.coded.formed r.stands.fits, few_waits p r.waits between.coded.formed r.wait) in
    subst (λ (y : Target). HaveFewSlots y.activations) (sym r.is) few

pub thread_runs : (code : TargetCode) (x : Target) → IsBetweenTurns code x → x.mode ≡ Running
thread_runs code x between = ap (λ (y : Target). y.mode) between.runs.is
