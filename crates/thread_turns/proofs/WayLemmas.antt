-- What an instruction changes, and a thread on its way from mark to mark.
use Rattle.std.proofs.Common.{◌≡◌, ◌≤◌, ◌<◌, inl, inr, ℕ, zero, suc, ◌+◌, ℤ, List, [], ◌∷◌, length, Option, Some, None, Result, Ok, Err, false, true, Bool, pos, negsuc, ◌==◌, nat_lt, if◌then◌else◌, refl, sym, ap, ◌∙◌, subst, arith}
use Rattle.std.specs.Prelude.{◌-◌, ◌++◌, reverse, take, replicate, slice_get}
use Rattle.std.proofs.lemmas.List.{length-append, length-replicate, length-reverse, length-take}
use Rattle.c_tree.specs.declared.lifted.Lifted.{Lifted}
use Rattle.c_tree.specs.declared.state.Trap.{Trap}
use Rattle.c_tree.specs.declared.state.Frame.{Frame}
use Rattle.c_tree.specs.declared.state.State.{State}
use Rattle.c_tree.specs.Formed.{IsFormed}
use Rattle.c_tree.specs.Limits.{max_slots}
use Rattle.c_tree.specs.Step.{function_of}
use Rattle.store_mem.specs.Access.{is_live_in}
use Rattle.store_mem.specs.Memory.{Memory}
use Rattle.target_code.specs.declared.activation.Activation.{Activation}
use Rattle.target_code.specs.declared.activation.Mode.TheVariants.{Running}
use Rattle.target_code.specs.declared.code.CodeFunction.{CodeFunction}
use Rattle.target_code.specs.declared.instr.Instr.{Instr}
use Rattle.target_code.specs.declared.instr.Instr.TheVariants as i
use Rattle.target_code.specs.Between.{AllWait, IsRunning, Stands, Wait, activation, acts, body_at}
use Rattle.target_code.specs.Code.{TargetCode, code_of}
use Rattle.target_code.specs.Machine.{Setting, Machine, Ran, Did, Goes, Over, Stopped, Stuck, act, advance, after, dropped, ended, function_in, instr_at, joins, machine_of, on_top, pushed, on_result, restore, result_to, takes, target_of}
use Rattle.target_code.specs.Target.{Target, below_of, top_of}
use Rattle.target_laws.specs.Effects.{Arrives, HasEffect, IsArriving, IsCalm, IsMark}
use Rattle.target_laws.specs.Rows.{IsThreadOf, calm}
use Rattle.target_laws.proofs.Arriving.{effects_arrive, functions_arrive, returns_arrive}
use Rattle.target_laws.proofs.Inside.{functions_coded, parameters_fit, slots_inside}
use Rattle.target_laws.proofs.Places.{code_at}
use Rattle.target_laws.proofs.SeenFrames.{mark_in}
use Rattle.target_laws.proofs.Slices.{length_set}
use Rattle.target_laws.proofs.Threads.{thread_stands, turn_leads_on}
use Rattle.thread_turns.specs.Now.{CallFits, IsPlain}
use Rattle.thread_turns.specs.Turns.{IsBehind, IsInPhase, IsPlacedAt, IsSameButWhere, MakesTurn, OnWay, TurnsTo, few, many}
use Rattle.thread_turns.proofs.ArrivesSoon.{arrives_soon}
use Rattle.thread_turns.proofs.MidLemmas.{leads_none, leads_one, leads_over, code_is_of, top_fits}

-- two machines with which a run goes on are one
goes_is : (a b : Machine) → Goes a ≡ Goes b → a ≡ b
goes_is a b e = cc

over_goes : {X : Type 0} (r : Ran) (m : Machine) → Over r ≡ Goes m → X
over_goes r m e = absurd (let z : ⊥ = cc in z)

-- where a run goes on behind the top operand, it is there
top_goes : (P : Machine → Type 0) (ops : List ℤ) (next : ℤ → List ℤ → Did) (to : Machine) → ((v : ℤ) (rest : List ℤ) → next v rest ≡ Goes to → P to) → on_top ops next ≡ Goes to → P to
top_goes P [] next to h e = over_goes Stuck to e
top_goes P (v ∷ rest) next to h e = h v rest e

-- where a run goes on behind a result, there is a value
result_goes : {A : Type 0} (P : Machine → Type 0) (r : Result A Trap) (count : ℕ) (next : A → Did) (to : Machine) → ((x : A) → next x ≡ Goes to → P to) → on_result r count next ≡ Goes to → P to
result_goes P (Ok x) count next to h e = h x e
result_goes P (Err cause) count next to h e = over_goes _ to e

-- an instruction changes position, operands and count alone, and is counted
pub record Steps (a b : Machine) : Type 0 where
  pub same : IsSameButWhere a b
  pub count : b.count ≡ a.count + 1

steps_to : (a b c : Machine) → Steps a b → Goes b ≡ Goes c → Steps a c
steps_to a b c h e = subst (λ k. Steps a k) (goes_is b c e) h

-- so do the plain ones
pub plain_steps : (w : Setting) (x : Instr) (m to : Machine) → IsPlain x → w.flag ≡ false → m.mode ≡ Running → act w (Some x) m ≡ Goes to → Steps m to
plain_steps w (i.Const v) m to p f r e = steps_to m _ to (record { same = refl; count = refl }) e
plain_steps w (i.Get k) m to p f r e = steps_to m _ to (record { same = refl; count = refl }) e
plain_steps w (i.Gget g) m to p f r e = steps_to m _ to (record { same = refl; count = refl }) e
plain_steps w (i.Aget g) m to p f r e = top_goes (λ t. Steps m t) m.operands _ to (λ v rest h. result_goes (λ t. Steps m t) _ (m.count + 1) _ to (λ u q. steps_to m _ to (record { same = refl; count = refl }) q) h) e
plain_steps w (i.Fget owner field) m to p f r e = top_goes (λ t. Steps m t) m.operands _ to (λ v rest h. result_goes (λ t. Steps m t) _ (m.count + 1) _ to (λ u q. steps_to m _ to (record { same = refl; count = refl }) q) h) e
plain_steps w (i.Un op) m to p f r e = top_goes (λ t. Steps m t) m.operands _ to (λ v rest h. steps_to m _ to (record { same = refl; count = refl }) h) e
plain_steps w (i.Bin op) m to p f r e = top_goes (λ t. Steps m t) m.operands _ to (λ v more h. top_goes (λ t. Steps m t) more _ to (λ u rest q. result_goes (λ t. Steps m t) _ (m.count + 1) _ to (λ z s. steps_to m _ to (record { same = refl; count = refl }) s) q) h) e
plain_steps w (i.Jump at) m to p f r e = steps_to m _ to (record { same = refl; count = refl }) e
plain_steps w (i.Jz at) m to p f r e = top_goes (λ t. Steps m t) m.operands _ to (λ v rest h. steps_to m _ to (record { same = refl; count = refl }) h) e
plain_steps w i.Restore m to p f r e = steps_to m (advance m) to (record { same = refl; count = refl }) (sym (ap (λ k. restore k (function_in w.code m.function) m) r) ∙ e)
plain_steps w (i.Flag n) m to p f r e = steps_to m (advance m) to (record { same = refl; count = refl }) (sym (ap (λ k. act (record w { flag = k }) (Some (i.Flag n)) m) f) ∙ e)
plain_steps w _ m to p f r e = absurd p

-- an effect keeps the function, the number of slots, and the threads, goes one instruction on, and
-- is counted
pub record Affects (a b : Machine) : Type 0 where
  pub function : b.function ≡ a.function
  pub slots : length b.slots ≡ length a.slots
  pub pc : b.pc ≡ a.pc + 1
  pub count : b.count ≡ a.count + 1
  pub marks : b.memory.marks ≡ a.memory.marks

affects_to : (a b c : Machine) → Affects a b → Goes b ≡ Goes c → Affects a c
affects_to a b c h e = subst (λ k. Affects a k) (goes_is b c e) h

-- where one of two ways goes on
if_goes : (P : Machine → Type 0) (c : Bool) (a b : Did) (to : Machine) → (a ≡ Goes to → P to) → (b ≡ Goes to → P to) → (if c then a else b) ≡ Goes to → P to
if_goes P true a b to h k e = h e
if_goes P false a b to h k e = k e

takes_affects : (b : Bool) (st : State) (m to : Machine) → takes b st m ≡ Goes to → Affects m to
takes_affects true st m to e = affects_to m _ to (record { function = refl; slots = refl; pc = refl; count = refl; marks = refl }) e
takes_affects false st m to e = over_goes _ to e

joins_affects : (w : Setting) (v : ℤ) (rest : List ℤ) (m to : Machine) → joins w v rest m ≡ Goes to → Affects m to
joins_affects w (pos u) rest m to e =
    if_goes (λ t. Affects m t) (u == w.number) _ _ to (λ q. over_goes _ to q)
    (λ q. if_goes (λ t. Affects m t) (is_live_in m.memory.marks u) _ _ to (λ z. over_goes _ to z)
    (λ z. if_goes (λ t. Affects m t) (nat_lt u (length m.memory.marks)) _ _ to
    (λ s. affects_to m _ to (record { function = refl; slots = refl; pc = refl; count = refl; marks = refl }) s)
    (λ s. over_goes _ to s) z) q) e
joins_affects w (negsuc u) rest m to e = over_goes _ to e

after_affects : (n : ℕ) (o : Option ℕ) (m to : Machine) → Goes (result_to o (advance m)) ≡ Goes to → Affects m to
after_affects n None m to e = affects_to m _ to (record { function = refl; slots = refl; pc = refl; count = refl; marks = refl }) e
after_affects n (Some k) m to e = affects_to m _ to (record { function = refl; slots = length_set m.slots k m.returned; pc = refl; count = refl; marks = refl }) e

-- so do the instructions with an effect
pub effect_affects : (w : Setting) (x : Instr) (m to : Machine) → HasEffect x → m.mode ≡ Running → act w (Some x) m ≡ Goes to → Affects m to
effect_affects w (i.After n o) m to p r e = after_affects n o m to (sym (ap (λ k. after k n o m) r) ∙ e)
effect_affects w (i.Set k) m to p r e = top_goes (λ t. Affects m t) m.operands _ to (λ v rest h. affects_to m _ to (record { function = refl; slots = length_set m.slots k v; pc = refl; count = refl; marks = refl }) h) e
effect_affects w (i.Gset g) m to p r e = top_goes (λ t. Affects m t) m.operands _ to (λ v rest h. affects_to m _ to (record { function = refl; slots = refl; pc = refl; count = refl; marks = refl }) h) e
effect_affects w (i.Aset g) m to p r e = top_goes (λ t. Affects m t) m.operands _ to (λ v more h. top_goes (λ t. Affects m t) more _ to (λ u rest q. result_goes (λ t. Affects m t) _ (m.count + 1) _ to (λ z s. affects_to m _ to (record { function = refl; slots = refl; pc = refl; count = refl; marks = refl }) s) q) h) e
effect_affects w (i.Fset owner field) m to p r e = top_goes (λ t. Affects m t) m.operands _ to (λ v more h. top_goes (λ t. Affects m t) more _ to (λ u rest q. result_goes (λ t. Affects m t) _ (m.count + 1) _ to (λ z s. affects_to m _ to (record { function = refl; slots = refl; pc = refl; count = refl; marks = refl }) s) q) h) e
effect_affects w (i.New owner) m to p r e = result_goes (λ t. Affects m t) _ (m.count + 1) _ to (λ z s. affects_to m _ to (record { function = refl; slots = refl; pc = refl; count = refl; marks = refl }) s) e
effect_affects w i.Getc m to p r e = affects_to m _ to (record { function = refl; slots = refl; pc = refl; count = refl; marks = refl }) e
effect_affects w i.Free m to p r e = top_goes (λ t. Affects m t) m.operands _ to (λ v rest h. result_goes (λ t. Affects m t) _ (m.count + 1) _ to (λ z s. affects_to m _ to (record { function = refl; slots = refl; pc = refl; count = refl; marks = refl }) s) h) e
effect_affects w (i.Print k) m to p r e = result_goes (λ t. Affects m t) _ (m.count + 1) _ to (λ z s. affects_to m _ to (record { function = refl; slots = refl; pc = refl; count = refl; marks = refl }) s) e
effect_affects w (i.Lock k) m to p r e = result_goes (λ t. Affects m t) _ (m.count + 1) _ to (λ (z : Bool × State) s. takes_affects z.0 z.1 m to s) e
effect_affects w (i.Unlock k) m to p r e = result_goes (λ t. Affects m t) _ (m.count + 1) _ to (λ z s. affects_to m _ to (record { function = refl; slots = refl; pc = refl; count = refl; marks = refl }) s) e
effect_affects w i.Join m to p r e = top_goes (λ t. Affects m t) m.operands _ to (λ v rest h. joins_affects w v rest m to h) e
effect_affects w _ m to p r e = absurd p

-- a calm instruction that is plain goes one instruction on
calm_pc : (w : Setting) (x : Instr) (m to : Machine) → IsPlain x → IsCalm (Some x) → m.mode ≡ Running → act w (Some x) m ≡ Goes to → to.pc ≡ m.pc + 1
calm_pc w i.Restore m to p c r e = sym (ap (λ (k : Machine). k.pc) (goes_is (advance m) to (sym (ap (λ k. restore k (function_in w.code m.function) m) r) ∙ e)))
calm_pc w (i.After n o) m to p c r e = absurd p
calm_pc w (i.Set k) m to p c r e = absurd p
calm_pc w (i.Gset g) m to p c r e = absurd p
calm_pc w _ m to p c r e = absurd c

jump_pc : (w : Setting) (x : Instr) (at : ℕ) (m to : Machine) → Some x ≡ Some (i.Jump at) → act w (Some x) m ≡ Goes to → to.pc ≡ at
jump_pc w x at m to j e =
    let is : act w (Some (i.Jump at)) m ≡ Goes to = sym (ap (λ o. act w o m) j) ∙ e in
    sym (ap (λ (k : Machine). k.pc) (goes_is (record (advance m) { pc = at }) to is))

plain_no_mark : (x : Instr) → IsPlain x → IsMark (Some x) → ⊥
plain_no_mark (i.Mark n) p k = p
plain_no_mark _ p k = k

-- behind a plain instruction fewer instructions lead to the mark
arrives_plain : (w : Setting) (body : List Instr) (k : ℕ) (x : Instr) (m to : Machine) → slice_get body m.pc ≡ Some x → IsPlain x → m.mode ≡ Running → act w (Some x) m ≡ Goes to → Arrives body k m.pc → (j : ℕ) × (suc j ≡ k) × Arrives body j to.pc
arrives_plain w body zero x m to is p r e h = absurd (plain_no_mark x p (subst IsMark is h))
arrives_plain w body (suc k) x m to is p r e (inl h) =
    (k, refl, subst (λ n. Arrives body k n) (sym (calm_pc w x m to p (subst IsCalm is h.0) r e)) h.1)
arrives_plain w body (suc k) x m to is p r e (inr h) =
    (k, refl, subst (λ n. Arrives body k n) (sym (jump_pc w x h.0 m to (sym is ∙ h.1) e)) h.2)

-- a plain instruction leads on, in the same phase
plain_phase : (code : TargetCode) (t : ℕ) (x : Target) (memory : Memory) (room : ℕ) (instr : Instr) (m to : Machine) → instr_at (calm code t) m ≡ Some instr → IsPlain instr → m.mode ≡ Running → act (calm code t) (Some instr) m ≡ Goes to → IsInPhase code x memory m room → IsInPhase code x memory to room
plain_phase code t x memory room instr m to is p r e (inl h) =
    let s = plain_steps (calm code t) instr m to p refl r e in
    inl (h.0, s.same ∙ ap (λ (k : Machine). record k { pc = to.pc; operands = to.operands; count = to.count }) h.1)
plain_phase code t x memory room instr m to is p r e (inr h) =
    let s = plain_steps (calm code t) instr m to p refl r e in
    let q = arrives_plain (calm code t) (function_in code m.function).body h.1.0 instr m to is p r e h.1.1 in
    let function : to.function ≡ m.function = ap (λ (k : Machine). k.function) s.same in
    let count = s.count in
    let less = q.1 in
    let before = h.1.2 in
    inr (h.0, (q.0, subst (λ f. Arrives (function_in code f).body q.0 to.pc) (sym function) q.2, omega (arith, count, less, before)))

-- a thread is on its way behind a plain instruction
pub way_plain : (code : TargetCode) (t : ℕ) (x0 : Target) (memory0 : Memory) (steps place marked room : ℕ) (instr : Instr) (m to : Machine) → instr_at (calm code t) m ≡ Some instr → IsPlain instr → m.mode ≡ Running → act (calm code t) (Some instr) m ≡ Goes to → OnWay code t x0 memory0 steps place marked room m → OnWay code t x0 memory0 steps place marked room to
way_plain code t x0 memory0 steps place marked room instr m to is p r e o =
    let w = calm code t in
    let s = plain_steps w instr m to p refl r e in
    let function : to.function ≡ m.function = ap (λ (k : Machine). k.function) s.same in
    let slots : length to.slots ≡ length m.slots = ap (λ (k : Machine). length k.slots) s.same in
    record {
      x = o.x;
      memory = o.memory;
      turns = o.turns;
      thread = o.thread;
      counted = o.counted;
      placed = o.placed;
      leads = leads_one w (advance (machine_of o.x o.memory)) m to o.leads (ap (λ k. act w k m) is ∙ e);
      within = subst (λ f. f < length o.thread.program.functions) (sym function) o.within;
      fits = slots ∙ (o.fits ∙ sym (ap (λ f. length (function_of o.thread.program f).slots) function));
      marks = ap (λ (k : Machine). k.memory.marks) s.same ∙ o.marks;
      phase = plain_phase code t o.x o.memory room instr m to is p r e o.phase;
    }

-- the mark at which a thread runs is the one that its function's marks name
mark_named : (p : Lifted) (f : Frame) (pc n : ℕ) → Stands p f pc → slice_get (body_at p f.function) pc ≡ Some (i.Mark n) → f.place ≡ n
mark_named p f pc n s e =
    let both : Some (i.Mark f.place) ≡ Some (i.Mark n) = sym (mark_in p f pc s) ∙ e in
    cc

placed_in : (p : Lifted) (f : Frame) (pc : ℕ) → Stands p f pc → slice_get (function_in (code_of p) f.function).marks f.place ≡ Some pc
placed_in p f pc s =
    ap (λ (k : CodeFunction). slice_get k.marks f.place) (code_at p f.function s.fits.within).is ∙ s.mark

pub placed_at : (code : TargetCode) (p : Lifted) (x : Target) (n : ℕ) → code ≡ code_of p → IsRunning p x → slice_get (function_in code (top_of x.activations).function).body (top_of x.activations).pc ≡ Some (i.Mark n) → IsPlacedAt code (top_of x.activations) n
placed_at code p x n c r e =
    let y = top_of x.activations in
    let top : y ≡ activation (record { frame = r.frame; pc = r.pc }) = ap (λ (y : Target). top_of y.activations) r.is in
    let function : y.function ≡ r.frame.function = ap (λ (a : Activation). a.function) top in
    let pc : y.pc ≡ r.pc = ap (λ (a : Activation). a.pc) top in
    let in_code : slice_get (body_at p r.frame.function) r.pc ≡ Some (i.Mark n) =
    ap (λ k. slice_get (function_in (code_of p) r.frame.function).body k) (sym pc) ∙ (ap (λ f. slice_get (function_in (code_of p) f).body y.pc) (sym function) ∙ (ap (λ k. slice_get (function_in k y.function).body y.pc) (sym c) ∙ e)) in
    let named = mark_named p r.frame r.pc n r.stands in_code in
    ap (λ k. slice_get (function_in k y.function).marks n) c ∙ (ap (λ f. slice_get (function_in (code_of p) f).marks n) function ∙ (ap (λ k. slice_get (function_in (code_of p) r.frame.function).marks k) (sym named) ∙ (placed_in p r.frame r.pc r.stands ∙ ap Some (sym pc))))

-- a turn is made up to a mark
pub way_turns : (code : TargetCode) (t : ℕ) (x0 : Target) (memory0 : Memory) (steps place marked room n : ℕ) (m : Machine) → instr_at (calm code t) m ≡ Some (i.Mark n) → OnWay code t x0 memory0 steps place marked room m → TurnsTo (calm code t) (suc steps) x0 memory0 (target_of m) m.memory × IsThreadOf code t (target_of m) m.memory
way_turns code t x0 memory0 steps place marked room n m is o =
    let w = calm code t in
    let stops = leads_over w (advance (machine_of o.x o.memory)) m (Stopped m) o.leads (ap (λ k. act w k m) is) in
    let made : MakesTurn w o.x o.memory (target_of m) m.memory = record { fuel = stops.0; machine = m; stops = stops.1; thread = refl; memory_is = refl } in
    ((o.x, o.memory, o.turns, made), turn_leads_on code t o.x o.memory stops.0 m o.thread stops.1 o.marks)

-- from there the thread is on its way again
pub way_mark : (code : TargetCode) (t : ℕ) (x0 : Target) (memory0 : Memory) (steps place marked room n : ℕ) (m : Machine) → instr_at (calm code t) m ≡ Some (i.Mark n) → OnWay code t x0 memory0 steps place marked room m → OnWay code t x0 memory0 (suc steps) n m.count few (advance (machine_of (target_of m) m.memory))
way_mark code t x0 memory0 steps place marked room n m is o =
    let w = calm code t in
    let made = way_turns code t x0 memory0 steps place marked room n m is o in
    let thread = made.1 in
    let r = thread_stands code t (target_of m) m.memory thread in
    let function : m.function ≡ r.frame.function = ap (λ (y : Target). (top_of y.activations).function) r.is in
    record {
      x = target_of m;
      memory = m.memory;
      turns = made.0;
      thread = thread;
      counted = refl;
      placed = placed_at code thread.program (target_of m) n (code_is_of code t (target_of m) m.memory thread) r is;
      leads = leads_none w (advance (machine_of (target_of m) m.memory));
      within = subst (λ f. f < length thread.program.functions) (sym function) r.stands.fits.within;
      fits = top_fits thread.program (target_of m) r;
      marks = refl;
      phase = inl (refl, refl);
    }

calm_behind : (x : Instr) → IsCalm (Some x) → IsBehind x
calm_behind i.Restore c = tt
calm_behind (i.After n to) c = tt
calm_behind (i.Set k) c = tt
calm_behind (i.Gset g) c = tt
calm_behind _ c = absurd c

abbrev IsBehindSome : Option Instr → Type 0
IsBehindSome (Some x) = IsBehind x
IsBehindSome None = ⊥

jump_behind : (x : Instr) (to : ℕ) → Some x ≡ Some (i.Jump to) → IsBehind x
jump_behind x to e = subst IsBehindSome (sym e) tt

pub ends_arriving : (body : List Instr) (k at : ℕ) (x : Instr) → slice_get body at ≡ Some x → (IsBehind x → ⊥) → (IsMark (Some x) → ⊥) → Arrives body k at → ⊥
ends_arriving body zero at x is no_behind no_mark h = no_mark (subst IsMark is h)
ends_arriving body (suc k) at x is no_behind no_mark (inl h) = no_behind (calm_behind x (subst IsCalm is h.0))
ends_arriving body (suc k) at x is no_behind no_mark (inr h) = no_behind (jump_behind x h.0 (sym is ∙ h.1))

-- where the turn ends in an instruction that stands behind no effect, the thread makes its operands
pub ends_evaluating : (code : TargetCode) (x : Target) (memory : Memory) (room : ℕ) (instr : Instr) (m : Machine) → slice_get (function_in code m.function).body m.pc ≡ Some instr → (IsBehind instr → ⊥) → (IsMark (Some instr) → ⊥) → IsInPhase code x memory m room → IsSameButWhere (machine_of x memory) m
ends_evaluating code x memory room instr m is no_behind no_mark (inl h) = h.1
ends_evaluating code x memory room instr m is no_behind no_mark (inr h) = absurd (ends_arriving (function_in code m.function).body h.1.0 m.pc instr is no_behind no_mark h.1.1)

effect_no_mark : (x : Instr) → HasEffect x → IsMark (Some x) → ⊥
effect_no_mark (i.Mark n) p k = p
effect_no_mark _ p k = k

abbrev HasEffectSome : Option Instr → Type 0
HasEffectSome (Some x) = HasEffect x
HasEffectSome None = ⊥

effect_no_jump : (x : Instr) (to : ℕ) → HasEffect x → Some x ≡ Some (i.Jump to) → ⊥
effect_no_jump x to p e = subst HasEffectSome e p

-- behind an effect from which instructions lead to the mark fewer lead there
arrives_effect : (body : List Instr) (k at : ℕ) (x : Instr) → slice_get body at ≡ Some x → HasEffect x → Arrives body k at → (j : ℕ) × (suc j ≡ k) × Arrives body j (at + 1)
arrives_effect body zero at x is p h = absurd (effect_no_mark x p (subst IsMark is h))
arrives_effect body (suc k) at x is p (inl h) = (k, refl, h.1)
arrives_effect body (suc k) at x is p (inr h) = absurd (effect_no_jump x h.0 p (sym is ∙ h.1))

-- behind an effect nothing can fail up to the mark
effect_phase : (code : TargetCode) (p : Lifted) (x : Target) (memory : Memory) (room : ℕ) (instr : Instr) (m to : Machine) → IsFormed p → code ≡ code_of p → length (function_in code m.function).body < 1152921504606846976 → slice_get (function_in code m.function).body m.pc ≡ Some instr → HasEffect instr → Affects m to → m.count < room → IsInPhase code x memory m room → IsInPhase code x memory to many
effect_phase code p x memory room instr m to formed c short is ef a low (inl h) =
    let body = (function_in code m.function).body in
    let in_code : slice_get (body_at p m.function) m.pc ≡ Some instr = ap (λ k. slice_get (function_in k m.function).body m.pc) (sym c) ∙ is in
    let arrives : IsArriving body (m.pc + 1) = subst (λ k. IsArriving (function_in k m.function).body (m.pc + 1)) (sym c) (effects_arrive p m.function m.pc instr formed in_code ef) in
    let soon = arrives_soon body arrives.0 (m.pc + 1) arrives.1 in
    let here : Arrives body soon.0 to.pc = subst (λ n. Arrives body soon.0 n) (sym a.pc) soon.2 in
    let count = a.count in
    let bound = soon.1 in
    let is_few = h.0 in
    inr (refl, (soon.0, subst (λ f. Arrives (function_in code f).body soon.0 to.pc) (sym a.function) here, omega (arith, count, bound, is_few, low, short)))
effect_phase code p x memory room instr m to formed c short is ef a low (inr h) =
    let body = (function_in code m.function).body in
    let q = arrives_effect body h.1.0 m.pc instr is ef h.1.1 in
    let here : Arrives body q.0 to.pc = subst (λ n. Arrives body q.0 n) (sym a.pc) q.2 in
    let count = a.count in
    let less = q.1 in
    let before = h.1.2 in
    inr (refl, (q.0, subst (λ f. Arrives (function_in code f).body q.0 to.pc) (sym a.function) here, omega (arith, count, less, before)))

-- a thread is on its way behind an effect
pub way_effect : (code : TargetCode) (t : ℕ) (x0 : Target) (memory0 : Memory) (steps place marked room : ℕ) (instr : Instr) (m to : Machine) → length (function_in code m.function).body < 1152921504606846976 → instr_at (calm code t) m ≡ Some instr → HasEffect instr → m.mode ≡ Running → m.count < room → act (calm code t) (Some instr) m ≡ Goes to → OnWay code t x0 memory0 steps place marked room m → OnWay code t x0 memory0 steps place marked many to
way_effect code t x0 memory0 steps place marked room instr m to short is ef r low e o =
    let w = calm code t in
    let a = effect_affects w instr m to ef r e in
    record {
      x = o.x;
      memory = o.memory;
      turns = o.turns;
      thread = o.thread;
      counted = o.counted;
      placed = o.placed;
      leads = leads_one w (advance (machine_of o.x o.memory)) m to o.leads (ap (λ k. act w k m) is ∙ e);
      within = subst (λ f. f < length o.thread.program.functions) (sym a.function) o.within;
      fits = a.slots ∙ (o.fits ∙ sym (ap (λ f. length (function_of o.thread.program f).slots) a.function));
      marks = a.marks ∙ o.marks;
      phase = effect_phase code o.thread.program o.x o.memory room instr m to o.thread.between.formed (code_is_of code t o.x o.memory o.thread) short is ef a low o.phase;
    }

-- a call pushes the function's activation at its start
pub record Enters (w : Setting) (g : ℕ) (a b : Machine) : Type 0 where
  pub function : b.function ≡ g
  pub pc : b.pc ≡ 0
  pub count : b.count ≡ a.count + 1
  pub memory : b.memory ≡ a.memory
  pub slots : let args = reverse (take (function_in w.code g).params a.operands) in b.slots ≡ args ++ replicate ((function_in w.code g).slots - length args) (pos 0)

pub pushed_enters : (w : Setting) (b : Bool) (g : ℕ) (m to : Machine) → pushed b (function_in w.code g) g m ≡ Goes to → Enters w g m to
pushed_enters w true g m to e = subst (λ k. Enters w g m k) (goes_is _ to e) (record { function = refl; pc = refl; count = refl; memory = refl; slots = refl })
pushed_enters w false g m to e = over_goes _ to e

-- the slots of a called function are as many as it has
entered_slots : (params slots : ℕ) (ops : List ℤ) → params ≤ slots → length (reverse (take params ops) ++ replicate (slots - length (reverse (take params ops))) (pos 0)) ≡ slots
entered_slots params slots ops h =
    let args = reverse (take params ops) in
    let few : length args ≤ params = let e = length-reverse (take params ops) ∙ length-take params ops in omega (arith, e) in
    let long = length-append args (replicate (slots - length args) (pos 0)) in
    let rest = length-replicate (slots - length args) (pos 0) in
    long ∙ (ap (λ n. length args + n) rest ∙ (omega (arith, few, h)))

-- a function that the code calls is one of the program's, with the parameters and slots of its own
pub called_within : (p : Lifted) (code : TargetCode) (m : Machine) (g : ℕ) → IsFormed p → code ≡ code_of p → slice_get (function_in code m.function).body m.pc ≡ Some (i.Call g) → g < length p.functions
called_within p code m g formed c is =
    slots_inside p m.function m.pc (i.Call g) formed (ap (λ k. slice_get (function_in k m.function).body m.pc) (sym c) ∙ is)

called_slots : (p : Lifted) (code : TargetCode) (g : ℕ) → IsFormed p → code ≡ code_of p → g < length p.functions → ((function_in code g).params ≤ (function_in code g).slots) × ((function_in code g).slots ≡ length (function_of p g).slots) × ((function_in code g).slots ≤ max_slots)
called_slots p code g formed c within =
    let coded = (functions_coded p).1 g within in
    let fit = parameters_fit p g formed within in
    let params : (function_in code g).params ≡ (function_of p g).params = ap (λ k. (function_in k g).params) c ∙ coded.0 in
    let slots : (function_in code g).slots ≡ length (function_of p g).slots = ap (λ k. (function_in k g).slots) c ∙ coded.1 in
    let most = fit.0 in
    let some = fit.1 in
    (omega (arith, params, slots, most), slots, subst (λ n. n ≤ max_slots) (sym slots) some)

-- a called function fits, so that it can be pushed
pub way_fits : (code : TargetCode) (t : ℕ) (x0 : Target) (memory0 : Memory) (steps place marked room g : ℕ) (m : Machine) → instr_at (calm code t) m ≡ Some (i.Call g) → OnWay code t x0 memory0 steps place marked room m → CallFits code g
way_fits code t x0 memory0 steps place marked room g m is o =
    let p = o.thread.program in
    let c = code_is_of code t o.x o.memory o.thread in
    let formed = o.thread.between.formed in
    let within = called_within p code m g formed c is in
    let s = called_slots p code g formed c within in
    record {
      within = subst (λ n. g < n) (sym (ap (λ k. length k.functions) c ∙ (functions_coded p).0)) within;
      parameters = s.0;
      slots = s.2;
    }

-- behind an instruction that stands behind no effect a few instructions lead to the mark
entered_phase : (code : TargetCode) (x : Target) (memory : Memory) (room : ℕ) (instr : Instr) (m to : Machine) → slice_get (function_in code m.function).body m.pc ≡ Some instr → (IsBehind instr → ⊥) → (IsMark (Some instr) → ⊥) → to.count ≡ m.count + 1 → (k : ℕ) → k ≤ length (function_in code to.function).body → length (function_in code to.function).body < 1152921504606846976 → Arrives (function_in code to.function).body k to.pc → m.count < room → IsInPhase code x memory m room → IsInPhase code x memory to many
entered_phase code x memory room instr m to is no_behind no_mark count k bound short here low (inl h) =
    let is_few = h.0 in
    inr (refl, (k, here, omega (arith, count, bound, is_few, low, short)))
entered_phase code x memory room instr m to is no_behind no_mark count k bound short here low (inr h) =
    absurd (ends_arriving (function_in code m.function).body h.1.0 m.pc instr is no_behind no_mark h.1.1)

-- a thread is on its way behind a call
pub way_call : (code : TargetCode) (t : ℕ) (x0 : Target) (memory0 : Memory) (steps place marked room g : ℕ) (m to : Machine) → length (function_in code g).body < 1152921504606846976 → instr_at (calm code t) m ≡ Some (i.Call g) → m.count < room → act (calm code t) (Some (i.Call g)) m ≡ Goes to → OnWay code t x0 memory0 steps place marked room m → OnWay code t x0 memory0 steps place marked many to
way_call code t x0 memory0 steps place marked room g m to short is low e o =
    let w = calm code t in
    let p = o.thread.program in
    let c = code_is_of code t o.x o.memory o.thread in
    let formed = o.thread.between.formed in
    let within = called_within p code m g formed c is in
    let s = called_slots p code g formed c within in
    let q : Enters w g m to = pushed_enters w _ g m to e in
    let arrives : IsArriving (function_in code g).body 0 = subst (λ k. IsArriving (function_in k g).body 0) (sym c) (functions_arrive p g within) in
    let soon = arrives_soon (function_in code g).body arrives.0 0 arrives.1 in
    let here : Arrives (function_in code to.function).body soon.0 to.pc = subst (λ f. Arrives (function_in code f).body soon.0 to.pc) (sym q.function) (subst (λ n. Arrives (function_in code g).body soon.0 n) (sym q.pc) soon.2) in
    let slots : length to.slots ≡ (function_in code g).slots = ap length q.slots ∙ entered_slots (function_in code g).params (function_in code g).slots m.operands s.0 in
    record {
      x = o.x;
      memory = o.memory;
      turns = o.turns;
      thread = o.thread;
      counted = o.counted;
      placed = o.placed;
      leads = leads_one w (advance (machine_of o.x o.memory)) m to o.leads (ap (λ k. act w k m) is ∙ e);
      within = subst (λ f. f < length p.functions) (sym q.function) within;
      fits = slots ∙ (s.1 ∙ sym (ap (λ f. length (function_of p f).slots) q.function));
      marks = ap (λ (k : Memory). k.marks) q.memory ∙ o.marks;
      phase = entered_phase code o.x o.memory room (i.Call g) m to is (λ b. b) (λ b. b) q.count soon.0 (subst (λ f. soon.0 ≤ length (function_in code f).body) (sym q.function) soon.1) (subst (λ f. length (function_in code f).body < 1152921504606846976) (sym q.function) short) here low o.phase;
    }

-- the innermost waiting activation is of a function of the program, and has its slots
pub first_wait : (p : Lifted) (ws : List Wait) (a : Activation) (rest : List Activation) → AllWait p ws → acts ws ≡ a ∷ rest → (a.function < length p.functions) × (length a.slots ≡ length (function_of p a.function).slots)
first_wait p [] a rest h e = cc
first_wait p (x ∷ ws) a rest h e =
    let same : activation x ≡ a = ap (λ l. top_of l) e in
    subst (λ (k : Activation). (k.function < length p.functions) × (length k.slots ≡ length (function_of p k.function).slots)) same (h.0.fits.within, h.0.fits.slots)

-- a return goes on with the activation below
pub record Returns (a b : Machine) : Type 0 where
  pub below : Activation
  pub rest : List Activation
  pub is : a.below ≡ below ∷ rest
  pub function : b.function ≡ below.function
  pub pc : b.pc ≡ below.pc
  pub slots : b.slots ≡ below.slots
  pub count : b.count ≡ a.count + 1
  pub memory : b.memory ≡ a.memory

dropped_returns : (bs : List Activation) (m from to : Machine) (last : Ran) → m.below ≡ bs → from.count ≡ m.count + 1 → from.memory ≡ m.memory → dropped bs from last ≡ Goes to → Returns m to
dropped_returns [] m from to last b c k e = over_goes last to e
dropped_returns (a ∷ rest) m from to last b c k e =
    let is = goes_is (record from { function = a.function; pc = a.pc; slots = a.slots; below = rest }) to e in
    record {
      below = a;
      rest = rest;
      is = b;
      function = sym (ap (λ (z : Machine). z.function) is);
      pc = sym (ap (λ (z : Machine). z.pc) is);
      slots = sym (ap (λ (z : Machine). z.slots) is);
      count = sym (ap (λ (z : Machine). z.count) is) ∙ c;
      memory = sym (ap (λ (z : Machine). z.memory) is) ∙ k;
    }

pub ret_returns : (w : Setting) (m to : Machine) → act w (Some i.Ret) m ≡ Goes to → Returns m to
ret_returns w m to e = top_goes (λ z. Returns m z) m.operands _ to (λ v rest h. dropped_returns m.below m _ to (ended w v m) refl refl refl h) e

-- a thread is on its way behind a return to a caller
pub way_ret : (code : TargetCode) (t : ℕ) (x0 : Target) (memory0 : Memory) (steps place marked room : ℕ) (m to : Machine) → length (function_in code to.function).body < 1152921504606846976 → instr_at (calm code t) m ≡ Some i.Ret → m.count < room → act (calm code t) (Some i.Ret) m ≡ Goes to → OnWay code t x0 memory0 steps place marked room m → OnWay code t x0 memory0 steps place marked many to
way_ret code t x0 memory0 steps place marked room m to short is low e o =
    let w = calm code t in
    let p = o.thread.program in
    let c = code_is_of code t o.x o.memory o.thread in
    let q = ret_returns w m to e in
    let r = thread_stands code t o.x o.memory o.thread in
    let evaluating = ends_evaluating code o.x o.memory room i.Ret m is (λ b. b) (λ b. b) o.phase in
    let below : below_of o.x.activations ≡ q.below ∷ q.rest = sym (ap (λ (k : Machine). k.below) evaluating) ∙ q.is in
    let waits : acts r.waits ≡ q.below ∷ q.rest = sym (ap (λ (y : Target). below_of y.activations) r.is) ∙ below in
    let f = first_wait p r.waits q.below q.rest r.wait waits in
    let arrives_p = returns_arrive p o.x 0 q.below r (ap (λ l. slice_get l 0) below) in
    let arrives : IsArriving (function_in code q.below.function).body q.below.pc = subst (λ k. IsArriving (function_in k q.below.function).body q.below.pc) (sym c) arrives_p in
    let soon = arrives_soon (function_in code q.below.function).body arrives.0 q.below.pc arrives.1 in
    let here : Arrives (function_in code to.function).body soon.0 to.pc = subst (λ f. Arrives (function_in code f).body soon.0 to.pc) (sym q.function) (subst (λ n. Arrives (function_in code q.below.function).body soon.0 n) (sym q.pc) soon.2) in
    record {
      x = o.x;
      memory = o.memory;
      turns = o.turns;
      thread = o.thread;
      counted = o.counted;
      placed = o.placed;
      leads = leads_one w (advance (machine_of o.x o.memory)) m to o.leads (ap (λ k. act w k m) is ∙ e);
      within = subst (λ f. f < length p.functions) (sym q.function) f.0;
      fits = ap length q.slots ∙ (f.1 ∙ sym (ap (λ f. length (function_of p f).slots) q.function));
      marks = ap (λ (k : Memory). k.marks) q.memory ∙ o.marks;
      phase = entered_phase code o.x o.memory room i.Ret m to is (λ b. b) (λ b. b) q.count soon.0 (subst (λ f. soon.0 ≤ length (function_in code f).body) (sym q.function) soon.1) short here low o.phase;
    }
