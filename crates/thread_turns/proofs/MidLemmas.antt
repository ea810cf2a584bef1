-- A run that leads on, instruction by instruction, and what it finds there.
use Rattle.std.proofs.Common.{◌≡◌, ◌≢◌, ◌≤◌, ◌<◌, inl, inr, ℕ, suc, ◌+◌, ℤ, List, [], ◌∷◌, length, take, Option, Some, None, refl, sym, ap, ◌∙◌, subst, arith}
use Rattle.std.specs.Prelude.{slice_get}
use Rattle.std.proofs.lemmas.List.{length-reverse, length-take-le}
use Rattle.std.proofs.lemmas.Option.{slice_get_cases}
use Rattle.c_tree.specs.declared.lifted.Lifted.{Lifted}
use Rattle.c_tree.specs.Formed.{IsFormed}
use Rattle.c_tree.specs.Step.{function_of}
use Rattle.store_mem.specs.Memory.{Memory}
use Rattle.target_code.specs.declared.activation.Activation.{Activation}
use Rattle.target_code.specs.declared.instr.Instr.{Instr}
use Rattle.target_code.specs.declared.instr.Instr.TheVariants as i
use Rattle.target_code.specs.Between.{IsRunning, activation, body_at}
use Rattle.target_code.specs.Code.{TargetCode, code_of}
use Rattle.target_code.specs.Machine.{Setting, Machine, Ran, Did, Goes, Over, Stuck, act, advance, function_in, go, instr_at, led, machine_of, on_top}
use Rattle.target_code.specs.Target.{Target, top_of}
use Rattle.target_laws.specs.Effects.{LiesInside}
use Rattle.target_laws.specs.Rows.{IsThreadOf, calm}
use Rattle.target_laws.proofs.Inside.{slots_inside}
use Rattle.target_laws.proofs.Threads.{turn_never_stuck}
use Rattle.thread_turns.specs.declared.cursor.Cursor.{Cursor}
use Rattle.thread_turns.specs.Now.{NamesSlot, now, operands, popped}
use Rattle.thread_turns.specs.Turns.{IsBody, Leads, RunsTo}

-- a run leads from each machine to itself
pub leads_none : (w : Setting) (m : Machine) → Leads w m m
leads_none w m = record { steps = 0; same = λ k. let moved : 0 + k ≡ k = omega arith in ap (λ n. go w n m) moved }

-- one instruction more
pub leads_one : (w : Setting) (from m to : Machine) → Leads w from m → act w (instr_at w m) m ≡ Goes to → Leads w from to
leads_one w from m to h e = record {
  steps = h.steps + 1;
  same = λ k.
      let moved : h.steps + 1 + k ≡ h.steps + suc k = omega arith in
      ap (λ n. go w n from) moved ∙ (h.same (suc k) ∙ ap (λ d. led d (go w k)) e);
}

-- a run leads on
pub leads_on : (w : Setting) (from m to : Machine) → Leads w from m → Leads w m to → Leads w from to
leads_on w from m to a b = record {
  steps = a.steps + b.steps;
  same = λ k.
      let moved : a.steps + b.steps + k ≡ a.steps + (b.steps + k) = omega arith in
      ap (λ n. go w n from) moved ∙ (a.same (b.steps + k) ∙ b.same k);
}

-- an instruction ends a run that leads to it
pub leads_over : (w : Setting) (from m : Machine) (r : Ran) → Leads w from m → act w (instr_at w m) m ≡ Over r → RunsTo w from r
leads_over w from m r h e = (h.steps + 1, h.same 1 ∙ ap (λ d. led d (go w 0)) e)

-- the turn of a thread is never stuck
pub mid_never_stuck : (code : TargetCode) (t : ℕ) (x : Target) (memory : Memory) (m : Machine) → IsThreadOf code t x memory → Leads (calm code t) (advance (machine_of x memory)) m → act (calm code t) (instr_at (calm code t) m) m ≢ Over Stuck
mid_never_stuck code t x memory m h l e =
    let r = leads_over (calm code t) (advance (machine_of x memory)) m Stuck l e in
    turn_never_stuck code t x memory r.0 h r.1

-- what is there or not, of a list
there_or_not : {A : Type 0} (xs : List A) (n : ℕ) → (slice_get xs n ≢ None) → n < length xs
there_or_not xs n h = elim (slice_get_cases xs n).1 [ inl q ↦ q.1 | inr q ↦ absurd (h q.1) ]

-- an instruction is there
pub mid_inside : (code : TargetCode) (t : ℕ) (x : Target) (memory : Memory) (at : Cursor) (words : List ℤ) (frames : List Activation) (here : Memory) (body : List Instr) → IsBody code frames body → IsThreadOf code t x memory → Leads (calm code t) (advance (machine_of x memory)) (now at words frames here) → at.pc < length body
mid_inside code t x memory at words frames here body b h l =
    there_or_not body at.pc (λ e.
    let w = calm code t in
    let m = now at words frames here in
    let none : instr_at w m ≡ None = ap (λ k. slice_get k at.pc) (sym b) ∙ e in
    mid_never_stuck code t x memory m h l (ap (λ o. act w o m) none))

-- the top operand is there
one : (ops : List ℤ) (next : ℤ → List ℤ → Did) → on_top ops next ≢ Over Stuck → 1 ≤ length ops
one [] next h = absurd (h refl)
one (v ∷ rest) next h = omega arith

-- the two top operands are there
two : (ops : List ℤ) (next : ℤ → ℤ → List ℤ → Did) → on_top ops (λ v more. on_top more (λ u rest. next v u rest)) ≢ Over Stuck → 2 ≤ length ops
two [] next h = absurd (h refl)
two (v ∷ []) next h = absurd (h refl)
two (v ∷ u ∷ rest) next h = omega arith

-- an instruction that isn't stuck finds what it pops
pops : (w : Setting) (x : Instr) (m : Machine) → act w (Some x) m ≢ Over Stuck → popped x ≤ length m.operands
pops w (i.Set k) m h = one m.operands _ h
pops w (i.Gset g) m h = one m.operands _ h
pops w (i.Aget g) m h = one m.operands _ h
pops w (i.Aset g) m h = two m.operands _ h
pops w (i.Fget owner field) m h = one m.operands _ h
pops w (i.Fset owner field) m h = two m.operands _ h
pops w (i.Un op) m h = one m.operands _ h
pops w (i.Bin op) m h = two m.operands _ h
pops w (i.Jz to) m h = one m.operands _ h
pops w i.Ret m h = one m.operands _ h
pops w i.Free m h = one m.operands _ h
pops w i.Join m h = one m.operands _ h
pops w (i.Spawn g) m h = one m.operands _ h
pops w _ m h = omega arith

-- as many operands as there are
pub length_operands : (depth : ℕ) (words : List ℤ) → depth ≤ length words → length (operands depth words) ≡ depth
length_operands depth words h = length-reverse (take depth words) ∙ length-take-le depth words h

-- the instruction of a machine, as its function's body has it
pub mid_instr : (code : TargetCode) (t : ℕ) (at : Cursor) (words : List ℤ) (frames : List Activation) (here : Memory) (body : List Instr) (o : Option Instr) → IsBody code frames body → slice_get body at.pc ≡ o → instr_at (calm code t) (now at words frames here) ≡ o
mid_instr code t at words frames here body o b e = ap (λ l. slice_get l at.pc) (sym b) ∙ e

-- what an instruction pops is there
pub mid_pops : (code : TargetCode) (t : ℕ) (x : Target) (memory : Memory) (at : Cursor) (words : List ℤ) (frames : List Activation) (here : Memory) (body : List Instr) (instr : Instr) → IsBody code frames body → slice_get body at.pc ≡ Some instr → at.depth ≤ length words → IsThreadOf code t x memory → Leads (calm code t) (advance (machine_of x memory)) (now at words frames here) → popped instr ≤ at.depth
mid_pops code t x memory at words frames here body instr b e d h l =
    let w = calm code t in
    let m = now at words frames here in
    let is = mid_instr code t at words frames here body (Some instr) b e in
    let some = pops w instr m (λ z. mid_never_stuck code t x memory m h l (ap (λ o. act w o m) is ∙ z)) in
    let long = length_operands at.depth words d in
    omega (arith, some, long)

-- a slot that lies inside, of an activation
names : (p : Lifted) (n : ℕ) (x : Instr) (frames : List Activation) → LiesInside p n x → n ≡ length (top_of frames).slots → NamesSlot x frames
names p n (i.Get k) frames h e = subst (λ l. k < l) e h
names p n (i.Set k) frames h e = subst (λ l. k < l) e h
names p n (i.After place (Some k)) frames h e = subst (λ l. k < l) e h
names p n _ frames h e = tt

-- the innermost activation of a thread of the program has its function's slots
pub top_fits : (p : Lifted) (x : Target) → IsRunning p x → length (top_of x.activations).slots ≡ length (function_of p (top_of x.activations).function).slots
top_fits p x r =
    let top : top_of x.activations ≡ activation (record { frame = r.frame; pc = r.pc }) = ap (λ (y : Target). top_of y.activations) r.is in
    let slots = ap (λ (a : Activation). length a.slots) top in
    let function = ap (λ (a : Activation). length (function_of p a.function).slots) top in
    slots ∙ (r.stands.fits.slots ∙ sym function)

-- the code of a thread is that of its program
pub code_is_of : (code : TargetCode) (t : ℕ) (x : Target) (memory : Memory) → (h : IsThreadOf code t x memory) → code ≡ code_of h.program
code_is_of code t x memory h = sym h.code_is ∙ h.between.code

-- a body's instruction is one of the program's code
pub body_is_of : (p : Lifted) (code : TargetCode) (frames : List Activation) (body : List Instr) (n : ℕ) (o : Option Instr) → code ≡ code_of p → IsBody code frames body → slice_get body n ≡ o → slice_get (body_at p (top_of frames).function) n ≡ o
body_is_of p code frames body n o c b e = ap (λ k. slice_get (function_in k (top_of frames).function).body n) (sym c) ∙ (ap (λ l. slice_get l n) (sym b) ∙ e)

-- an instruction of a function with the slots of an activation names one of these
pub fits_names : (p : Lifted) (frames : List Activation) (n : ℕ) (instr : Instr) → IsFormed p → length (top_of frames).slots ≡ length (function_of p (top_of frames).function).slots → slice_get (body_at p (top_of frames).function) n ≡ Some instr → NamesSlot instr frames
fits_names p frames n instr formed fits e =
    names p (length (function_of p (top_of frames).function).slots) instr frames (slots_inside p (top_of frames).function n instr formed e) (sym fits)
