-- What a row keeps behind an instruction that isn't plain.
use Rattle.std.proofs.Common.{◌≡◌, ◌⊎◌, ◌≤◌, ◌<◌, inl, inr, ℕ, ◌+◌, ℤ, List, ◌∷◌, length, Some, refl, sym, ap, ◌∙◌, subst, arith}
use Rattle.std.specs.Prelude.{slice_index_or}
use Rattle.std.proofs.lemmas.Option.{slice_get_within}
use Rattle.c_tree.specs.declared.op.BinOp.{BinOp}
use Rattle.c_tree.specs.declared.op.UnOp.{UnOp}
use Rattle.store_mem.specs.Memory.{Memory}
use Rattle.target_code.specs.declared.activation.Activation.{Activation}
use Rattle.target_code.specs.declared.instr.Instr.{Instr}
use Rattle.target_code.specs.declared.instr.Instr.TheVariants as i
use Rattle.target_code.specs.Between.{acts}
use Rattle.target_code.specs.Code.{TargetCode}
use Rattle.target_code.specs.Machine.{Machine, Goes, act, function_in, instr_at, machine_of}
use Rattle.target_code.specs.Stack.{with_pc}
use Rattle.target_code.specs.Target.{Target, below_of, top_of}
use Rattle.target_laws.specs.Effects.{HasEffect, IsMark}
use Rattle.target_laws.specs.Rows.{calm}
use Rattle.target_laws.proofs.Inside.{functions_coded}
use Rattle.target_laws.proofs.Threads.{thread_stands}
use Rattle.thread_turns.specs.declared.cursor.Cursor.{Cursor}
use Rattle.thread_turns.specs.declared.cursor.Did.TheVariants as did
use Rattle.thread_turns.specs.declared.cursor.Kept.{Kept}
use Rattle.thread_turns.specs.declared.cursor.Stop.{Stop}
use Rattle.thread_turns.specs.declared.cursor.Stop.TheVariants as stop
use Rattle.thread_turns.specs.Now.{now}
use Rattle.thread_turns.specs.Turns.{CallsFit, IsBehind, IsBody, IsChange, IsDone, IsInPhase, IsRow, IsSameButWhere, IsWay, OnWay, TurnsTo, count_at, many, thread_of}
use Rattle.thread_turns.proofs.EndRowLemmas.{same_count, stopped_thread, way_ends}
use Rattle.thread_turns.proofs.MidLemmas.{code_is_of}
use Rattle.thread_turns.proofs.RowLemmas.{in_machine, room_le}
use Rattle.thread_turns.proofs.WayLemmas.{called_within, effect_affects, ends_evaluating, first_wait, pushed_enters, ret_returns, way_call, way_effect, way_fits, way_ret}

-- an instruction that isn't plain has an effect, or is a call, or a return
change_kind : (x : Instr) → IsChange x → HasEffect x ⊎ (((g : ℕ) × (x ≡ i.Call g)) ⊎ (x ≡ i.Ret))
change_kind (i.Set k) c = inl tt
change_kind (i.After n to) c = inl tt
change_kind (i.Gset g) c = inl tt
change_kind (i.Aset g) c = inl tt
change_kind (i.Fset owner field) c = inl tt
change_kind (i.Call g) c = inr (inl (g, refl))
change_kind i.Ret c = inr (inr refl)
change_kind (i.New owner) c = inl tt
change_kind i.Getc c = inl tt
change_kind i.Free c = inl tt
change_kind (i.Print k) c = inl tt
change_kind (i.Lock k) c = inl tt
change_kind (i.Unlock k) c = inl tt
change_kind i.Join c = inl tt
change_kind _ c = absurd c

pub change_no_mark : (x : Instr) → IsChange x → IsMark (Some x) → ⊥
change_no_mark (i.Mark n) p k = p
change_no_mark _ p k = k

exit_phase : (code : TargetCode) (x : Target) (memory : Memory) (m : Machine) (room : ℕ) → IsInPhase code x memory m room → room ≤ m.count → IsSameButWhere (machine_of x memory) m
exit_phase code x memory m room (inl h) full = h.1
exit_phase code x memory m room (inr h) full = let e = h.0 in let b = h.1.2 in absurd (omega (arith, e, b, full))

-- an instruction that is none of these isn't plain
pub other_change : (x : Instr) → ((n : ℕ) → x ≡ i.Mark n → ⊥) → ((n : ℕ) → x ≡ i.Flag n → ⊥) → (x ≡ i.Restore → ⊥) → ((n : ℤ) → x ≡ i.Const n → ⊥) → ((n : ℕ) → x ≡ i.Get n → ⊥) → ((n : ℕ) → x ≡ i.Gget n → ⊥) → ((n : ℕ) → x ≡ i.Aget n → ⊥) → ((n k : ℕ) → x ≡ i.Fget n k → ⊥) → ((n : UnOp) → x ≡ i.Un n → ⊥) → ((n : BinOp) → x ≡ i.Bin n → ⊥) → ((n : ℕ) → x ≡ i.Jump n → ⊥) → ((n : ℕ) → x ≡ i.Jz n → ⊥) → ((n : ℕ) → x ≡ i.Spawn n → ⊥) → IsChange x
other_change (i.Mark n) a b c d e f g h j k l m o = absurd (a n refl)
other_change (i.Flag n) a b c d e f g h j k l m o = absurd (b n refl)
other_change i.Restore a b c d e f g h j k l m o = absurd (c refl)
other_change (i.Const n) a b c d e f g h j k l m o = absurd (d n refl)
other_change (i.Get n) a b c d e f g h j k l m o = absurd (e n refl)
other_change (i.Gget n) a b c d e f g h j k l m o = absurd (f n refl)
other_change (i.Aget n) a b c d e f g h j k l m o = absurd (g n refl)
other_change (i.Fget n z) a b c d e f g h j k l m o = absurd (h n z refl)
other_change (i.Un n) a b c d e f g h j k l m o = absurd (j n refl)
other_change (i.Bin n) a b c d e f g h j k l m o = absurd (k n refl)
other_change (i.Jump n) a b c d e f g h j k l m o = absurd (l n refl)
other_change (i.Jz n) a b c d e f g h j k l m o = absurd (m n refl)
other_change (i.Spawn n) a b c d e f g h j k l m o = absurd (o n refl)
other_change _ a b c d e f g h j k l m o = tt

module _ {code : TargetCode} {t : ℕ} {x0 : Target} {memory0 : Memory} {body : List Instr} {place marked room most : ℕ} {kept : Kept} {at : Cursor} {words : List ℤ} {frames : List Activation} {memory : Memory} (v : IsWay code t x0 memory0 body place marked room most kept at words frames memory) where
  abbrev m : Machine
  m = now at words frames memory

  calls_of : (x : Instr) → instr_at (calm code t) m ≡ Some x → CallsFit code x
  calls_of (i.Call g) is = way_fits code t x0 memory0 kept.steps place marked room g m is v.way
  calls_of _ is = tt

  pub calls_fit : (d : Instr) → CallsFit code (slice_index_or body at.pc d)
  calls_fit d = calls_of (slice_index_or body at.pc d) (in_machine v d)

  -- the function that the thread goes on in is one of the program's
  within_of : (x : Instr) (to : Machine) → instr_at (calm code t) m ≡ Some x → act (calm code t) (Some x) m ≡ Goes to → HasEffect x ⊎ (((g : ℕ) × (x ≡ i.Call g)) ⊎ (x ≡ i.Ret)) → to.function < length v.way.thread.program.functions
  within_of x to is e (inl h) = subst (λ f. f < length v.way.thread.program.functions) (sym (effect_affects (calm code t) x m to h refl e).function) v.way.within
  within_of x to is e (inr (inl h)) =
      let p = v.way.thread.program in
      let is_call = is ∙ ap Some h.1 in
      let q = pushed_enters (calm code t) _ h.0 m to (sym (ap (λ k. act (calm code t) (Some k) m) h.1) ∙ e) in
      subst (λ f. f < length p.functions) (sym q.function) (called_within p code m h.0 v.way.thread.between.formed (code_is_of code t v.way.x v.way.memory v.way.thread) is_call)
  within_of x to is e (inr (inr h)) =
      let p = v.way.thread.program in
      let q = ret_returns (calm code t) m to (sym (ap (λ k. act (calm code t) (Some k) m) h) ∙ e) in
      let r = thread_stands code t v.way.x v.way.memory v.way.thread in
      let same = ends_evaluating code v.way.x v.way.memory room i.Ret m (is ∙ ap Some h) (λ b. b) (λ b. b) v.way.phase in
      let below : below_of v.way.x.activations ≡ q.below ∷ q.rest = sym (ap (λ (k : Machine). k.below) same) ∙ q.is in
      let waits : acts r.waits ≡ q.below ∷ q.rest = sym (ap (λ (y : Target). below_of y.activations) r.is) ∙ below in
      subst (λ f. f < length p.functions) (sym q.function) (first_wait p r.waits q.below q.rest r.wait waits).0

  pub change_within : (d : Instr) (to : Machine) → IsChange (slice_index_or body at.pc d) → act (calm code t) (Some (slice_index_or body at.pc d)) m ≡ Goes to → to.function < length code.functions
  change_within d to c e =
      let h = v.way.thread in
      let long : length code.functions ≡ length h.program.functions = ap (λ k. length k.functions) (code_is_of code t v.way.x v.way.memory h) ∙ (functions_coded h.program).0 in
      subst (λ n. to.function < n) (sym long) (within_of (slice_index_or body at.pc d) to (in_machine v d) e (change_kind (slice_index_or body at.pc d) c))

  -- and it is counted
  counts_of : (x : Instr) (to : Machine) → act (calm code t) (Some x) m ≡ Goes to → HasEffect x ⊎ (((g : ℕ) × (x ≡ i.Call g)) ⊎ (x ≡ i.Ret)) → to.count ≡ m.count + 1
  counts_of x to e (inl h) = (effect_affects (calm code t) x m to h refl e).count
  counts_of x to e (inr (inl h)) = (pushed_enters (calm code t) _ h.0 m to (sym (ap (λ k. act (calm code t) (Some k) m) h.1) ∙ e)).count
  counts_of x to e (inr (inr h)) = (ret_returns (calm code t) m to (sym (ap (λ k. act (calm code t) (Some k) m) h) ∙ e)).count

  pub change_counts : (d : Instr) (to : Machine) → IsChange (slice_index_or body at.pc d) → act (calm code t) (Some (slice_index_or body at.pc d)) m ≡ Goes to → to.count ≡ at.count + 1
  change_counts d to c e = counts_of (slice_index_or body at.pc d) to e (change_kind (slice_index_or body at.pc d) c)

  way_of : (x : Instr) (to : Machine) → at.count < room → length (function_in code to.function).body < 1152921504606846976 → instr_at (calm code t) m ≡ Some x → act (calm code t) (Some x) m ≡ Goes to → HasEffect x ⊎ (((g : ℕ) × (x ≡ i.Call g)) ⊎ (x ≡ i.Ret)) → OnWay code t x0 memory0 kept.steps place marked many to
  way_of x to low short is e (inl h) =
      let here = v.short in
      let same = ap length v.body_is in
      way_effect code t x0 memory0 kept.steps place marked room x m to (omega (arith, here, same)) is h refl low e v.way
  way_of x to low short is e (inr (inl h)) =
      let call = sym (ap (λ k. act (calm code t) (Some k) m) h.1) ∙ e in
      let q = pushed_enters (calm code t) _ h.0 m to call in
      way_call code t x0 memory0 kept.steps place marked room h.0 m to (subst (λ f. length (function_in code f).body < 1152921504606846976) q.function short) (is ∙ ap Some h.1) low call v.way
  way_of x to low short is e (inr (inr h)) =
      way_ret code t x0 memory0 kept.steps place marked room m to short (is ∙ ap Some h) low (sym (ap (λ k. act (calm code t) (Some k) m) h) ∙ e) v.way

  -- the row goes on behind it
  pub change_on : (d : Instr) (b : Cursor) (others : List ℤ) (fs : List Activation) (next : Memory) (bs : List Instr) → at.count < room → IsChange (slice_index_or body at.pc d) → act (calm code t) (Some (slice_index_or body at.pc d)) m ≡ Goes (now b others fs next) → IsBody code fs bs → length bs < 576460752303423488 → 0 < length fs → b.depth ≤ length others → IsWay code t x0 memory0 bs place marked many most kept b others fs next
  change_on d b others fs next bs low c e is short live depth =
      let same = ap length is in
      record {
        way = way_of (slice_index_or body at.pc d) (now b others fs next) low (omega (arith, short, same)) (in_machine v d) e (change_kind (slice_index_or body at.pc d) c);
        body_is = is;
        live = live;
        short = short;
        depth = depth;
        steps = v.steps;
        counts = (let q = room_le code v.way.x v.way.memory m room v.way.phase in let count = change_counts d (now b others fs next) c e in omega (arith, q, low, count));
      }

  -- the mark's place is one of the function's, where the turn ends
  pub ended_placed : (d : Instr) (s : Stop) (b : Cursor) (others : List ℤ) (fs : List Activation) (next : Memory) → (IsMark (Some (slice_index_or body at.pc d)) → ⊥) → IsDone (calm code t) (slice_index_or body at.pc d) (did.Ends s) m (now b others fs next) → place < length (function_in code (top_of fs).function).marks
  ended_placed d s b others fs next no_mark done =
      let same = ends_evaluating code v.way.x v.way.memory room (slice_index_or body at.pc d) m (in_machine v d) done.1 no_mark v.way.phase in
      let function : (top_of fs).function ≡ (top_of v.way.x.activations).function = ap (λ (k : Machine). k.function) done.2 ∙ ap (λ (k : Machine). k.function) same in
      subst (λ f. place < length (function_in code f).marks) (sym function) (slice_get_within _ place _ v.way.placed)

  pub ended_within : (d : Instr) (s : Stop) (b : Cursor) (others : List ℤ) (fs : List Activation) (next : Memory) → IsDone (calm code t) (slice_index_or body at.pc d) (did.Ends s) m (now b others fs next) → (top_of frames).function < length code.functions → (top_of fs).function < length code.functions
  ended_within d s b others fs next done h = subst (λ f. f < length code.functions) (sym (ap (λ (k : Machine). k.function) done.2)) h

  -- a row ends in an instruction that ends the turn
  pub change_ends : (d : Instr) (s : Stop) (b : Cursor) (others : List ℤ) (fs : List Activation) (memory' : Memory) (back : List Activation) (next : Kept) → (IsMark (Some (slice_index_or body at.pc d)) → ⊥) → 0 < length fs → IsDone (calm code t) (slice_index_or body at.pc d) (did.Ends s) m (now b others fs memory') → back ≡ with_pc (slice_index_or (function_in code (top_of fs).function).marks place 0) fs → next.returned ≡ b.returned → next.count ≡ count_at s b.count marked → next.steps ≡ kept.steps → IsRow code t s x0 memory0 next.steps (thread_of next back) memory'
  change_ends d s b others fs memory' back next no_mark live done set returned count steps =
      subst (λ k. IsRow code t s x0 memory0 k (thread_of next back) memory') (sym steps)
      (way_ends code t x0 memory0 kept.steps place marked room (slice_index_or body at.pc d) s m (now b others fs memory') fs back next v.way (in_machine v d) no_mark done live refl refl refl set returned count)

  -- behind the loop there is no number for the count, and the thread makes its operands
  pub exit_evaluating : room ≤ at.count → IsSameButWhere (machine_of v.way.x v.way.memory) m
  exit_evaluating full = exit_phase code v.way.x v.way.memory m room v.way.phase full

  -- the row ends there
  pub exit_ends : (back : List Activation) (next : Kept) → room ≤ at.count → back ≡ with_pc (slice_index_or (function_in code (top_of frames).function).marks place 0) frames → next.returned ≡ at.returned → next.count ≡ marked → next.steps ≡ kept.steps → IsRow code t stop.Memory x0 memory0 next.steps (thread_of next back) memory
  exit_ends back next full set returned count steps =
      let same = exit_evaluating full in
      let thread = stopped_thread code t v.way.x v.way.memory place m m frames back next v.way.thread v.way.placed same refl v.live refl refl refl set returned in
      record {
        x = v.way.x;
        memory = v.way.memory;
        turns = subst (λ k. TurnsTo (calm code t) k x0 memory0 v.way.x v.way.memory) (sym steps) v.way.turns;
        thread = v.way.thread;
        ends = (same_count v.way.x (thread_of next back) next.count thread (count ∙ sym v.way.counted), ap (λ (k : Machine). k.memory) same);
      }

  -- a `spawn` isn't done
  pub spawn_undone : (d : Instr) (g : ℕ) → slice_index_or body at.pc d ≡ i.Spawn g → IsDone (calm code t) (slice_index_or body at.pc d) (did.Ends stop.Spawning) m m
  spawn_undone d g e = (tt, subst (λ x. IsBehind x → ⊥) (sym e) (λ b. b), refl, refl)

  pub spawn_no_mark : (d : Instr) (g : ℕ) → slice_index_or body at.pc d ≡ i.Spawn g → IsMark (Some (slice_index_or body at.pc d)) → ⊥
  spawn_no_mark d g e = subst (λ x. IsMark (Some x) → ⊥) (sym e) (λ b. b)
