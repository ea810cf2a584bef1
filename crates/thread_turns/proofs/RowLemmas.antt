-- What a row finds and keeps in the midst of a turn.
use Rattle.std.proofs.Common.{◌≡◌, ◌≤◌, ◌<◌, inl, inr, ℕ, suc, ◌+◌, ℤ, List, length, Some, refl, sym, ap, ◌∙◌, subst, arith}
use Rattle.std.specs.Prelude.{slice_get, slice_index_or}
use Rattle.std.proofs.lemmas.Option.{slice_get_within, slice_get-get_or}
use Rattle.store_mem.specs.Memory.{Memory}
use Rattle.target_code.specs.declared.activation.Activation.{Activation}
use Rattle.target_code.specs.declared.instr.Instr.{Instr}
use Rattle.target_code.specs.declared.instr.Instr.TheVariants as i
use Rattle.target_code.specs.Between.{activation, body_at}
use Rattle.target_code.specs.Code.{TargetCode}
use Rattle.target_code.specs.Machine.{Setting, Machine, Goes, act, advance, function_in, instr_at, machine_of, target_of}
use Rattle.target_code.specs.Stack.{with_pc}
use Rattle.target_code.specs.Target.{Target, top_of}
use Rattle.target_laws.specs.Effects.{IsMark}
use Rattle.target_laws.specs.Rows.{IsThreadOf, calm}
use Rattle.target_laws.proofs.Inside.{functions_coded}
use Rattle.target_laws.proofs.SeenFrames.{mark_in}
use Rattle.target_laws.proofs.Threads.{thread_stands}
use Rattle.thread_turns.specs.declared.cursor.Cursor.{Cursor}
use Rattle.thread_turns.specs.declared.cursor.Did.{Did}
use Rattle.thread_turns.specs.declared.cursor.Did.TheVariants as did
use Rattle.thread_turns.specs.declared.cursor.Kept.{Kept}
use Rattle.thread_turns.specs.declared.cursor.Stop.{Stop}
use Rattle.thread_turns.specs.declared.cursor.Stop.TheVariants as stop
use Rattle.thread_turns.specs.Now.{IsAt, IsPlain, NamesSlot, now, popped}
use Rattle.thread_turns.specs.Turns.{IsBehind, IsBody, IsDone, IsInPhase, IsRow, IsSameButWhere, IsWay, OnWay, TurnsTo, count_at, few, many, thread_of}
use Rattle.thread_turns.proofs.EndRowLemmas.{same_count, some_frames, stopped_thread, way_ends}
use Rattle.thread_turns.proofs.MidLemmas.{code_is_of, fits_names, leads_none, mid_inside, mid_instr, mid_pops, top_fits}
use Rattle.thread_turns.proofs.WayLemmas.{ends_evaluating, placed_at, plain_steps, way_mark, way_plain, way_turns}

-- the innermost activation's function is in the code
pub start_within : (code : TargetCode) (t : ℕ) (x : Target) (memory : Memory) → IsThreadOf code t x memory → (top_of x.activations).function < length code.functions
start_within code t x memory h =
    let r = thread_stands code t x memory h in
    let p = h.program in
    let function : (top_of x.activations).function ≡ r.frame.function = ap (λ (y : Target). (top_of y.activations).function) r.is in
    let long : length code.functions ≡ length p.functions = ap (λ k. length k.functions) (code_is_of code t x memory h) ∙ (functions_coded p).0 in
    subst (λ n. (top_of x.activations).function < n) (sym long) (subst (λ f. f < length p.functions) (sym function) r.stands.fits.within)

-- there stands the mark of its place
pub start_mark : (code : TargetCode) (t : ℕ) (x : Target) (memory : Memory) → (h : IsThreadOf code t x memory) → IsMark (slice_get (function_in code (top_of x.activations).function).body (top_of x.activations).pc)
start_mark code t x memory h =
    let r = thread_stands code t x memory h in
    let p = h.program in
    let top : top_of x.activations ≡ activation (record { frame = r.frame; pc = r.pc }) = ap (λ (y : Target). top_of y.activations) r.is in
    let there : slice_get (function_in code (top_of x.activations).function).body (top_of x.activations).pc ≡ Some (i.Mark r.frame.place) =
    ap (λ k. slice_get (function_in k (top_of x.activations).function).body (top_of x.activations).pc) (code_is_of code t x memory h) ∙ (ap (λ (a : Activation). slice_get (body_at p a.function) a.pc) top ∙ mark_in p r.frame r.pc r.stands) in
    subst IsMark (sym there) tt

pub start_mark_at : (code : TargetCode) (t : ℕ) (x : Target) (memory : Memory) (body : List Instr) (pc function : ℕ) → IsThreadOf code t x memory → body ≡ (function_in code function).body → function ≡ (top_of x.activations).function → pc ≡ (top_of x.activations).pc → IsMark (slice_get body pc)
start_mark_at code t x memory body pc function h b f p =
    subst IsMark (sym (ap (λ l. slice_get l pc) (b ∙ ap (λ k. (function_in code k).body) f) ∙ ap (λ n. slice_get (function_in code (top_of x.activations).function).body n) p)) (start_mark code t x memory h)

-- an instruction that doesn't end the turn leads on
pub done_goes : (w : Setting) (x : Instr) (d : Did) (a b : Machine) → ((s : Stop) → d ≡ did.Ends s → ⊥) → IsDone w x d a b → act w (Some x) a ≡ Goes b
done_goes w x did.Goes a b n h = h.0
done_goes w x did.Moves a b n h = h
done_goes w x (did.Ends s) a b n h = absurd (n s refl)

pub plain_no_mark : (x : Instr) → IsPlain x → IsMark (Some x) → ⊥
plain_no_mark (i.Mark n) p k = p
plain_no_mark _ p k = k

-- a row begins
pub start_way : (code : TargetCode) (t : ℕ) (kept now_kept : Kept) (frames : List Activation) (memory : Memory) (body : List Instr) (place pc most : ℕ) (words : List _) → IsThreadOf code t (thread_of kept frames) memory → IsBody code frames body → slice_get body pc ≡ Some (i.Mark place) → pc ≡ (top_of frames).pc → length body < 576460752303423488 → now_kept.steps ≡ 0 → 1 ≤ most → kept.count < few → IsWay code t (thread_of kept frames) memory body place kept.count few most now_kept (record { pc = pc + 1; depth = 0; returned = kept.returned; count = kept.count + 1 }) words frames memory
start_way code t kept now_kept frames memory body place pc most words h b mark at short none some low =
    let w = calm code t in
    let x = thread_of kept frames in
    let r = thread_stands code t x memory h in
    let in_code : slice_get (function_in code (top_of frames).function).body (top_of frames).pc ≡ Some (i.Mark place) = ap (λ n. slice_get (function_in code (top_of frames).function).body n) (sym at) ∙ (ap (λ l. slice_get l pc) (sym b) ∙ mark) in
    let function : (top_of frames).function ≡ r.frame.function = ap (λ (y : Target). (top_of y.activations).function) r.is in
    let way : OnWay code t x memory 0 place kept.count few (advance (machine_of x memory)) = record {
      x = x;
      memory = memory;
      turns = (refl, refl);
      thread = h;
      counted = refl;
      placed = placed_at code h.program x place (code_is_of code t x memory h) r in_code;
      leads = leads_none w (advance (machine_of x memory));
      within = subst (λ f. f < length h.program.functions) (sym function) r.stands.fits.within;
      fits = top_fits h.program x r;
      marks = refl;
      phase = inl (refl, refl);
    } in
    record {
      way = subst (λ n. OnWay code t x memory n place kept.count few (now (record { pc = pc + 1; depth = 0; returned = kept.returned; count = kept.count + 1 }) words frames memory)) (sym none) (subst (λ n. OnWay code t x memory 0 place kept.count few (now (record { pc = n + 1; depth = 0; returned = kept.returned; count = kept.count + 1 }) words frames memory)) (sym at) way);
      body_is = b;
      live = some_frames h.program x r;
      short = short;
      depth = omega arith;
      steps = omega (arith, none, some);
      counts = omega (arith, low);
    }

-- a thread with these frames and this memory is told by its cursor's parts
same_now : (b : Cursor) (words : List ℤ) (frames : List Activation) (memory : Memory) (pc depth : ℕ) (returned : ℤ) (count : ℕ) → b.pc ≡ pc → b.depth ≡ depth → b.returned ≡ returned → b.count ≡ count → now b words frames memory ≡ now (record { pc = pc; depth = depth; returned = returned; count = count }) words frames memory
same_now b words frames memory pc depth returned count e f g h =
    ap (λ (k : ℕ). now (record { pc = k; depth = b.depth; returned = b.returned; count = b.count }) words frames memory) e
    ∙ (ap (λ (k : ℕ). now (record { pc = pc; depth = k; returned = b.returned; count = b.count }) words frames memory) f
    ∙ (ap (λ (k : ℤ). now (record { pc = pc; depth = depth; returned = k; count = b.count }) words frames memory) g
    ∙ ap (λ (k : ℕ). now (record { pc = pc; depth = depth; returned = returned; count = k }) words frames memory) h))

-- a number below which the count stays isn't large
pub room_le : (code : TargetCode) (x : Target) (memory : Memory) (m : Machine) (room : ℕ) → IsInPhase code x memory m room → room ≤ many
room_le code x memory m room (inl h) = let e = h.0 in omega (arith, e)
room_le code x memory m room (inr h) = let e = h.0 in omega (arith, e)

module _ {code : TargetCode} {t : ℕ} {x0 : Target} {memory0 : Memory} {body : List Instr} {place marked room most : ℕ} {kept : Kept} {at : Cursor} {words : List ℤ} {frames : List Activation} {memory : Memory} (v : IsWay code t x0 memory0 body place marked room most kept at words frames memory) where
  abbrev m : Machine
  m = now at words frames memory

  pub inside : at.pc < length body
  inside = mid_inside code t v.way.x v.way.memory at words frames memory body v.body_is v.way.thread v.way.leads

  pub is_there : (d : Instr) → slice_get body at.pc ≡ Some (slice_index_or body at.pc d)
  is_there d = slice_get-get_or body at.pc d inside

  pub in_machine : (d : Instr) → instr_at (calm code t) m ≡ Some (slice_index_or body at.pc d)
  in_machine d = mid_instr code t at words frames memory body _ v.body_is (is_there d)

  pub is_at : at.count < room → IsAt at words
  is_at low =
      let within = inside in
      let short = v.short in
      let most_room = room_le code v.way.x v.way.memory m room v.way.phase in
      record { pc = omega (arith, within, short); count = omega (arith, low, most_room); depth = v.depth }

  pub pops_some : (d : Instr) → popped (slice_index_or body at.pc d) ≤ at.depth
  pops_some d = mid_pops code t v.way.x v.way.memory at words frames memory body _ v.body_is (is_there d) v.depth v.way.thread v.way.leads

  pub names_slot : (d : Instr) → NamesSlot (slice_index_or body at.pc d) frames
  names_slot d =
      let h = v.way.thread in
      fits_names h.program frames at.pc _ h.between.formed v.way.fits (ap (λ k. slice_get (function_in k (top_of frames).function).body at.pc) (sym (code_is_of code t v.way.x v.way.memory h)) ∙ in_machine d)

  pub top_within : (top_of frames).function < length code.functions
  top_within =
      let h = v.way.thread in
      let long : length code.functions ≡ length h.program.functions = ap (λ k. length k.functions) (code_is_of code t v.way.x v.way.memory h) ∙ (functions_coded h.program).0 in
      subst (λ n. (top_of frames).function < n) (sym long) v.way.within

  -- a mark of the code is one of the function's marks
  pub mark_way : (d : Instr) (n : ℕ) → slice_index_or body at.pc d ≡ i.Mark n → OnWay code t x0 memory0 (suc kept.steps) n m.count few (advance (machine_of (target_of m) m.memory))
  mark_way d n e = way_mark code t x0 memory0 kept.steps place marked room n m (in_machine d ∙ ap Some e) v.way

  pub mark_thread : (d : Instr) (n : ℕ) → slice_index_or body at.pc d ≡ i.Mark n → IsThreadOf code t (target_of m) memory
  mark_thread d n e = (way_turns code t x0 memory0 kept.steps place marked room n m (in_machine d ∙ ap Some e) v.way).1

  pub mark_named : (d : Instr) (n : ℕ) → slice_index_or body at.pc d ≡ i.Mark n → slice_get (function_in code (top_of frames).function).marks n ≡ Some at.pc
  mark_named d n e =
      let h = mark_thread d n e in
      placed_at code h.program (target_of m) n (code_is_of code t (target_of m) memory h) (thread_stands code t (target_of m) memory h) (in_machine d ∙ ap Some e)

  pub mark_placed : (d : Instr) (n : ℕ) → slice_index_or body at.pc d ≡ i.Mark n → n < length (function_in code (top_of frames).function).marks
  mark_placed d n e = slice_get_within (function_in code (top_of frames).function).marks n at.pc (mark_named d n e)

  -- behind the mark the next turn begins
  pub mark_on : (d : Instr) (n : ℕ) (b : Cursor) (next : Kept) → slice_index_or body at.pc d ≡ i.Mark n → b.pc ≡ at.pc + 1 → b.depth ≡ 0 → b.returned ≡ at.returned → b.count ≡ at.count + 1 → at.count < room → next.steps ≡ kept.steps + 1 → kept.steps + 1 < most → IsWay code t x0 memory0 body n at.count few most next b words frames memory
  mark_on d n b next e pc depth returned count low steps more =
      let is = same_now b words frames memory (at.pc + 1) 0 at.returned (at.count + 1) pc depth returned count in
      let counted : next.steps ≡ suc kept.steps = omega (arith, steps) in
      record {
        way = subst (λ k. OnWay code t x0 memory0 k n at.count few (now b words frames memory)) (sym counted) (subst (λ k. OnWay code t x0 memory0 (suc kept.steps) n at.count few k) (sym is) (mark_way d n e));
        body_is = v.body_is;
        live = v.live;
        short = v.short;
        depth = omega (arith, depth);
        steps = omega (arith, steps, more);
        counts = (let q = room_le code v.way.x v.way.memory m room v.way.phase in omega (arith, q, low, count));
      }

  -- a row ends at a mark
  pub mark_ends : (d : Instr) (n : ℕ) (back : List Activation) (next : Kept) → slice_index_or body at.pc d ≡ i.Mark n → back ≡ with_pc (slice_index_or (function_in code (top_of frames).function).marks n 0) frames → next.returned ≡ at.returned → next.count ≡ at.count → next.steps ≡ kept.steps + 1 → IsRow code t stop.Made x0 memory0 next.steps (thread_of next back) memory
  mark_ends d n back next e set returned count steps =
      let made = way_turns code t x0 memory0 kept.steps place marked room n m (in_machine d ∙ ap Some e) v.way in
      let counted : next.steps ≡ suc kept.steps = omega (arith, steps) in
      let thread = stopped_thread code t (target_of m) memory n m m frames back next made.1 (mark_named d n e) refl refl v.live refl refl refl set returned in
      record {
        x = target_of m;
        memory = memory;
        turns = subst (λ k. TurnsTo (calm code t) k x0 memory0 (target_of m) memory) (sym counted) made.0;
        thread = made.1;
        ends = (same_count (target_of m) (thread_of next back) next.count thread count, refl);
      }

  pub placed_within : IsSameButWhere (machine_of v.way.x v.way.memory) m → place < length (function_in code (top_of frames).function).marks
  placed_within same =
      let function : (top_of frames).function ≡ (top_of v.way.x.activations).function = ap (λ (k : Machine). k.function) same in
      subst (λ f. place < length (function_in code f).marks) (sym function) (slice_get_within _ place _ v.way.placed)

  -- the row goes on behind a plain instruction
  pub plain_on : (d : Instr) (b : Cursor) (others : List ℤ) → IsPlain (slice_index_or body at.pc d) → act (calm code t) (Some (slice_index_or body at.pc d)) m ≡ Goes (now b others frames memory) → b.depth ≤ length others → at.count < room → IsWay code t x0 memory0 body place marked room most kept b others frames memory
  plain_on d b others p e depth low =
      record {
        way = way_plain code t x0 memory0 kept.steps place marked room (slice_index_or body at.pc d) m (now b others frames memory) (in_machine d) p refl e v.way;
        body_is = v.body_is;
        live = v.live;
        short = v.short;
        depth = depth;
        steps = v.steps;
        counts = (let q = room_le code v.way.x v.way.memory m room v.way.phase in let count = (plain_steps (calm code t) (slice_index_or body at.pc d) m (now b others frames memory) p refl refl e).count in omega (arith, q, low, count));
      }

  -- and its count is one more
  pub plain_counts : (d : Instr) (b : Cursor) (others : List ℤ) → IsPlain (slice_index_or body at.pc d) → act (calm code t) (Some (slice_index_or body at.pc d)) m ≡ Goes (now b others frames memory) → b.count ≡ at.count + 1
  plain_counts d b others p e = (plain_steps (calm code t) (slice_index_or body at.pc d) m (now b others frames memory) p refl refl e).count

  -- an instruction that stands behind no effect is one of a thread that makes its operands
  pub evaluating : (d : Instr) → (IsBehind (slice_index_or body at.pc d) → ⊥) → (IsMark (Some (slice_index_or body at.pc d)) → ⊥) → IsSameButWhere (machine_of v.way.x v.way.memory) m
  evaluating d no_behind no_mark = ends_evaluating code v.way.x v.way.memory room (slice_index_or body at.pc d) m (in_machine d) no_behind no_mark v.way.phase

  -- a row ends in an instruction that ends the turn, with the frames as they were
  pub ends_here : (d : Instr) (s : Stop) (b : Cursor) (others : List ℤ) (back : List Activation) (next : Kept) → (IsMark (Some (slice_index_or body at.pc d)) → ⊥) → IsDone (calm code t) (slice_index_or body at.pc d) (did.Ends s) m (now b others frames memory) → back ≡ with_pc (slice_index_or (function_in code (top_of frames).function).marks place 0) frames → next.returned ≡ b.returned → next.count ≡ count_at s b.count marked → next.steps ≡ kept.steps → IsRow code t s x0 memory0 next.steps (thread_of next back) memory
  ends_here d s b others back next no_mark done set returned count steps =
      subst (λ k. IsRow code t s x0 memory0 k (thread_of next back) memory) (sym steps)
      (way_ends code t x0 memory0 kept.steps place marked room (slice_index_or body at.pc d) s m (now b others frames memory) frames back next v.way (in_machine d) no_mark done v.live refl refl refl set returned count)
