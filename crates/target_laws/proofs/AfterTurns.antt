-- The core after a turn stands for the state that the step leaves.
use Rattle.std.proofs.Common.{◌≡◌, ◌⊎◌, inl, inr, ℕ, ◌-◌, ◌<◌, ℤ, pos, false, List, [], ◌∷◌, ◌++◌, length, reverse, take, replicate, Option, Some, None, refl, sym, ap, ◌∙◌, subst, arith}
use Rattle.std.specs.Prelude.{slice_get, slice_set}
use Rattle.std.specs.Option.{option_map}
use Rattle.std.proofs.lemmas.List.{length-reverse}
use Rattle.std.proofs.lemmas.List.Elements.{All-set, All-push}
use Rattle.std.proofs.lemmas.Option.{slice_get_within}
use Rattle.c_tree.specs.declared.event.ThreadMark.TheVariants.{Fresh, Live}
use Rattle.c_tree.specs.declared.lifted.Lifted.{Lifted}
use Rattle.c_tree.specs.declared.state.Frame.{Frame}
use Rattle.c_tree.specs.declared.state.State.{State}
use Rattle.c_tree.specs.Step.{Outcome, function_of, fresh}
use Rattle.c_tree.specs.Step as step
use Rattle.store_mem.specs.Access.{begun, ended}
use Rattle.store_mem.specs.Laws.{with_threads}
use Rattle.store_mem.specs.Memory.{Memory, Marked}
use Rattle.target_code.specs.declared.activation.Mode.TheVariants.{Running}
use Rattle.target_code.specs.declared.code.CodeFunction.{CodeFunction}
use Rattle.target_code.specs.Between.{Stands, Wait, AllWait, frames, running, IsRunning, IsBetween}
use Rattle.target_code.specs.Code.{code_of}
use Rattle.target_code.specs.Machine.{Ran, Stopped, Trapped, Ended, Finished, Blocked, function_in, begins}
use Rattle.target_code.specs.Seen.{seen}
use Rattle.target_code.specs.Target.{Target}
use Rattle.target_code.specs.TargetRun.{TargetCore, seen_threads, state_of, counted, with_target, joined_by, after_turn}
use Rattle.target_laws.specs.Laws.{left_by}
use Rattle.target_laws.proofs.Halts.{run_of}
use Rattle.store_mem.proofs.KeepLemmas.{end-keeps}
use Rattle.store_mem.proofs.MarkLemmas.{counts-threads}
use Rattle.target_laws.proofs.Marks.{marked_set, marked_more}
use Rattle.target_laws.proofs.Places.{code_at}
use Rattle.target_laws.proofs.SavedThreads.{Rests, is_saved_mode, is_saved, saved_at, saved_of, saved_same, saved_more}
use Rattle.target_laws.proofs.SeenFrames.{stands_seen}
use Rattle.target_laws.proofs.Slices.{get_map, map_set, set_same, set_front, get_last, set_last, get_past, map_more, length_set, length_map}
use Rattle.target_laws.proofs.Turned.{Threads, Spawned, Holds, fits_fresh, state_with, Agrees}

-- a thread that begins a function with one parameter runs
begins_is : (p : Lifted) (g : ℕ) (v : ℤ) → g < length p.functions → (function_of p g).params ≡ 1 → begins (code_of p) g v ≡ running (fresh p g (v ∷ [])) 1 [] (pos 0) 0
begins_is p g v within params =
    let c = function_in (code_of p) g in
    let code = code_at p g within in
    let one : c.params ≡ 1 = ap (λ (k : CodeFunction). k.params) code.is ∙ params in
    let slots : c.slots ≡ length (function_of p g).slots = ap (λ (k : CodeFunction). k.slots) code.is in
    let made : ℕ → ℕ → Target = λ n k. record {
      mode = Running;
      activations = record { function = g; pc = 1; slots = take n (v ∷ []) ++ replicate (k - length (take n (v ∷ []))) (pos 0) } ∷ [];
      returned = pos 0;
      saved = [];
      count = 0;
    } in
    ap (λ n. made n c.slots) one ∙ ap (λ n. made 1 n) slots

some_long : (f : Frame) (fs : List Frame) → 0 < length (reverse (f ∷ fs))
some_long f fs = omega (arith, length-reverse (f ∷ fs))

module _ (p : Lifted) (c : TargetCore) (b : IsBetween p (record c { code = code_of p })) (t : ℕ) (x : Target) (there : slice_get c.threads t ≡ Some (Some x)) (runs : IsRunning p x) where
  abbrev core : TargetCore
  core = record c { code = code_of p }

  abbrev ts0 : Threads
  ts0 = seen_threads (code_of p) c.threads

  -- the core after a turn is there, stands for the state, keeps what is true between two events, and has the same threads saved
  abbrev pub Leads : Ran → State → Type 0
  Leads r s = (d : TargetCore) × (after_turn core t x r ≡ Some d) × (state_of d ≡ s) × IsBetween p d × ((u : ℕ) → saved_at d.threads u ≡ saved_at c.threads u)

  not_saved : is_saved_mode x.mode ≡ false
  not_saved = ap (λ (k : Target). is_saved_mode k.mode) runs.is

  keeps_saved : (o : Option Target) → is_saved o ≡ false → (u : ℕ) → saved_at (slice_set c.threads t o) u ≡ saved_at c.threads u
  keeps_saved o h u = saved_same c.threads t u o (h ∙ sym (saved_of c.threads t (Some x) there ∙ not_saved))

  seen_there : slice_get ts0 t ≡ Some (Some (seen (code_of p) x))
  seen_there = get_map (λ o. option_map (λ y. seen (code_of p) y) o) c.threads t (Some x) there

  -- the threads with another one in place of t
  seen_set : (o : Option Target) → seen_threads (code_of p) (slice_set c.threads t o) ≡ slice_set ts0 t (option_map (λ y. seen (code_of p) y) o)
  seen_set o = map_set (λ o. option_map (λ y. seen (code_of p) y) o) c.threads t o

  marks_long : length c.memory.marks ≡ length c.threads
  marks_long = counts-threads c.memory.marks (with_threads ts0 c.memory.state) b.marked ∙ length_map (λ o. option_map (λ y. seen (code_of p) y) o) c.threads

  stopped_same : (f : Frame) (pc : ℕ) (ws : List Wait) (ret : ℤ) (memory : Memory) (n : ℕ) (ts : Threads) → Stands p f pc → AllWait p ws → Holds p c.memory ts0 memory ts → memory.marks ≡ c.memory.marks → ts ≡ ts0 → Leads (Stopped (run_of f pc ws ret memory n)) (state_with p t c.memory ts0 memory ts (reverse (f ∷ frames ws)))
  stopped_same f pc ws ret memory n ts stands wait holds same_marks same_ts =
      let y = running f pc ws ret n in
      let fr = reverse (f ∷ frames ws) in
      let d : TargetCore = record (with_target (counted core x.count n) t (Some y)) { memory = memory } in
      let long : length (slice_set c.threads t (Some y)) ≡ length c.memory.marks = length_set c.threads t (Some y) ∙ sym marks_long in
      let none : slice_get memory.marks (length (slice_set c.threads t (Some y))) ≡ None =
      ap (λ l. slice_get l (length (slice_set c.threads t (Some y)))) same_marks ∙ (ap (λ k. slice_get c.memory.marks k) long ∙ get_past c.memory.marks) in
      let seen_is : seen_threads (code_of p) (slice_set c.threads t (Some y)) ≡ slice_set ts0 t (Some fr) =
      seen_set (Some y) ∙ ap (λ l. slice_set ts0 t (Some l)) (stands_seen p f pc ws ret n stands wait) in
      let marked : Marked memory.marks (slice_set ts0 t (Some fr)) =
      subst (λ l. Marked l (slice_set ts0 t (Some fr))) (sym same_marks) (marked_set c.memory.marks ts0 t (seen (code_of p) x) fr b.marked seen_there (some_long f (frames ws))) in
      let rests : Rests p (Some y) = inl (record { frame = f; pc = pc; waits = ws; is = refl; stands = stands; wait = wait }) in (
        d,
        ap (λ o. Some (joined_by d o)) none,
        ap (λ l. with_threads l memory.state) (seen_is ∙ ap (λ l. slice_set l t (Some fr)) (sym same_ts)),
        record {
          formed = b.formed;
          code = refl;
          fields = holds.fields ∙ b.fields;
          shared = holds.shared ∙ b.shared;
          marked = subst (λ l. Marked memory.marks l) (sym seen_is) marked;
          threads = All-set (λ o. Rests p o) c.threads t (Some y) rests b.threads;
        },
        keeps_saved (Some y) refl,
      )

  stopped_more : (f : Frame) (pc : ℕ) (ws : List Wait) (ret : ℤ) (memory : Memory) (n : ℕ) (ts : Threads) → Stands p f pc → AllWait p ws → Holds p c.memory ts0 memory ts → Spawned p c.memory.marks ts0 memory.marks ts → Leads (Stopped (run_of f pc ws ret memory n)) (state_with p t c.memory ts0 memory ts (reverse (f ∷ frames ws)))
  stopped_more f pc ws ret memory n ts stands wait holds sp =
      let y = running f pc ws ret n in
      let fr = reverse (f ∷ frames ws) in
      let child = fresh p sp.function (sp.argument ∷ []) in
      let z = begins (code_of p) sp.function sp.argument in
      let is = begins_is p sp.function sp.argument sp.within sp.params in
      let c1 : TargetCore = record (with_target (counted core x.count n) t (Some y)) { memory = memory } in
      let later = length (slice_set c.threads t (Some y)) in
      let long : later ≡ length c.memory.marks = length_set c.threads t (Some y) ∙ sym marks_long in
      let mark : slice_get memory.marks later ≡ Some (Fresh sp.function sp.argument) =
      ap (λ l. slice_get l later) sp.marks_are ∙ (ap (λ k. slice_get (c.memory.marks ++ Fresh sp.function sp.argument ∷ []) k) long ∙ get_last c.memory.marks (Fresh sp.function sp.argument)) in
      let d : TargetCore = record c1 { memory = record memory { marks = begun memory.marks later }; threads = slice_set c.threads t (Some y) ++ Some z ∷ [] } in
      let begun_is : begun memory.marks later ≡ c.memory.marks ++ Live ∷ [] =
      ap (λ l. slice_set l later Live) sp.marks_are ∙ (ap (λ k. slice_set (c.memory.marks ++ Fresh sp.function sp.argument ∷ []) k Live) long ∙ set_last c.memory.marks (Fresh sp.function sp.argument) Live) in
      let stands_child : Stands p child 1 = record { fits = fits_fresh p sp.function (sp.argument ∷ []) sp.within sp.slots; mark = refl } in
      let seen_child : seen (code_of p) z ≡ child ∷ [] = ap (λ k. seen (code_of p) k) is ∙ stands_seen p child 1 [] (pos 0) 0 stands_child tt in
      let seen_is : seen_threads (code_of p) (slice_set c.threads t (Some y) ++ Some z ∷ []) ≡ slice_set ts0 t (Some fr) ++ Some (child ∷ []) ∷ [] =
      map_more (λ o. option_map (λ y. seen (code_of p) y) o) (slice_set c.threads t (Some y)) (Some z)
      ∙ (ap (λ l. l ++ Some (seen (code_of p) z) ∷ []) (seen_set (Some y) ∙ ap (λ l. slice_set ts0 t (Some l)) (stands_seen p f pc ws ret n stands wait))
      ∙ ap (λ l. slice_set ts0 t (Some fr) ++ Some l ∷ []) seen_child) in
      let within : t < length ts0 = slice_get_within ts0 t (Some (seen (code_of p) x)) seen_there in
      let threads_are : slice_set ts t (Some fr) ≡ slice_set ts0 t (Some fr) ++ Some (child ∷ []) ∷ [] =
      ap (λ l. slice_set l t (Some fr)) sp.threads_are ∙ set_front ts0 (Some (child ∷ []) ∷ []) t (Some fr) within in
      let marked0 : Marked c.memory.marks (slice_set ts0 t (Some fr)) = marked_set c.memory.marks ts0 t (seen (code_of p) x) fr b.marked seen_there (some_long f (frames ws)) in
      let marked1 : Marked (c.memory.marks ++ Live ∷ []) (slice_set ts0 t (Some fr) ++ Some (child ∷ []) ∷ []) = marked_more c.memory.marks (slice_set ts0 t (Some fr)) (child ∷ []) marked0 (omega arith) in
      let marked2 : Marked (begun memory.marks later) (slice_set ts0 t (Some fr) ++ Some (child ∷ []) ∷ []) = subst (λ l. Marked l (slice_set ts0 t (Some fr) ++ Some (child ∷ []) ∷ [])) (sym begun_is) marked1 in
      let rests : Rests p (Some y) = inl (record { frame = f; pc = pc; waits = ws; is = refl; stands = stands; wait = wait }) in
      let child_runs : IsRunning p (running child 1 [] (pos 0) 0) = record { frame = child; pc = 1; waits = []; is = refl; stands = stands_child; wait = tt } in
      let rests_child : Rests p (Some z) = inl (subst (λ k. IsRunning p k) (sym is) child_runs) in (
        d,
        ap (λ o. Some (joined_by c1 o)) mark,
        ap (λ l. with_threads l memory.state) (seen_is ∙ sym threads_are),
        record {
          formed = b.formed;
          code = refl;
          fields = holds.fields ∙ b.fields;
          shared = holds.shared ∙ b.shared;
          marked = subst (λ l. Marked (begun memory.marks later) l) (sym seen_is) marked2;
          threads = All-push (λ o. Rests p o) (slice_set c.threads t (Some y)) (Some z) (All-set (λ o. Rests p o) c.threads t (Some y) rests b.threads) rests_child;
        },
        λ u. saved_more (slice_set c.threads t (Some y)) u (Some z) refl ∙ keeps_saved (Some y) refl u,
      )

  stopped_by : (f : Frame) (pc : ℕ) (ws : List Wait) (ret : ℤ) (memory : Memory) (n : ℕ) (ts : Threads) → Stands p f pc → AllWait p ws → Holds p c.memory ts0 memory ts → ((memory.marks ≡ c.memory.marks) × (ts ≡ ts0)) ⊎ Spawned p c.memory.marks ts0 memory.marks ts → Leads (Stopped (run_of f pc ws ret memory n)) (state_with p t c.memory ts0 memory ts (reverse (f ∷ frames ws)))
  stopped_by f pc ws ret memory n ts stands wait holds (inl q) = stopped_same f pc ws ret memory n ts stands wait holds q.0 q.1
  stopped_by f pc ws ret memory n ts stands wait holds (inr q) = stopped_more f pc ws ret memory n ts stands wait holds q

  -- the thread has ended
  ended_leads : (n : ℕ) → Leads (Ended c.memory n) (record c.memory.state { threads = slice_set ts0 t None })
  ended_leads n =
      let d : TargetCore = record (with_target (counted core x.count n) t None) { memory = record c.memory { marks = ended c.memory.marks t } } in (
        d,
        refl,
        ap (λ l. with_threads l c.memory.state) (seen_set None),
        record {
          formed = b.formed;
          code = refl;
          fields = b.fields;
          shared = b.shared;
          marked = subst (λ l. Marked (ended c.memory.marks t) l) (sym (seen_set None)) (end-keeps c.memory.marks (with_threads ts0 c.memory.state) t b.marked);
          threads = All-set (λ o. Rests p o) c.threads t None tt b.threads;
        },
        keeps_saved None refl,
      )

  -- the thread ran some instructions, and all else is as before
  pub stayed : (n : ℕ) → (state_of (with_target (counted core x.count n) t (Some (record x { count = n }))) ≡ state_of core) × IsBetween p (with_target (counted core x.count n) t (Some (record x { count = n })))
  stayed n =
      let y = record x { count = n } in
      let seen_is : seen_threads (code_of p) (slice_set c.threads t (Some y)) ≡ ts0 = seen_set (Some y) ∙ set_same ts0 t (Some (seen (code_of p) x)) seen_there in
      let runs_on : IsRunning p y = record { frame = runs.frame; pc = runs.pc; waits = runs.waits; is = ap (λ (k : Target). record k { count = n }) runs.is; stands = runs.stands; wait = runs.wait } in (
        ap (λ l. with_threads l c.memory.state) seen_is,
        record {
          formed = b.formed;
          code = refl;
          fields = b.fields;
          shared = b.shared;
          marked = subst (λ l. Marked c.memory.marks l) (sym seen_is) b.marked;
          threads = All-set (λ o. Rests p o) c.threads t (Some y) (inl runs_on) b.threads;
        },
      )

  -- a turn that ends as the step does leads to what the step leaves
  pub leads : (r : Ran) (o : Outcome) → Agrees p t c.memory ts0 r o → (o ≡ step.Blocked → ⊥) → Leads r (left_by (state_of core) o)
  leads (Stopped m) (step.Done s) h able =
      let g = stopped_by h.frame h.pc h.waits h.returned h.memory h.count h.threads h.stands h.all_wait h.holds h.holds.grown in
      subst (λ k. Leads (Stopped k) s) (sym h.is) (subst (λ k. Leads (Stopped (run_of h.frame h.pc h.waits h.returned h.memory h.count)) k) (sym h.state_is) g)
  leads (Ended memory n) (step.Done s) h able = subst (λ k. Leads (Ended k n) s) (sym h.0) (subst (λ k. Leads (Ended c.memory n) k) (sym h.1) (ended_leads n))
  leads (Trapped cause n) (step.Trapped cause') h able = let q = stayed n in (with_target (counted core x.count n) t (Some (record x { count = n })), refl, q.0, q.1, keeps_saved (Some (record x { count = n })) not_saved)
  leads (Finished code n) (step.Finished code') h able = let q = stayed n in (with_target (counted core x.count n) t (Some (record x { count = n })), refl, q.0, q.1, keeps_saved (Some (record x { count = n })) not_saved)
  leads Blocked step.Blocked h able = absurd (able refl)
  leads r o h able = absurd h
