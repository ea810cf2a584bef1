-- The turns of one thread, made one after the other.
use Rattle.std.proofs.Common.{◌≡◌, ◌≢◌, inl, inr, ℕ, zero, suc, ◌+◌, ◌<◌, false, List, [], ◌∷◌, ◌++◌, length, Option, Some, None, refl, sym, ap, ◌∙◌, subst, arith}
use Rattle.std.specs.Prelude.{slice_get, slice_set}
use Rattle.std.specs.Option.{option_and_then, option_map}
use Rattle.std.proofs.lemmas.List.{get_or-set_same}
use Rattle.std.proofs.lemmas.Option.{slice_get_within, slice_get-get_or}
use Rattle.c_tree.specs.declared.event.EventKind.TheVariants as e
use Rattle.c_tree.specs.declared.event.ThreadMark.{ThreadMark}
use Rattle.c_tree.specs.declared.event.ThreadMark.TheVariants.{Fresh}
use Rattle.c_tree.specs.declared.lifted.Lifted.{Lifted}
use Rattle.c_tree.specs.declared.run.Settings.{Settings}
use Rattle.c_tree.specs.Step.{Outcome, step}
use Rattle.c_tree.specs.Step as source
use Rattle.state_laws.proofs.Zips.{all_at}
use Rattle.store_mem.specs.Memory.{Memory}
use Rattle.store_mem.proofs.MarkLemmas.{counts-threads}
use Rattle.target_code.specs.declared.activation.Mode.TheVariants.{Running}
use Rattle.target_code.specs.Between.{IsAtRest, IsBetween, IsRunning}
use Rattle.target_code.specs.Code.{code_of}
use Rattle.target_code.specs.Machine.{Setting, Machine, Ran, Stopped, Trapped, Ended, Finished, Unwound, Unfinished, Stuck, advance, go, turn, machine_of, target_of, begins}
use Rattle.target_code.specs.Machine as machine
use Rattle.target_code.specs.Seen.{seen}
use Rattle.target_code.specs.Target.{Target}
use Rattle.target_code.specs.TargetRun.{TargetCore, state_of, live_in, setting_of, counted, with_target, joined_by, after_turn, target_next}
use Rattle.target_laws.specs.Laws.{Runs, EndsAs}
use Rattle.target_laws.specs.Rows as law
use Rattle.target_laws.specs.Rows.{IsThreadOf, calm}
use Rattle.target_laws.proofs.AfterTurns.{stayed}
use Rattle.target_laws.proofs.Over.{IsOver, longer}
use Rattle.target_laws.proofs.Places.{some_same}
use Rattle.target_laws.proofs.SavedThreads.{Rests}
use Rattle.target_laws.proofs.Slices.{get_past, length_set, length_map}
use Rattle.target_laws.proofs.TurnIsStep.{runs_of, turn_ends_as_step, turn_is_step}

-- what a turn that ends as a step ends in: it is over, and isn't stuck
ends_over : (r : Ran) (o : Outcome) → EndsAs r o → IsOver r × (r ≢ Stuck)
ends_over (Stopped m) (source.Done s) h = (tt, λ e. cc)
ends_over (Ended m n) (source.Done s) h = (tt, λ e. cc)
ends_over (Trapped cause n) (source.Trapped cause') h = (tt, λ e. cc)
ends_over (Finished status n) (source.Finished status') h = (tt, λ e. cc)
ends_over machine.Blocked source.Blocked h = (tt, λ e. cc)
ends_over r o h = absurd h

-- of two runs of a machine that are both over each is the other
same_end : (w : Setting) (m : Machine) (j k : ℕ) → IsOver (go w j m) → IsOver (go w k m) → go w j m ≡ go w k m
same_end w m j k a b = sym (longer w j (j + k) m (omega arith) a) ∙ longer w k (j + k) m (omega arith) b

-- a turn that leads to a core is over
after_over : (c : TargetCore) (t : ℕ) (x : Target) (d : TargetCore) (r : Ran) → after_turn c t x r ≡ Some d → IsOver r
after_over c t x d Unfinished e = cc
after_over c t x d _ e = tt

get_set : {A : Type 0} (xs : List A) (i : ℕ) (x y : A) → slice_get xs i ≡ Some x → slice_get (slice_set xs i y) i ≡ Some y
get_set xs i x y e =
    let within = slice_get_within xs i x e in
    slice_get-get_or (slice_set xs i y) i y (let n = length_set xs i y in omega (arith, n, within)) ∙ ap Some (get_or-set_same xs i y y within)

get_front : {A : Type 0} (xs ys : List A) (i : ℕ) (x : A) → slice_get xs i ≡ Some x → slice_get (xs ++ ys) i ≡ Some x
get_front [] ys i x e = absurd (let l = slice_get_within [] i x e in omega (arith, l))
get_front (y ∷ xs) ys zero x e = e
get_front (y ∷ xs) ys (suc i) x e = get_front xs ys i x e

-- a thread that begins leaves the others
joined_keeps : (d : TargetCore) (o : Option ThreadMark) (t : ℕ) (y : Option Target) → slice_get d.threads t ≡ Some y → slice_get (joined_by d o).threads t ≡ Some y
joined_keeps d (Some (Fresh f argument)) t y e = get_front d.threads (Some (begins d.code f argument) ∷ []) t y e
joined_keeps d _ t y e = e

-- a running program's thread that has an activation runs
running_mode : (p : Lifted) (x : Target) → 0 < length x.activations → IsAtRest p x → x.mode ≡ Running
running_mode p x some (inl r) = ap (λ (k : Target). k.mode) r.is
running_mode p x some (inr q) = absurd (let e = ap length q.activations in omega (arith, e, some))

module _ (p : Lifted) (c : TargetCore) (t : ℕ) (x : Target) (b : IsBetween p c) (there : slice_get c.threads t ≡ Some (Some x)) (mode : x.mode ≡ Running) where
  abbrev w : Setting
  w = calm c.code t

  abbrev runs : Runs c t
  runs = record { thread = x; is = there; mode = mode }

  pub never_stuck : (n : ℕ) → turn w n (machine_of x c.memory) ≢ Stuck
  never_stuck n e =
      let q = turn_ends_as_step p c t b runs in
      let ends = ends_over (turn w q.0 (machine_of x c.memory)) (step p t (state_of c)) q.1 in
      let over : IsOver (turn w n (machine_of x c.memory)) = subst IsOver (sym e) tt in
      ends.1 (same_end w (advance (machine_of x c.memory)) q.0 n ends.0 over ∙ e)

  -- a turn that ends at a mark leads to a core between two events
  stopped_between : (n : ℕ) (m : Machine) → turn w n (machine_of x c.memory) ≡ Stopped m → (d : TargetCore) × (after_turn c t x (Stopped m) ≡ Some d) × IsBetween p d
  unfolding target_next
  stopped_between n m stops =
      let from = advance (machine_of x c.memory) in
      let over : IsOver (go w n from) = subst IsOver (sym stops) tt in
      let q = turn_ends_as_step p c t b runs in
      let ends = ends_over (go w q.0 from) (step p t (state_of c)) q.1 in
      let stopped : EndsAs (Stopped m) (step p t (state_of c)) = subst (λ r. EndsAs r (step p t (state_of c))) (same_end w from q.0 n ends.0 over ∙ stops) q.1 in
      let able : step p t (state_of c) ≢ source.Blocked = λ z. subst (λ o. EndsAs (Stopped m) o) z stopped in
      let k : Settings = record { program = p; armed = None; input = []; limit = 0 } in
      let s = turn_is_step p k c t b runs able in
      let next : target_next s.0 k c (e.Step t) ≡ after_turn c t x (go w s.0 from) = ap (λ o. option_and_then (λ y. after_turn c t y (turn (setting_of c t false) s.0 (machine_of y c.memory))) (live_in o)) there in
      let after : after_turn c t x (go w s.0 from) ≡ Some s.1 = sym next ∙ s.2 in
      let same : go w s.0 from ≡ Stopped m = same_end w from s.0 n (after_over c t x s.1 (go w s.0 from) after) over ∙ stops in
      (s.1, sym (ap (λ r. after_turn c t x r) same) ∙ after, s.4)

  pub leads_on : (n : ℕ) (m : Machine) → turn w n (machine_of x c.memory) ≡ Stopped m → m.memory.marks ≡ c.memory.marks → IsThreadOf c.code t (target_of m) m.memory
  leads_on n m stops marks =
      let s = stopped_between n m stops in
      let y = target_of m in
      let ts = slice_set c.threads t (Some y) in
      let d1 : TargetCore = record (with_target (counted c x.count m.count) t (Some y)) { memory = m.memory } in
      let long : length c.memory.marks ≡ length c.threads = counts-threads c.memory.marks (state_of c) b.marked ∙ length_map (λ o. option_map (λ z. seen c.code z) o) c.threads in
      let none : slice_get m.memory.marks (length ts) ≡ None =
      ap (λ l. slice_get l (length ts)) marks ∙ (ap (λ i. slice_get c.memory.marks i) (length_set c.threads t (Some y) ∙ sym long) ∙ get_past c.memory.marks) in
      let is : Some d1 ≡ Some s.0 = sym (ap (λ o. Some (joined_by d1 o)) none) ∙ s.1 in
      let between : IsBetween p d1 = subst (λ z. IsBetween p z) (sym (some_same d1 s.0 is)) s.2 in
      let placed = get_set c.threads t (Some x) (Some y) there in
      record {
        program = p;
        core = d1;
        between = between;
        code_is = refl;
        memory_is = refl;
        there = placed;
        mode = running_mode p y (omega arith) (all_at (λ o. Rests p o) ts t (Some y) between.threads placed);
      }

  pub stands_on : (n : ℕ) (m : Machine) → turn w n (machine_of x c.memory) ≡ Stopped m → IsRunning p (target_of m)
  stands_on n m stops =
      let s = stopped_between n m stops in
      let y = target_of m in
      let d1 : TargetCore = record (with_target (counted c x.count m.count) t (Some y)) { memory = m.memory } in
      let o = slice_get m.memory.marks (length d1.threads) in
      let placed = joined_keeps d1 o t (Some y) (get_set c.threads t (Some x) (Some y) there) in
      let between : IsBetween p (joined_by d1 o) = subst (λ z. IsBetween p z) (sym (some_same (joined_by d1 o) s.0 s.1)) s.2 in
      let rests = all_at (λ o. Rests p o) (joined_by d1 o).threads t (Some y) between.threads placed in
      runs_of p y (running_mode p y (omega arith) rests) rests

-- a turn of a thread is never stuck
pub turn_never_stuck : law.ATurnIsNeverStuck
turn_never_stuck code t x memory n h e =
    let here : turn (calm h.core.code t) n (machine_of x h.core.memory) ≡ Stuck = ap (λ k. turn (calm k t) n (machine_of x h.core.memory)) h.code_is ∙ (ap (λ k. turn (calm code t) n (machine_of x k)) h.memory_is ∙ e) in
    never_stuck h.program h.core t x h.between h.there h.mode n here

-- a turn leads to where another one can be made
pub turn_leads_on : law.ATurnLeadsToATurn
turn_leads_on code t x memory n m h e marks =
    let here : turn (calm h.core.code t) n (machine_of x h.core.memory) ≡ Stopped m = ap (λ k. turn (calm k t) n (machine_of x h.core.memory)) h.code_is ∙ (ap (λ k. turn (calm code t) n (machine_of x k)) h.memory_is ∙ e) in
    let same : m.memory.marks ≡ h.core.memory.marks = marks ∙ sym (ap (λ (k : Memory). k.marks) h.memory_is) in
    subst (λ k. IsThreadOf k t (target_of m) m.memory) h.code_is (leads_on h.program h.core t x h.between h.there h.mode n m here same)

-- where a turn ends at a mark the thread stands there
pub turn_ends_standing : law.ATurnEndsStanding
turn_ends_standing code t x memory n m h e =
    let here : turn (calm h.core.code t) n (machine_of x h.core.memory) ≡ Stopped m = ap (λ k. turn (calm k t) n (machine_of x h.core.memory)) h.code_is ∙ (ap (λ k. turn (calm code t) n (machine_of x k)) h.memory_is ∙ e) in
    stands_on h.program h.core t x h.between h.there h.mode n m here

-- the thread runs
pub thread_stands : law.AThreadStands
thread_stands code t x memory h =
    runs_of h.program x h.mode (all_at (λ o. Rests h.program o) h.core.threads t (Some x) h.between.threads h.there)

-- so does a thread with another count
pub counts_tell_nothing : law.CountsTellNothing
counts_tell_nothing code t x memory n h =
    let p = h.program in
    let c = h.core in
    let y = record x { count = n } in
    let runs = thread_stands code t x memory h in
    let b = subst (λ k. IsBetween p (record c { code = k })) h.between.code h.between in
    let between = (stayed p c b t x h.there runs n).1 in
    let d : TargetCore = with_target (counted (record c { code = code_of p }) x.count n) t (Some y) in
    let of_program : IsThreadOf (code_of p) t y c.memory = record {
      program = p;
      core = d;
      between = between;
      code_is = refl;
      memory_is = refl;
      there = get_set c.threads t (Some x) (Some y) h.there;
      mode = h.mode;
    } in
    subst (λ k. IsThreadOf code t y k) h.memory_is (subst (λ k. IsThreadOf k t y c.memory) (sym h.between.code ∙ h.code_is) of_program)
