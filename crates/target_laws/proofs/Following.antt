-- The target's run follows the run of the source.
use Rattle.std.proofs.Common.{◌≡◌, inl, inr, ℕ, zero, suc, ◌+◌, ◌<◌, true, false, List, [], ◌∷◌, ◌++◌, length, Option, Some, None, Result, Ok, Err, refl, sym, ap, ◌∙◌, subst, arith, lt-ltb, append_assoc, ◌==◌}
use Rattle.std.specs.Prelude.{All, MatchOption, ⊤, slice_get}
use Rattle.std.specs.Option.{option_map}
use Rattle.std.specs.List.{list_any}
use Rattle.std.proofs.lemmas.List.{append-nil}
use Rattle.std.proofs.lemmas.List.Elements.{All-tail}
use Rattle.std.proofs.lemmas.List.Sums.{fold-append}
use Rattle.std.proofs.lemmas.Option.{slice_get_within}
use Rattle.c_tree.proofs.BoolLemmas.{true_false, and_first, and_last}
use Rattle.c_tree.proofs.StepLemmas.{able_not_blocked}
use Rattle.c_tree.specs.declared.event.Event.{Event}
use Rattle.c_tree.specs.declared.event.EventKind.{EventKind}
use Rattle.c_tree.specs.declared.event.EventKind.TheVariants as e
use Rattle.c_tree.specs.declared.event.Reason.{Reason}
use Rattle.c_tree.specs.declared.event.Reason.TheVariants as reason
use Rattle.c_tree.specs.declared.lifted.Lifted.{Lifted}
use Rattle.c_tree.specs.declared.run.Armed.{Armed}
use Rattle.c_tree.specs.declared.run.Phase.TheVariants as phase
use Rattle.c_tree.specs.declared.run.Settings.{Settings}
use Rattle.c_tree.specs.declared.state.Frame.{Frame}
use Rattle.c_tree.specs.declared.state.State.{State}
use Rattle.c_tree.specs.Able.{able, is_update_place}
use Rattle.c_tree.specs.Formed.{IsFormed}
use Rattle.c_tree.specs.Run.{Core, first, run, run_from, next, stepped, decided, new_program, is_parked, is_after, without}
use Rattle.c_tree.specs.Step.{Outcome, Done, Trapped, Finished, Blocked, frames_at, frames_in, is_live, top_of, at_frame, step}
use Rattle.c_tree.specs.Update.{update}
use Rattle.c_tree.specs.Valid.{Valid, ValidStack, ChainedFrames}
use Rattle.state_laws.specs.Laws.{IsWellArmed}
use Rattle.state_laws.proofs.Frames.{frames_of_live}
use Rattle.state_laws.proofs.Legal.{request_is, step_is, park_is, resume_is, refused, update_is, run_cons}
use Rattle.state_laws.proofs.ParkedStand.{step_parts, park_parts, live_of_standing, live_parked}
use Rattle.state_laws.proofs.UpdateShape.{one_more}
use Rattle.state_laws.proofs.WholeRuns.{whole_run_is_valid}
use Rattle.state_laws.proofs.Zips.{all_at}
use Rattle.target_code.specs.declared.activation.Mode.TheVariants.{Saved}
use Rattle.target_code.specs.Between.{IsRunning, IsAtRest, IsBetween}
use Rattle.target_code.specs.Code.{TargetCode, code_of}
use Rattle.target_code.specs.Seen.{seen, seen_in}
use Rattle.target_code.specs.Target.{Target}
use Rattle.target_code.specs.TargetRun.{TargetCore, seen_threads, state_of, target_first, target_next, target_after, target_run, IsTargetRun}
use Rattle.target_laws.specs.Laws.{left_by, Runs}
use Rattle.target_laws.specs.Laws as law
use Rattle.target_laws.proofs.FirstCore.{first_between}
use Rattle.target_laws.proofs.OneTarget.{more_fuel, next_longer}
use Rattle.target_laws.proofs.Parking.{parks_on, resumes_on}
use Rattle.target_laws.proofs.SavedThreads.{is_saved_mode, saved_at, saved_of, mode_saved, parks, resumes}
use Rattle.target_laws.proofs.Slices.{get_map}
use Rattle.target_laws.proofs.Sounds.{valid_stacks_are_sound}
use Rattle.target_laws.proofs.TurnIsStep.{turns_on}
use Rattle.target_laws.proofs.Turned.{Threads}
use Rattle.target_laws.proofs.UpdateParts.{HaveFrames}
use Rattle.target_laws.proofs.Updating.{each_saved, updates_on}

-- a core of the target stands for that of the source
pub record Follows (c : Core) (d : TargetCore) : Type 0 where
  pub state : state_of d ≡ c.state
  pub between : IsBetween c.program d
  pub parked : (u : ℕ) → is_parked c u ≡ saved_at d.threads u

-- an event leads the target to a core that stands for the source's
abbrev pub Onward : Settings → TargetCore → EventKind → Core → Type 0
Onward k d x c = (n : ℕ) × (next_core : TargetCore) × (target_next n k d x ≡ Some next_core) × Follows c next_core

-- the thread that stands for these frames
pub record Standing (code : TargetCode) (ts : List (Option Target)) (t : ℕ) (fr : List Frame) : Type 0 where
  pub thread : Target
  pub there : slice_get ts t ≡ Some (Some thread)
  pub seen_is : seen code thread ≡ fr

thread_of : (code : TargetCode) (ts : List (Option Target)) (t : ℕ) (fr : List Frame) → slice_get (seen_threads code ts) t ≡ Some (Some fr) → Standing code ts t fr
thread_of code [] t fr e = cc
thread_of code (None ∷ ts) zero fr e = cc
thread_of code (Some x ∷ ts) zero fr e = record { thread = x; there = refl; seen_is = cc }
thread_of code (o ∷ ts) (suc t) fr e = let r = thread_of code ts t fr e in record { thread = r.thread; there = r.there; seen_is = r.seen_is }

saved_is_true : (m : Target) → m.mode ≡ Saved → is_saved_mode m.mode ≡ true
saved_is_true m e = ap is_saved_mode e

running_one : (p : Lifted) (x : Target) → IsAtRest p x → is_saved_mode x.mode ≡ false → IsRunning p x
running_one p x (inl r) h = r
running_one p x (inr q) h = absurd (true_false (sym (saved_is_true x q.mode) ∙ h))

-- a live thread that isn't parked runs
record RunsAt (c : Core) (d : TargetCore) (t : ℕ) : Type 0 where
  thread : Target
  there : slice_get d.threads t ≡ Some (Some thread)
  runs : IsRunning c.program thread
  seen_is : seen d.code thread ≡ frames_at c.state t

threads_are : (c : Core) (d : TargetCore) → Follows c d → seen_threads d.code d.threads ≡ c.state.threads
threads_are c d h = ap (λ (s : State). s.threads) h.state

runs_at : (c : Core) (d : TargetCore) (t : ℕ) → Follows c d → is_live c.state t ≡ true → is_parked c t ≡ false → RunsAt c d t
runs_at c d t h live free =
    let fr = frames_of_live c.state t live in
    let s = thread_of d.code d.threads t (frames_at c.state t) (ap (λ l. slice_get l t) (threads_are c d h) ∙ fr.0) in
    let not_saved : is_saved_mode s.thread.mode ≡ false = sym (saved_of d.threads t (Some s.thread) s.there) ∙ (sym (h.parked t) ∙ free) in
    let rests = all_at (λ o. MatchOption o ⊤ (λ x. IsAtRest c.program x)) d.threads t (Some s.thread) h.between.threads s.there in
    record { thread = s.thread; there = s.there; runs = running_one c.program s.thread rests not_saved; seen_is = s.seen_is }

stepped_is : (c : Core) (t : ℕ) (o : Outcome) (d : TargetCore) → state_of d ≡ left_by c.state o → IsBetween c.program d → ((u : ℕ) → is_parked c u ≡ saved_at d.threads u) → Follows (stepped c t o) d
stepped_is c t (Done s) d e b p = record { state = e; between = b; parked = p }
stepped_is c t (Trapped cause) d e b p = record { state = e; between = b; parked = p }
stepped_is c t (Finished n) d e b p = record { state = e; between = b; parked = p }
stepped_is c t Blocked d e b p = record { state = e; between = b; parked = p }

steps_on : (k : Settings) (c : Core) (d : TargetCore) (t : ℕ) → Follows c d → able c.program c.state t ≡ true → is_parked c t ≡ false → Onward k d (e.Step t) (stepped c t (step c.program t c.state))
steps_on k c d t h able_is free =
    let r = runs_at c d t h (and_first (is_live c.state t) _ able_is) free in
    let runs : Runs d t = record { thread = r.thread; is = r.there; mode = ap (λ (x : Target). x.mode) r.runs.is } in
    let same : step c.program t (state_of d) ≡ step c.program t c.state = ap (λ s. step c.program t s) h.state in
    let q = turns_on c.program k d t h.between runs (λ stuck. able_not_blocked c.program t c.state able_is (sym same ∙ stuck)) in
    let left : state_of q.1 ≡ left_by c.state (step c.program t c.state) = q.3 ∙ ap (λ s. left_by s (step c.program t s)) h.state in
    (q.0, q.1, q.2, stepped_is c t (step c.program t c.state) q.1 left q.4 (λ u. h.parked u ∙ sym (q.5 u)))

live_within : (d : TargetCore) (t : ℕ) (x : Target) → slice_get d.threads t ≡ Some (Some x) → t < length d.threads
live_within d t x e = slice_get_within d.threads t (Some x) e

parks_follow : (k : Settings) (c : Core) (d : TargetCore) (t : ℕ) → Follows c d → (is_live c.state t ≡ true) × (is_update_place (at_frame c.program (top_of (frames_at c.state t))).act ≡ true) → is_parked c t ≡ false → Onward k d (e.Park t) (record c { parked = t ∷ c.parked })
parks_follow k c d t h stands free =
    let r = runs_at c d t h stands.0 free in
    let code_is : seen (code_of c.program) r.thread ≡ frames_at c.state t = sym (ap (λ k. seen k r.thread) h.between.code) ∙ r.seen_is in
    let update : is_update_place (at_frame c.program (top_of (seen (code_of c.program) r.thread))).act ≡ true = ap (λ l. is_update_place (at_frame c.program (top_of l)).act) code_is ∙ stands.1 in
    let m = parks_on c.program k d t r.thread h.between r.there r.runs update in (
      m.fuel,
      m.core,
      m.next,
      record {
        state = m.state ∙ h.state;
        between = m.between;
        parked = λ u. parks c.parked d.threads t m.thread (live_within d t r.thread r.there) m.is_so h.parked u ∙ ap (λ l. saved_at l u) (sym m.threads);
      },
    )

get_saved : (ts : List (Option Target)) (t : ℕ) → saved_at ts t ≡ true → (x : Target) × (slice_get ts t ≡ Some (Some x)) × (is_saved_mode x.mode ≡ true)
get_saved [] zero h = absurd (true_false (sym h))
get_saved [] (suc t) h = absurd (true_false (sym h))
get_saved (None ∷ ts) zero h = absurd (true_false (sym h))
get_saved (Some x ∷ ts) zero h = (x, refl, h)
get_saved (o ∷ ts) (suc t) h = get_saved ts t h

resumes_follow : (k : Settings) (c : Core) (d : TargetCore) (t : ℕ) → Follows c d → Valid c.program c.state → is_parked c t ≡ true → Onward k d (e.Resume t) (record c { parked = without t c.parked })
resumes_follow k c d t h valid parked =
    let s = get_saved d.threads t (sym (h.parked t) ∙ parked) in
    let x = s.0 in
    let mode = mode_saved x.mode s.2 in
    let seen_is : seen d.code x ≡ x.saved = ap (λ m. seen_in d.code m x.activations x.saved) mode in
    let there : slice_get c.state.threads t ≡ Some (Some x.saved) =
    ap (λ l. slice_get l t) (sym (threads_are c d h)) ∙ (get_map (λ o. option_map (λ y. seen d.code y) o) d.threads t (Some x) s.1 ∙ ap (λ l. Some (Some l)) seen_is) in
    let stack = all_at (λ o. MatchOption o ⊤ (λ frames. ValidStack c.program (length c.state.heap.objects) frames)) c.state.threads t (Some x.saved) valid.stacks there in
    let m = resumes_on c.program k d t x h.between s.1 mode (valid_stacks_are_sound c.program (length c.state.heap.objects) x.saved stack) stack.depth in (
      m.fuel,
      m.core,
      m.next,
      record {
        state = m.state ∙ h.state;
        between = m.between;
        parked = λ u. resumes c.parked d.threads t m.thread (live_within d t x s.1) m.is_so h.parked u ∙ ap (λ l. saved_at l u) (sym m.threads);
      },
    )

chained_long : (p : Lifted) (fr : List Frame) → ChainedFrames p fr → 0 < length fr
chained_long p [] h = absurd h
chained_long p (f ∷ fr) h = omega arith

have_frames : (p : Lifted) (n : ℕ) (ts : Threads) → All (λ o. MatchOption o ⊤ (λ frames. ValidStack p n frames)) ts → HaveFrames ts
have_frames p n [] all = tt
have_frames p n (None ∷ ts) all = have_frames p n ts (All-tail (λ o. MatchOption o ⊤ (λ frames. ValidStack p n frames)) None ts all)
have_frames p n (Some fr ∷ ts) all =
    let stack : ValidStack p n fr = all 0 None (omega arith) in
    (chained_long p fr stack.chained, have_frames p n ts (All-tail (λ o. MatchOption o ⊤ (λ frames. ValidStack p n frames)) (Some fr) ts all))

updates_follow : (k : Settings) (c : Core) (d : TargetCore) (a : Armed) (s : State) → Follows c d → Valid c.program c.state → k.armed ≡ Some a → update a.patch c.state ≡ Ok s → IsFormed a.patch.new → Valid a.patch.new s → ((u : ℕ) → is_live c.state u ≡ true → is_parked c u ≡ true)
    → Onward k d e.Update (record c { program = a.patch.new; state = s; phase = phase.Updated })
updates_follow k c d a s h valid armed gives formed new_valid all_parked =
    let stacks = λ (o : Option (List Frame)). MatchOption o ⊤ (λ frames. ValidStack c.program (length c.state.heap.objects) frames) in
    let saved = each_saved c.program d.threads h.between.threads (λ u x there.
    let fr : slice_get c.state.threads u ≡ Some (Some (seen d.code x)) = ap (λ l. slice_get l u) (sym (threads_are c d h)) ∙ get_map (λ o. option_map (λ y. seen d.code y) o) d.threads u (Some x) there in
    let stack : ValidStack c.program (length c.state.heap.objects) (seen d.code x) = all_at stacks c.state.threads u (Some (seen d.code x)) valid.stacks fr in
    let long : 0 < length (frames_at c.state u) = subst (λ l. 0 < length l) (sym (ap frames_in fr)) (chained_long c.program (seen d.code x) stack.chained) in
    let live : is_live c.state u ≡ true = lt-ltb 0 (length (frames_at c.state u)) long in
    mode_saved x.mode (sym (saved_of d.threads u (Some x) there) ∙ (sym (h.parked u) ∙ all_parked u live))) in
    let some = have_frames a.patch.new (length s.heap.objects) s.threads new_valid.stacks in
    let q = updates_on c.program k a d s h.between armed (ap (λ t. update a.patch t) h.state ∙ gives) formed some saved in
    (q.0, q.1, q.2, record { state = q.3; between = q.4; parked = λ u. h.parked u ∙ sym (q.5 u) })

abbrev decided_by : Option Armed → State → Result State Reason
decided_by armed s = elim armed as (λ _. Result State Reason) [ None ↦ Err reason.Memory | Some a ↦ update a.patch s ]

abbrev program_by : Option Armed → Lifted → Lifted
program_by armed p = elim armed as (λ _. Lifted) [ None ↦ p | Some a ↦ a.patch.new ]

-- a program is formed, and a state valid for it
abbrev pub IsKept : Lifted → State → Type 0
IsKept p s = IsFormed p × Valid p s

update_case : (k : Settings) (c : Core) (d : TargetCore) (s : State) (o : Option Armed) → k.armed ≡ o → Follows c d → Valid c.program c.state → decided k c ≡ Ok s → IsKept (new_program k c) s → ((u : ℕ) → is_live c.state u ≡ true → is_parked c u ≡ true)
    → Onward k d e.Update (record c { program = new_program k c; state = s; phase = phase.Updated })
update_case k c d s None armed h valid decides keeps all_parked =
    let memory : decided k c ≡ Err reason.Memory = ap (λ o. decided_by o c.state) armed in absurd (let no : ⊥ = cc in no)
update_case k c d s (Some a) armed h valid decides keeps all_parked =
    let gives : update a.patch c.state ≡ Ok s = sym (ap (λ o. decided_by o c.state) armed) ∙ decides in
    let program : new_program k c ≡ a.patch.new = ap (λ o. program_by o c.program) armed in
    let new : IsKept a.patch.new s = subst (λ p. IsKept p s) program keeps in
    subst (λ p. Onward k d e.Update (record c { program = p; state = s; phase = phase.Updated })) (sym program) (updates_follow k c d a s h valid armed gives new.0 new.1 all_parked)

stays : (k : Settings) (c c2 : Core) (d : TargetCore) → Follows c d → c2.state ≡ c.state → c2.program ≡ c.program → c2.parked ≡ c.parked → Follows c2 d
stays k c c2 d h s p q =
    record {
      state = h.state ∙ sym s;
      between = subst (λ x. IsBetween x d) (sym p) h.between;
      parked = λ u. ap (λ ps. list_any (λ v. v == u) ps) q ∙ h.parked u;
    }

-- an event leads the target on as it leads the source
pub event_follows : (k : Settings) (c c2 : Core) (d : TargetCore) (x : EventKind) → Follows c d → Valid c.program c.state → next k c x ≡ Some c2 → IsKept c2.program c2.state → Onward k d x c2
unfolding target_next
event_follows k c c2 d e.Request h valid leads keeps =
    let r = request_is k c c2 leads in
    subst (λ q. Onward k d e.Request q) (sym r.1) (0, d, refl, stays k c (record c { phase = phase.Asked }) d h refl refl refl)
event_follows k c c2 d (e.Step t) h valid leads keeps =
    let r = step_is k c c2 t leads in
    let parts = step_parts k c t r.0 in
    subst (λ q. Onward k d (e.Step t) q) (sym r.1) (steps_on k c d t h parts.able parts.free)
event_follows k c c2 d (e.Park t) h valid leads keeps =
    let r = park_is k c c2 t leads in
    let parts = park_parts c t r.0 in
    subst (λ q. Onward k d (e.Park t) q) (sym r.1) (parks_follow k c d t h (live_of_standing c t parts.stands, and_last (is_live c.state t) _ parts.stands) parts.free)
event_follows k c c2 d e.Update h valid leads keeps =
    let u = update_is k c c2 leads in
    let kept : IsKept (new_program k c) u.state = subst (λ (q : Core). IsKept q.program q.state) u.is keeps in
    subst (λ q. Onward k d e.Update q) (sym u.is) (update_case k c d u.state k.armed refl h valid u.decides kept (λ t live. live_parked c t u.may live))
event_follows k c c2 d (e.Refuse r) h valid leads keeps =
    let f = refused k c c2 r leads in
    subst (λ q. Onward k d (e.Refuse r) q) (sym f.is) (0, d, refl, stays k c (record c { phase = phase.Refused r }) d h refl refl refl)
event_follows k c c2 d (e.Resume t) h valid leads keeps =
    let r = resume_is k c c2 t leads in
    subst (λ q. Onward k d (e.Resume t) q) (sym r.1) (resumes_follow k c d t h valid (and_last (is_after c.phase) (is_parked c t) r.0))

-- one more event of the target's run
pub target_more : (k : Settings) (es : List Event) (x : Event) (d d2 : TargetCore) (n : ℕ) → IsTargetRun k es d → target_next n k d x.kind ≡ Some d2 → IsTargetRun k (es ++ x ∷ []) d2
target_more k es x d d2 n r leads =
    let all = r.fuel + n in
    let front : target_run all k es ≡ Some d = more_fuel r.fuel all k es d (omega arith) r.leads in
    let last : target_next all k d x.kind ≡ Some d2 = next_longer n all k d x.kind (omega arith) d2 leads in
    record {
      fuel = all;
      leads = fold-append (target_after all k) (Some (target_first k)) es (x ∷ []) ∙ (ap (λ o. target_after all k o x) front ∙ last);
    }

-- what the run leads to, from a run of the source and one of the target that stands for it
abbrev pub Reached : Settings → List Event → Core → Type 0
Reached k es c = (d : TargetCore) × IsTargetRun k es d × Follows c d

follows_from : (k : Settings) → IsFormed k.program → IsWellArmed k → (front es : List Event) (c c2 : Core) (d : TargetCore) → run k front ≡ Some c → IsTargetRun k front d → Follows c d → run_from k c es ≡ Some c2 → Reached k (front ++ es) c2
follows_from k formed well front [] c c2 d r target h e =
    let same : c ≡ c2 = cc in
    let none : front ≡ front ++ [] = sym (append-nil front) in
    subst (λ l. Reached k l c2) none (subst (λ q. Reached k front q) same (d, target, h))
follows_from k formed well front (x ∷ es) c c2 d r target h e =
    let on = run_cons k c c2 x es e in
    let longer : run k (front ++ x ∷ []) ≡ Some on.between = one_more k (first k) on.between c front x r on.first in
    let valid = whole_run_is_valid k front c formed well r in
    let keeps = whole_run_is_valid k (front ++ x ∷ []) on.between formed well longer in
    let q = event_follows k c on.between d x.kind h valid.1 on.first keeps in
    let more = target_more k front x d q.1 q.0 target q.2 in
    let rest = follows_from k formed well (front ++ x ∷ []) es on.between c2 q.1 longer more q.3 on.rest in
    subst (λ l. Reached k l c2) (append_assoc front (x ∷ []) es) rest

none_saved : (k : Settings) (u : ℕ) → is_parked (first k) u ≡ saved_at (target_first k).threads u
none_saved k zero = refl
none_saved k (suc u) = refl

-- the target's run of a formed, well armed program's events leads to the state that the source's leads to
pub targets_follow_runs : law.TargetsFollowRuns
targets_follow_runs k es c formed well r =
    let f = first_between k.program k.input formed in
    let start : IsTargetRun k [] (target_first k) = record { fuel = 0; leads = refl } in
    let q = follows_from k formed well [] es (first k) c (target_first k) refl start (record { state = f.0; between = f.1; parked = none_saved k }) r in
    (q.0, q.1, q.2.state, q.2.between)
