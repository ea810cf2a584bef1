-- A turn of a thread that runs makes its step.
use Rattle.std.proofs.Common.{◌≡◌, ◌≢◌, inl, inr, ℕ, ◌+◌, Bool, true, false, List, ◌∷◌, length, reverse, Some, refl, sym, ap, ◌∙◌, subst, arith, lt-ltb}
use Rattle.std.specs.Prelude.{slice_get, if◌then◌else◌}
use Rattle.std.specs.Option.{option_and_then, option_map}
use Rattle.std.proofs.lemmas.List.{length-reverse}
use Rattle.c_tree.specs.declared.event.EventKind.TheVariants as e
use Rattle.c_tree.specs.declared.lifted.Lifted.{Lifted}
use Rattle.c_tree.specs.declared.lifted.LExpr.{LExpr}
use Rattle.c_tree.specs.declared.place.Place.{Place}
use Rattle.c_tree.specs.declared.run.Settings.{Settings}
use Rattle.c_tree.specs.declared.state.Frame.{Frame}
use Rattle.c_tree.specs.Layout.{place_at}
use Rattle.c_tree.specs.Step.{Outcome, function_of, frames_at, frames_in, top_of, at_frame, is_live, acting, acted, step}
use Rattle.c_tree.specs.Step as source
use Rattle.state_laws.proofs.Places.{where_is}
use Rattle.state_laws.proofs.Zips.{all_at}
use Rattle.store_mem.specs.Memory.{Memory}
use Rattle.target_code.specs.declared.activation.Mode.TheVariants.{Running, Saved}
use Rattle.target_code.specs.declared.code.CodeFunction.{CodeFunction}
use Rattle.target_code.specs.Between.{Stands, frames, running, IsRunning, IsAtRest, IsBetween}
use Rattle.target_code.specs.Code.{code_of, marks}
use Rattle.target_code.specs.Machine.{Setting, Machine, Ran, Stopped, Trapped, Ended, Finished, Unwound, Unfinished, Stuck, function_in, machine_of, turn}
use Rattle.target_code.specs.Machine as machine
use Rattle.target_code.specs.Seen.{seen}
use Rattle.target_code.specs.Target.{Target}
use Rattle.target_code.specs.TargetRun.{TargetCore, seen_threads, state_of, live_in, setting_of, after_turn, target_next}
use Rattle.target_laws.specs.Laws.{left_by, Runs, setting, EndsAs}
use Rattle.target_laws.specs.Laws as law
use Rattle.target_laws.proofs.AfterTurns.{leads}
use Rattle.target_laws.proofs.Calls.{thread}
use Rattle.target_laws.proofs.Covered.{covered_at}
use Rattle.target_laws.proofs.Frames.{top_reverse}
use Rattle.target_laws.proofs.Instructions.{Tells, Turning}
use Rattle.store_mem.proofs.MarkLemmas.{counts-threads, counts-live, tells-live}
use Rattle.target_laws.proofs.Places.{Here, here, code_at, place_within}
use Rattle.target_laws.proofs.SavedThreads.{Rests, saved_at}
use Rattle.target_laws.proofs.SeenFrames.{stands_seen}
use Rattle.target_laws.proofs.Slices.{get_map}
use Rattle.target_laws.proofs.Statements.{acted_ends}
use Rattle.target_laws.proofs.Turned.{Threads, Agrees}

not_saved : Running ≡ Saved → ⊥
not_saved e = cc

-- a thread in mode running runs
pub runs_of : (p : Lifted) (x : Target) → x.mode ≡ Running → IsAtRest p x → IsRunning p x
runs_of p x m (inl r) = r
runs_of p x m (inr q) = absurd (not_saved (sym m ∙ q.mode))

-- a thread of a core between two events whose code is that of the program
module _ (p : Lifted) (c : TargetCore) (b : IsBetween p (record c { code = code_of p })) (t : ℕ) (x : Target) (there : slice_get c.threads t ≡ Some (Some x)) (runs : IsRunning p x) where
  abbrev core : TargetCore
  core = record c { code = code_of p }

  abbrev ts0 : Threads
  ts0 = seen_threads (code_of p) c.threads

  abbrev fs : List Frame
  fs = frames_at (state_of core) t

  frames_are : fs ≡ reverse (runs.frame ∷ frames runs.waits)
  frames_are =
      ap frames_in (get_map (λ o. option_map (λ y. seen (code_of p) y) o) c.threads t (Some x) there)
      ∙ (ap (λ k. seen (code_of p) k) runs.is ∙ stands_seen p runs.frame runs.pc runs.waits x.returned x.count runs.stands runs.wait)

  top_is : top_of fs ≡ runs.frame
  top_is = ap top_of frames_are ∙ top_reverse runs.frame (frames runs.waits)

  stands : Stands p (top_of fs) runs.pc
  stands = subst (λ g. Stands p g runs.pc) (sym top_is) runs.stands

  turning : Turning p fs runs.waits
  turning = record { fits = stands.fits; waits = runs.wait; frames_are = frames_are ∙ ap (λ g. reverse (g ∷ frames runs.waits)) (sym top_is) }

  tells : Tells p c.memory ts0
  tells = record {
    fields = b.fields;
    long = counts-threads c.memory.marks (state_of core) b.marked;
    live = λ u. tells-live c.memory.marks (state_of core) u b.marked;
    live_count = counts-live c.memory.marks (state_of core) b.marked;
  }

  live_is : is_live (state_of core) t ≡ true
  live_is = lt-ltb 0 (length fs) (let e = ap length frames_are in omega (arith, e, length-reverse (runs.frame ∷ frames runs.waits)))

  -- the turn ends as the step does
  pub turn_agrees : (n : ℕ) × Agrees p t c.memory ts0 (turn (setting p t false) n (machine_of x c.memory)) (step p t (state_of core))
  turn_agrees =
      let f = top_of fs in
      let fn = function_of p f.function in
      let at = place_at fn f.place in
      let code = code_at p f.function stands.fits.within in
      let h0 = here p code.t fn f.place runs.pc stands.mark in
      let h = subst (λ (k : CodeFunction). Here code.t k.body (marks fn) f.place runs.pc at) (sym code.is) h0 in
      let text = λ (text : List ℕ) (args : List LExpr). code.text f.place text args (place_within fn f.place runs.pc stands.mark) in
      let z = thread p t c.memory ts0 fs in
      let ends = acted_ends p t c.memory ts0 fs runs.pc runs.waits x.returned turning code.t at.act at.follow tells text refl (covered_at p f.function f.place b.formed stands.fits.within) h.shaped h.has h.leads (x.count + 1) in
      let step_is : step p t (state_of core) ≡ acted z at.act at.follow =
      ap (λ (k : Bool). if k then acted z (at_frame p f).act (at_frame p f).follow else source.Blocked) live_is
      ∙ ap (λ (a : Place). acted z a.act a.follow) (where_is p f stands.fits.within) in
      let thread_is : x ≡ running f runs.pc runs.waits x.returned x.count = runs.is ∙ ap (λ g. running g runs.pc runs.waits x.returned x.count) (sym top_is) in
      let turn_is : turn (setting p t false) ends.0 (machine_of x c.memory) ≡ turn (setting p t false) ends.0 (machine_of (running f runs.pc runs.waits x.returned x.count) c.memory) = ap (λ k. turn (setting p t false) ends.0 (machine_of k c.memory)) thread_is in
      (ends.0, subst (λ r. Agrees p t c.memory ts0 r (step p t (state_of core))) (sym turn_is) (subst (λ o. Agrees p t c.memory ts0 (turn (setting p t false) ends.0 (machine_of (running f runs.pc runs.waits x.returned x.count) c.memory)) o) (sym step_is) ends.1))

blocked_agrees : (p : Lifted) (t : ℕ) (memory : Memory) (ts : Threads) (r : Ran) (o : Outcome) → o ≡ source.Blocked → Agrees p t memory ts r o → r ≡ machine.Blocked
blocked_agrees p t memory ts r o e h = from r (subst (λ k. Agrees p t memory ts r k) e h) where
  from : (r : Ran) → Agrees p t memory ts r source.Blocked → r ≡ machine.Blocked
  from machine.Blocked h = refl
  from _ h = absurd h

-- what a turn of a core leads to
abbrev pub Turns : Lifted → Settings → ℕ → TargetCore → Type 0
Turns p k t c =
    IsBetween p c → Runs c t → step p t (state_of c) ≢ source.Blocked
    → (n : ℕ) × (d : TargetCore) × (target_next n k c (e.Step t) ≡ Some d) × (state_of d ≡ left_by (state_of c) (step p t (state_of c))) × IsBetween p d × ((u : ℕ) → saved_at d.threads u ≡ saved_at c.threads u)

turns : (p : Lifted) (k : Settings) (c : TargetCore) (t : ℕ) → Turns p k t (record c { code = code_of p })
unfolding target_next
turns p k c t b r able =
    let x = r.thread in
    let runs = runs_of p x r.mode (all_at (λ o. Rests p o) c.threads t (Some x) b.threads r.is) in
    let core = record c { code = code_of p } in
    let a = turn_agrees p c b t x r.is runs in
    let ran = turn (setting p t false) a.0 (machine_of x c.memory) in
    let q = leads p c b t x r.is runs ran (step p t (state_of core)) a.1 able in
    let next : target_next a.0 k core (e.Step t) ≡ after_turn core t x ran = ap (λ o. option_and_then (λ y. after_turn core t y (turn (setting_of core t false) a.0 (machine_of y c.memory))) (live_in o)) r.is in
    (a.0, q.0, next ∙ q.1, q.2, q.3, q.4)

-- a turn of a core between two events is a step, and leaves the same threads saved
pub turns_on : (p : Lifted) (k : Settings) (c : TargetCore) (t : ℕ) → Turns p k t c
turns_on p k c t b r able = subst (λ code. Turns p k t (record c { code = code })) (sym b.code) (turns p k c t) b r able

-- a turn is a step
pub turn_is_step : law.ATurnIsAStep
turn_is_step p k c t b r able = let q = turns_on p k c t b r able in (q.0, q.1, q.2, q.3, q.4)

abbrev WaitsToo : Lifted → ℕ → TargetCore → Type 0
WaitsToo p t c =
    IsBetween p c → (r : Runs c t) → step p t (state_of c) ≡ source.Blocked → (n : ℕ) × (turn (setting_of c t false) n (machine_of r.thread c.memory) ≡ machine.Blocked)

waits_too : (p : Lifted) (c : TargetCore) (t : ℕ) → WaitsToo p t (record c { code = code_of p })
waits_too p c t b r waits =
    let x = r.thread in
    let runs = runs_of p x r.mode (all_at (λ o. Rests p o) c.threads t (Some x) b.threads r.is) in
    let a = turn_agrees p c b t x r.is runs in
    (a.0, blocked_agrees p t c.memory (seen_threads (code_of p) c.threads) (turn (setting p t false) a.0 (machine_of x c.memory)) (step p t (state_of (record c { code = code_of p }))) waits a.1)

-- a turn waits where the step does
pub blocked_turn_waits : law.ABlockedTurnWaits
blocked_turn_waits p c t b r waits = subst (λ code. WaitsToo p t (record c { code = code })) (sym b.code) (waits_too p c t) b r waits

ends_as : (p : Lifted) (t : ℕ) (memory : Memory) (ts : Threads) (r : Ran) (o : Outcome) → Agrees p t memory ts r o → EndsAs r o
ends_as p t memory ts (Stopped m) (source.Done s) h = tt
ends_as p t memory ts (Ended m n) (source.Done s) h = tt
ends_as p t memory ts (Trapped cause n) (source.Trapped cause') h = h
ends_as p t memory ts (Finished status n) (source.Finished status') h = h
ends_as p t memory ts machine.Blocked source.Blocked h = tt
ends_as p t memory ts r o h = absurd h

abbrev EndsAlike : Lifted → ℕ → TargetCore → Type 0
EndsAlike p t c =
    IsBetween p c → (r : Runs c t) → (n : ℕ) × EndsAs (turn (setting_of c t false) n (machine_of r.thread c.memory)) (step p t (state_of c))

ends_alike : (p : Lifted) (c : TargetCore) (t : ℕ) → EndsAlike p t (record c { code = code_of p })
ends_alike p c t b r =
    let x = r.thread in
    let runs = runs_of p x r.mode (all_at (λ o. Rests p o) c.threads t (Some x) b.threads r.is) in
    let a = turn_agrees p c b t x r.is runs in
    (a.0, ends_as p t c.memory (seen_threads (code_of p) c.threads) (turn (setting p t false) a.0 (machine_of x c.memory)) (step p t (state_of (record c { code = code_of p }))) a.1)

-- a turn ends as its step does
pub turn_ends_as_step : law.ATurnEndsAsItsStep
turn_ends_as_step p c t b r = subst (λ code. EndsAlike p t (record c { code = code })) (sym b.code) (ends_alike p c t) b r
