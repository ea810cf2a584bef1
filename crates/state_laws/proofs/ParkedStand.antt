-- Parked threads stand until the outcome.
use Rattle.std.proofs.Common.{◌≡◌, ℕ, zero, suc, ◌+◌, ◌<◌, Bool, true, false, not, ◌&&◌, ◌||◌, ◌==◌, List, [], ◌∷◌, length, Some, refl, sym, ap, subst, ◌∙◌, arith}
use Rattle.std.specs.Prelude.{filter, cond, is_some}
use Rattle.std.specs.List.{list_any, list_all, range_with_len}
use Rattle.c_tree.specs.declared.event.Event.{Event}
use Rattle.c_tree.specs.declared.event.EventKind.{EventKind}
use Rattle.c_tree.specs.declared.event.EventKind.TheVariants as e
use Rattle.c_tree.specs.declared.run.Phase.{Phase}
use Rattle.c_tree.specs.declared.run.Phase.TheVariants as phase
use Rattle.c_tree.specs.declared.run.Settings.{Settings}
use Rattle.c_tree.specs.Able.{able, standing}
use Rattle.c_tree.specs.Step.{Outcome, Done, Trapped, Finished, Blocked, is_live, step}
use Rattle.c_tree.specs.Run.{Core, first, next, run, stepped, live_threads, is_due, is_at, is_before, is_asked, is_after, is_parked, may_step, may_park, may_decide, may_resume}
use Rattle.state_laws.specs.RunLaws.{ParkedStand, LiveStand}
use Rattle.c_tree.proofs.BoolLemmas.{true_false, and_first, and_last, not_true, number_is}
use Rattle.state_laws.proofs.Legal.{run_keeps, request_is, step_is, park_is, update_is, refused, resume_is}
use Rattle.state_laws.proofs.OtherThreads.{live_within, standing_stays}

pub is_Before : (p : Phase) → is_before p ≡ true → p ≡ phase.Before
is_Before phase.Before h = refl
is_Before phase.Asked h = cc
is_Before phase.Updated h = cc
is_Before (phase.Refused x) h = cc

pub is_Asked : (p : Phase) → is_asked p ≡ true → p ≡ phase.Asked
is_Asked phase.Before h = cc
is_Asked phase.Asked h = refl
is_Asked phase.Updated h = cc
is_Asked (phase.Refused x) h = cc

pub after_not_before : (p : Phase) → is_after p ≡ true → is_before p ≡ false
after_not_before phase.Before h = cc
after_not_before phase.Asked h = cc
after_not_before phase.Updated h = refl
after_not_before (phase.Refused x) h = refl

pub after_not_asked : (p : Phase) → is_after p ≡ true → is_asked p ≡ false
after_not_asked phase.Before h = cc
after_not_asked phase.Asked h = cc
after_not_asked phase.Updated h = refl
after_not_asked (phase.Refused x) h = refl

-- the parts of a due Request
pub record IsDue (k : Settings) (c : Core) : Type 0 where
  pub at : is_at k.armed c.steps ≡ true
  pub before : c.phase ≡ phase.Before
  pub going : is_some c.ended ≡ false
  pub below : (c.steps == k.limit) ≡ false

pub due_parts : (k : Settings) (c : Core) → is_due k c ≡ true → IsDue k c
due_parts k c d =
    let abc = and_first (is_at k.armed c.steps && is_before c.phase && not (is_some c.ended)) (not (c.steps == k.limit)) d in
    let ab = and_first (is_at k.armed c.steps && is_before c.phase) (not (is_some c.ended)) abc in
    record {
      at = and_first (is_at k.armed c.steps) (is_before c.phase) ab;
      before = is_Before c.phase (and_last (is_at k.armed c.steps) (is_before c.phase) ab);
      going = not_true (is_some c.ended) (and_last (is_at k.armed c.steps && is_before c.phase) (not (is_some c.ended)) abc);
      below = not_true (c.steps == k.limit) (and_last (is_at k.armed c.steps && is_before c.phase && not (is_some c.ended)) (not (c.steps == k.limit)) d);
    }

-- the parts of a legal Step
pub record IsMove (k : Settings) (c : Core) (t : ℕ) : Type 0 where
  pub undue : is_due k c ≡ false
  pub able : able c.program c.state t ≡ true
  pub free : is_parked c t ≡ false
  pub moves : (is_asked c.phase && standing c.program c.state t) ≡ false

pub step_parts : (k : Settings) (c : Core) (t : ℕ) → may_step k c t ≡ true → IsMove k c t
step_parts k c t m =
    let a = not (is_due k c) in
    let b = able c.program c.state t in
    let f = not (is_parked c t) in
    let g = not (is_asked c.phase && standing c.program c.state t) in
    let abf = and_first (a && b && f) g m in
    let ab = and_first (a && b) f abf in
    record {
      undue = not_true (is_due k c) (and_first a b ab);
      able = and_last a b ab;
      free = not_true (is_parked c t) (and_last (a && b) f abf);
      moves = not_true (is_asked c.phase && standing c.program c.state t) (and_last (a && b && f) g m);
    }

-- the parts of a legal Park
pub record IsStop (c : Core) (t : ℕ) : Type 0 where
  pub asked : c.phase ≡ phase.Asked
  pub stands : standing c.program c.state t ≡ true
  pub free : is_parked c t ≡ false

pub park_parts : (c : Core) (t : ℕ) → may_park c t ≡ true → IsStop c t
park_parts c t m =
    let a = is_asked c.phase in
    let b = standing c.program c.state t in
    let ab = and_first (a && b) (not (is_parked c t)) m in
    record { asked = is_Asked c.phase (and_first a b ab); stands = and_last a b ab; free = not_true (is_parked c t) (and_last (a && b) (not (is_parked c t)) m) }

pub decide_asked : (c : Core) → may_decide c ≡ true → c.phase ≡ phase.Asked
decide_asked c m = is_Asked c.phase (and_first (is_asked c.phase) (list_all (is_parked c) (live_threads c)) m)

pub resume_after : (c : Core) (t : ℕ) → may_resume c t ≡ true → is_after c.phase ≡ true
resume_after c t m = and_first (is_after c.phase) (is_parked c t) m

pub live_of_standing : (c : Core) (t : ℕ) → standing c.program c.state t ≡ true → is_live c.state t ≡ true
live_of_standing c t h = and_first (is_live c.state t) _ h

-- nobody is parked before the Request, and what is parked until the outcome stands
pub record Stand (c : Core) : Type 0 where
  pub begins : is_before c.phase ≡ true → c.parked ≡ []
  pub stand : is_asked c.phase ≡ true → (t : ℕ) → is_parked c t ≡ true → standing c.program c.state t ≡ true

not_same : (t u : ℕ) (c : Core) → is_parked c u ≡ true → is_parked c t ≡ false → u ≡ t → ⊥
not_same t u c h i s = true_false (sym (subst (λ x. is_parked c x ≡ true) s h) ∙ i)

stepped_stand : (c : Core) (t : ℕ) (o : Outcome) → step c.program t c.state ≡ o → is_parked c t ≡ false → Stand c → Stand (stepped c t o)
stepped_stand c t (Done s) is free w =
    record {
      begins = w.begins;
      stand = λ a u p.
          let stands = w.stand a u p in
          standing_stays c.program t u c.state s (not_same t u c p free) (live_within c.state u (live_of_standing c u stands)) is ∙ stands;
    }
stepped_stand c t (Trapped x) is free w = record { begins = w.begins; stand = w.stand }
stepped_stand c t (Finished n) is free w = record { begins = w.begins; stand = w.stand }
stepped_stand c t Blocked is free w = w

nobody : (ps : List ℕ) (t : ℕ) → ps ≡ [] → list_any (λ u. u == t) ps ≡ true → ⊥
nobody [] t h i = true_false (sym i)
nobody (x ∷ ps) t h i = cc

one_more : (c : Core) (t u : ℕ) (b : Bool) → (t == u) ≡ b → (b || is_parked c u) ≡ true → standing c.program c.state t ≡ true
    → (is_parked c u ≡ true → standing c.program c.state u ≡ true) → standing c.program c.state u ≡ true
one_more c t u true s h stands old = subst (λ x. standing c.program c.state x ≡ true) (number_is t u s) stands
one_more c t u false s h stands old = old h

asked_only : (p q : Phase) → p ≡ q → is_asked q ≡ false → is_asked p ≡ true → ⊥
asked_only p q e h i = true_false (sym i ∙ (ap is_asked e ∙ h))

pub event_stand : (k : Settings) (c d : Core) (x : EventKind) → Stand c → next k c x ≡ Some d → Stand d
event_stand k c d e.Request w h =
    let is = request_is k c d h in
    let due = due_parts k c is.0 in
    let none = w.begins (ap is_before due.before) in
    subst Stand (sym is.1) (record { begins = λ b. none; stand = λ a t p. absurd (nobody c.parked t none p) })
event_stand k c d (e.Step t) w h =
    let is = step_is k c d t h in
    subst Stand (sym is.1) (stepped_stand c t (step c.program t c.state) refl (step_parts k c t is.0).free w)
event_stand k c d (e.Park t) w h =
    let is = park_is k c d t h in
    let parts = park_parts c t is.0 in
    subst Stand (sym is.1) (record {
      begins = λ b. absurd (true_false (sym b ∙ ap is_before parts.asked));
      stand = λ a u p. one_more c t u (t == u) refl p parts.stands (w.stand a u);
    })
event_stand k c d e.Update w h =
    let is = update_is k c d h in
    subst Stand (sym is.is) (record { begins = λ b. absurd (true_false (sym b)); stand = λ a. absurd (true_false (sym a)) })
event_stand k c d (e.Refuse r) w h =
    let is = refused k c d r h in
    subst Stand (sym is.is) (record { begins = λ b. absurd (true_false (sym b)); stand = λ a. absurd (true_false (sym a)) })
event_stand k c d (e.Resume t) w h =
    let is = resume_is k c d t h in
    let late = resume_after c t is.0 in
    subst Stand (sym is.1) (record {
      begins = λ b. absurd (true_false (sym b ∙ after_not_before c.phase late));
      stand = λ a. absurd (true_false (sym a ∙ after_not_asked c.phase late));
    })

pub first_stand : (k : Settings) → Stand (first k)
first_stand k = record { begins = λ b. refl; stand = λ a. absurd (true_false (sym a)) }

run_stand : (k : Settings) (es : List Event) (c : Core) → run k es ≡ Some c → Stand c
run_stand k es c h = run_keeps Stand k (event_stand k) es (first k) c (first_stand k) h

pub parked_stand : (k : Settings) (es : List Event) (c : Core) → run k es ≡ Some c → c.phase ≡ phase.Asked → ParkedStand c
parked_stand k es c h a t p =
    let stands = (run_stand k es c h).stand (ap is_asked a) t p in
    (live_of_standing c t stands, stands)

-- a live thread is one of the live threads
all_step : (q p : ℕ → Bool) (x : ℕ) (b : Bool) (xs : List ℕ) → q x ≡ b → list_all p (cond b (x ∷ filter q xs) (filter q xs)) ≡ true
    → (list_all p (filter q xs) ≡ true) × (q x ≡ true → p x ≡ true)
all_step q p x true xs e h = (and_last (p x) (list_all p (filter q xs)) h, λ _. and_first (p x) (list_all p (filter q xs)) h)
all_step q p x false xs e h = (h, λ i. absurd (true_false (sym i ∙ e)))

all_at : (q p : ℕ → Bool) (a n i : ℕ) → i < n → list_all p (filter q (range_with_len a n)) ≡ true → q (a + i) ≡ true → p (a + i) ≡ true
all_at q p a zero i l h y = absurd (omega (arith, l))
all_at q p a (suc n) zero l h y =
    let z : a + 0 ≡ a = omega arith in
    ap p z ∙ (all_step q p a (q a) (range_with_len (a + 1) n) refl h).1 (ap q (sym z) ∙ y)
all_at q p a (suc n) (suc i) l h y =
    let z : a + suc i ≡ a + 1 + i = omega arith in
    ap p z ∙ all_at q p (a + 1) n i (omega (arith, l)) (all_step q p a (q a) (range_with_len (a + 1) n) refl h).0 (ap q (sym z) ∙ y)

pub live_parked : (c : Core) (t : ℕ) → may_decide c ≡ true → is_live c.state t ≡ true → is_parked c t ≡ true
live_parked c t m l =
    let z : 0 + t ≡ t = omega arith in
    ap (is_parked c) (sym z) ∙ all_at (is_live c.state) (is_parked c) 0 (length c.state.threads) t (live_within c.state t l)
    (and_last (is_asked c.phase) (list_all (is_parked c) (live_threads c)) m) (ap (is_live c.state) z ∙ l)

pub live_stand : (k : Settings) (es : List Event) (c : Core) → run k es ≡ Some c → may_decide c ≡ true → LiveStand c
live_stand k es c h m t l = (parked_stand k es c h (decide_asked c m) t (live_parked c t m l)).1
