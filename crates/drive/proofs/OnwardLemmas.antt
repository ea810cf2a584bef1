-- One more event of a plan: what it keeps, and that fewer may still come.
use Rattle.std.proofs.Common.{◌≡◌, ℕ, ◌+◌, ◌<◌, ◌≤◌, Bool, true, false, not, ◌&&◌, nat_lt, [], ◌∷◌, ◌++◌, length, Option, Some, None, refl, ap, sym, ◌∙◌, subst, arith, length-append}
use Rattle.std.specs.Prelude.{find, Result, Ok, Err, OnOk}
use Rattle.std.specs.List.{list_all}
use Rattle.c_tree.specs.declared.event.EventKind.{EventKind}
use Rattle.c_tree.specs.declared.event.EventKind.TheVariants as e
use Rattle.c_tree.specs.declared.run.Phase.{Phase}
use Rattle.c_tree.specs.declared.run.Phase.TheVariants as phase
use Rattle.c_tree.specs.declared.run.Picker.{Picker}
use Rattle.c_tree.specs.declared.run.Picker.TheVariants.{Round, Seed}
use Rattle.c_tree.specs.Able.{standing}
use Rattle.c_tree.specs.Step.{step}
use Rattle.c_tree.specs.Run as r
use Rattle.c_tree.specs.Plan.{Progress, chosen, picked, picker_after, outcome, by_none}
use Rattle.c_tree.proofs.ThreadLemmas.{step_few}
use Rattle.plain_run.specs.declared.decision.Committed.{Committed}
use Rattle.plain_run.specs.declared.decision.Committed.TheVariants as committed
use Rattle.plain_run.specs.Decision as decision
use Rattle.world_core.specs.History.{History, core, over, IsMade}
use Rattle.drive.specs.Measure.{measure}
use Rattle.drive.specs.OnWay.{IsLow, IsKept, Agrees, IsOnward}
use Rattle.drive.proofs.CameLemmas.{phase_of, request_came, park_came, resume_came, outcome_came, step_gives}
use Rattle.c_tree.proofs.ChosenLemmas.{advance-by, chosen-Request, chosen-Park, chosen-outcome, chosen-Resume, chosen-Step}
use Rattle.drive.proofs.ThreadsStay.{step_many}
use Rattle.c_tree.proofs.BoolLemmas.{true_false, and_first, and_last, not_true}
use Rattle.drive.proofs.KeptLemmas.{is_Asked, after_not_before, due_before, found_thread, kept_came, one_more_made, all_without, kept_stepped, phase_stepped, parked_stepped}
use Rattle.drive.proofs.RankLemmas.{less_by_rank, less_request, less_park, less_outcome, less_resume, less_step}

-- what the update may still come to
free : (short : Bool) (p : Phase) → r.is_after p ≡ false → Agrees short p
free short p e h = absurd (true_false (sym h ∙ e))

stays : (short : Bool) (p q : Phase) → q ≡ p → Agrees short q → Agrees short p
stays short p q e a = subst (Agrees short) e a

-- the next event of a plan
onward : (h h2 : History) (g g2 : Picker) (kind : EventKind) → IsMade h h2 0 kind → over h ≡ None
    → ((short : Bool) → Agrees short (core h2).phase → chosen h.settings short (core h) g ≡ Some kind) → picker_after g kind ≡ g2 → IsKept (core h2) → IsLow g2
    → ((short : Bool) → Agrees short (core h2).phase → Agrees short (core h).phase) → measure h2 < measure h → IsOnward h h2 g g2
onward h h2 g g2 kind m o ch p w l a less =
    record {
      same = ap (λ x. x.settings) m.ok;
      parts = ap (λ x. x.earlier) m.ok;
      kept = w;
      low = l;
      more = ap (λ x. length x.events) m.ok ∙ length-append h.events (by_none kind ∷ []);
      earlier = a;
      way = λ short b. advance-by h.settings short (core h) (core h2) g h.events kind o (ch short b) m.core
          ∙ (ap (λ x. let v : Progress = record { core = core h2; picker = x; events = h.events ++ by_none kind ∷ [] } in v) p
          ∙ ap (λ es. let v : Progress = record { core = core h2; picker = g2; events = es } in v) (sym (ap (λ x. x.events) m.ok)));
      less = less;
    }

after_Request : (g : Picker) → picker_after g e.Request ≡ g
after_Request (Round last) = refl
after_Request (Seed x) = refl

after_Park : (g : Picker) (t : ℕ) → picker_after g (e.Park t) ≡ g
after_Park (Round last) t = refl
after_Park (Seed x) t = refl

after_Resume : (g : Picker) (t : ℕ) → picker_after g (e.Resume t) ≡ g
after_Resume (Round last) t = refl
after_Resume (Seed x) t = refl

after_outcome : (g : Picker) (c : Committed) → picker_after g (decision.kind_of c) ≡ g
after_outcome (Round last) committed.Updated = refl
after_outcome (Seed x) committed.Updated = refl
after_outcome (Round last) (committed.Refused y) = refl
after_outcome (Seed x) (committed.Refused y) = refl

pub onward-Request : (h h2 : History) (g : Picker) → over h ≡ None → IsKept (core h) → IsLow g → r.is_due h.settings (core h) ≡ true → IsMade h h2 0 e.Request → IsOnward h h2 g g
onward-Request h h2 g o w l d m =
    let c = core h in
    let came = request_came h.settings c (core h2) m.core in
    let before = due_before h.settings c d in
    onward h h2 g g e.Request m o (λ short a. chosen-Request h.settings short c g d) (after_Request g)
    (kept_came c (core h2) phase.Asked c.parked came refl w.made w.few) l
    (λ short a. free short c.phase (ap r.is_after before))
    (less_by_rank h h2 (ap (λ x. x.settings) m.ok) came.steps (less_request c (core h2) came before (w.begins (ap r.is_before before))))

pub onward-Park : (h h2 : History) (g : Picker) (t : ℕ) → over h ≡ None → IsKept (core h) → IsLow g → r.is_due h.settings (core h) ≡ false
    → find (r.may_park (core h)) (r.threads (core h)) ≡ Some t → IsMade h h2 0 (e.Park t) → IsOnward h h2 g g
onward-Park h h2 g t o w l d f m =
    let c = core h in
    let came = park_came h.settings c (core h2) t m.core in
    let found = found_thread (r.may_park c) c t f in
    let asked = is_Asked c.phase (and_first (r.is_asked c.phase) (standing c.program c.state t) (and_first (r.is_asked c.phase && standing c.program c.state t) (not (r.is_parked c t)) found.0)) in
    let small : t < 1000 = below t (length c.state.threads) found.1 w.few in
    onward h h2 g g (e.Park t) m o (λ short a. chosen-Park h.settings short c g t d f) (after_Park g t)
    (kept_came c (core h2) c.phase (t ∷ c.parked) came (ap r.is_before asked) (one_more_made t (length c.state.threads) (list_all (λ u. nat_lt u (length c.state.threads)) c.parked) found.1 w.made) w.few) l
    (λ short a. stays short c.phase (core h2).phase came.phase a)
    (less_by_rank h h2 (ap (λ x. x.settings) m.ok) came.steps
    (less_park c (core h2) t came asked small (not_true (r.is_parked c t) (and_last (r.is_asked c.phase && standing c.program c.state t) (not (r.is_parked c t)) found.0))))
  where
    below : (t n : ℕ) → t < n → n ≤ 1000 → t < 1000
    below t n l f = omega arith

after_phase : (c : Committed) → r.is_after (phase_of c) ≡ true
after_phase committed.Updated = refl
after_phase (committed.Refused x) = refl

short_phase : (c : Committed) → r.is_refused_for_memory (phase_of c) ≡ decision.is_short c
short_phase committed.Updated = refl
short_phase (committed.Refused x) = refl

pub onward-outcome : (h h2 : History) (g : Picker) (done : Committed) → over h ≡ None → IsKept (core h) → IsLow g → r.is_due h.settings (core h) ≡ false
    → find (r.may_park (core h)) (r.threads (core h)) ≡ None → r.may_decide (core h) ≡ true → IsMade h h2 0 (decision.kind_of done)
    → decision.kind_of done ≡ outcome h.settings (decision.is_short done) (core h) → IsOnward h h2 g g
onward-outcome h h2 g done o w l d f a m out =
    let c = core h in
    let came = outcome_came h.settings c (core h2) done m.core in
    let asked = is_Asked c.phase (and_first (r.is_asked c.phase) (list_all (r.is_parked c) (r.live_threads c)) a) in
    onward h h2 g g (decision.kind_of done) m o
    (λ short b. chosen-outcome h.settings short c g d f a
    ∙ ap (λ x. let y : Option EventKind = Some x in y)
    (ap (λ s. outcome h.settings s c) (b (ap r.is_after came.phase ∙ after_phase done) ∙ (ap r.is_refused_for_memory came.phase ∙ short_phase done)) ∙ sym out))
    (after_outcome g done)
    (kept_came c (core h2) (phase_of done) c.parked came (after_not_before (phase_of done) (after_phase done)) w.made w.few) l
    (λ short b. free short c.phase (ap r.is_after asked))
    (less_by_rank h h2 (ap (λ x. x.settings) m.ok) came.steps (less_outcome c (core h2) (phase_of done) came asked (after_phase done)))

pub onward-Resume : (h h2 : History) (g : Picker) (t : ℕ) → over h ≡ None → IsKept (core h) → IsLow g → r.is_due h.settings (core h) ≡ false
    → find (r.may_park (core h)) (r.threads (core h)) ≡ None → r.may_decide (core h) ≡ false → find (r.may_resume (core h)) (r.threads (core h)) ≡ Some t
    → IsMade h h2 0 (e.Resume t) → IsOnward h h2 g g
onward-Resume h h2 g t o w l d f a q m =
    let c = core h in
    let came = resume_came h.settings c (core h2) t m.core in
    let found = found_thread (r.may_resume c) c t q in
    let after = and_first (r.is_after c.phase) (r.is_parked c t) found.0 in
    onward h h2 g g (e.Resume t) m o (λ short b. chosen-Resume h.settings short c g t d f a q) (after_Resume g t)
    (kept_came c (core h2) c.phase (r.without t c.parked) came (after_not_before c.phase after) (all_without (λ u. nat_lt u (length c.state.threads)) t c.parked w.made) w.few) l
    (λ short b. stays short c.phase (core h2).phase came.phase b)
    (less_by_rank h h2 (ap (λ x. x.settings) m.ok) came.steps (less_resume c (core h2) t came after (and_last (r.is_after c.phase) (r.is_parked c t) found.0)))

low_stays : (g : Picker) (t : ℕ) → t < 1000 → IsLow (picker_after g (e.Step t))
low_stays (Round last) t l = l
low_stays (Seed x) t l = tt

pub onward-Step : (h h2 : History) (g g2 : Picker) (t : ℕ) → over h ≡ None → IsKept (core h) → r.is_due h.settings (core h) ≡ false
    → find (r.may_park (core h)) (r.threads (core h)) ≡ None → r.may_decide (core h) ≡ false → find (r.may_resume (core h)) (r.threads (core h)) ≡ None
    → picked h.settings (core h) g ≡ Some t → t < 1000 → g2 ≡ picker_after g (e.Step t) → IsMade h h2 0 (e.Step t)
    → (core h2).steps ≡ (core h).steps + 1 → (core h).steps < h.settings.limit → IsOnward h h2 g g2
onward-Step h h2 g g2 t o w d f a q p low e2 m n l =
    let c = core h in
    let out = step c.program t c.state in
    let is = step_gives h.settings c (core h2) t m.core in
    let ph : (core h2).phase ≡ c.phase = ap (λ x. x.phase) is ∙ phase_stepped c t out in
    let pk : (core h2).parked ≡ c.parked = ap (λ x. x.parked) is ∙ parked_stepped c t out in
    onward h h2 g g2 (e.Step t) m o (λ short b. chosen-Step h.settings short c g t d f a q p) (sym e2)
    (subst IsKept (sym is) (kept_stepped c t out w (step_few c.program t c.state w.few) (step_many c.program t c.state)))
    (subst IsLow (sym e2) (low_stays g t low))
    (λ short b. stays short c.phase (core h2).phase ph b)
    (less_step h h2 (ap (λ x. x.settings) m.ok) ph pk n l)

-- a fact of an event that was made, from its clause
pub on_ok : {A E : Type 0} {P Q : Type 0} (x : Result A E) → (P → Q) → OnOk x P → OnOk x Q
on_ok (Ok a) f p = f p
on_ok (Err b) f p = tt
