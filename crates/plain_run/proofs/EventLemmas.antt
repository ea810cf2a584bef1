-- Each event that is no outcome of an update, made where it may come.
use Rattle.std.proofs.Common.{◌≡◌, ℕ, ◌+◌, ◌≤◌, ◌<◌, ◌^◌, Bool, true, false, not, ◌&&◌, List, ◌∷◌, map, length, Option, Some, None, refl, ap, sym, subst, ◌∙◌, arith}
use Rattle.std.specs.Prelude.{is_some, ◌==◌, Result, Ok, Err, OnOk}
use Rattle.std.proofs.lemmas.Bool.Decides.{nat_tests}
use Rattle.c_tree.specs.declared.event.EventKind.{EventKind}
use Rattle.c_tree.specs.declared.event.EventKind.TheVariants as e
use Rattle.c_tree.specs.declared.lifted.Lifted.{Lifted}
use Rattle.c_tree.specs.declared.place.Places.{Places}
use Rattle.c_tree.specs.declared.run.End.{End}
use Rattle.c_tree.specs.declared.run.End.TheVariants as end
use Rattle.c_tree.specs.declared.run.Phase.{Phase}
use Rattle.c_tree.specs.declared.run.Phase.TheVariants as phase
use Rattle.c_tree.specs.declared.run.Settings.{Settings}
use Rattle.c_tree.specs.Able.{able}
use Rattle.c_tree.specs.Layout.{places}
use Rattle.c_tree.specs.Run as r
use Rattle.c_tree.specs.Step.{Outcome, Done, Trapped, Finished, Blocked, step}
use Rattle.c_tree.proofs.RunLemmas.{AskedIsArmed, NowAskedIsArmed, may_step-able, next-Step, next_asked}
use Rattle.c_tree.proofs.ThreadLemmas.{Few, step_few}
use Rattle.plain_run.specs.CoreAt.{core_at, core_now, present}
use Rattle.plain_run.specs.Made.{Makes, on}
use Rattle.plain_run.specs.Ready.{IsReady}
use Rattle.plain_run.specs.declared.now.Now.{Now}
use Rattle.plain_run.proofs.NextLemmas.{due_before, next-Park, next-Request, next-Resume}

pub parts : (o : Option End) (b : Bool) → (not (is_some o) && b) ≡ true → (o ≡ None) × (b ≡ true)
parts None b e = (refl, e)
parts (Some x) b e = cc

-- a run in which an update was asked for is armed, also after one more event
pub armed_next : (k : Settings) (c d : r.Core) (kind : EventKind) → AskedIsArmed k c → r.next k c kind ≡ Some d → AskedIsArmed k d
armed_next k c d kind a nx = subst (λ o. NowAskedIsArmed k o) nx (next_asked k c kind a)

-- an event that leaves the program leaves the run ready
ready_on : (k : Settings) (ps : Places) (c d : r.Core) (kind : EventKind) → IsReady k ps c → r.next k c kind ≡ Some d → d.program ≡ c.program
    → length d.state.threads ≤ 1000 → d.steps ≤ k.limit → IsReady k ps d
ready_on k ps c d kind s nx pq few within = record {
  placed = s.placed ∙ ap (λ p. map places p.functions) (sym pq);
  few = few;
  within = within;
  limit = s.limit;
  fits = s.fits;
  armed = armed_next k c d kind s.armed nx;
}

-- a Request
asked_program : (p : Phase) (k : Settings) → r.is_before p ≡ true → k.program ≡ present p k.armed k.program
asked_program phase.Before k e = refl
asked_program phase.Asked k e = cc
asked_program phase.Updated k e = cc
asked_program (phase.Refused x) k e = cc

pub request_makes : (now : Now) (k : Settings) (ps : Places) → IsReady k ps (core_now k now) → on k (core_now k now) (r.is_due k (core_now k now)) ≡ true
    → Makes k e.Request now ps (record now { phase = phase.Asked })
request_makes now k ps s m =
    let c = core_now k now in
    let now2 : Now = record now { phase = phase.Asked } in
    let both = parts (r.over k c) (r.is_due k c) m in
    let pq = asked_program now.phase k (due_before k c both.1) in
    let nx = next-Request k c both.0 both.1 ∙ ap (λ p. let x : Option r.Core = Some (core_at p now2) in x) (sym pq) in
    record { next = nx; ready = ready_on k ps c (core_now k now2) e.Request s nx pq s.few s.within }

-- what a Step leaves
phase_stays : (c : r.Core) (t : ℕ) (o : Outcome) → (r.stepped c t o).phase ≡ c.phase
phase_stays c t (Done s) = refl
phase_stays c t (Trapped x) = refl
phase_stays c t (Finished n) = refl
phase_stays c t Blocked = refl

program_stays : (c : r.Core) (t : ℕ) (o : Outcome) → (r.stepped c t o).program ≡ c.program
program_stays c t (Done s) = refl
program_stays c t (Trapped x) = refl
program_stays c t (Finished n) = refl
program_stays c t Blocked = refl

steps_grow : (c : r.Core) (t : ℕ) (o : Outcome) → (r.stepped c t o).steps ≤ c.steps + 1
steps_grow c t (Done s) = omega arith
steps_grow c t (Trapped x) = omega arith
steps_grow c t (Finished n) = omega arith
steps_grow c t Blocked = omega arith

few_stay : (c : r.Core) (t : ℕ) (o : Outcome) → length c.state.threads ≤ 1000 → Few 1000 o → length (r.stepped c t o).state.threads ≤ 1000
few_stay c t (Done s) h f = f
few_stay c t (Trapped x) h f = h
few_stay c t (Finished n) h f = h
few_stay c t Blocked h f = h

-- a run that isn't over is below its limit
not_at : (b : Bool) (d : Option End) → r.or_else (r.where_true b end.Limit) d ≡ None → b ≡ false
not_at true d e = cc
not_at false d e = refl

less : (n limit : ℕ) → (n == limit) ≡ false → n ≤ limit → n < limit
less n limit e h = grind (arith, nat_tests)

below_limit : (a d : Option End) (n limit : ℕ) → r.or_else a (r.or_else (r.where_true (n == limit) end.Limit) d) ≡ None → n ≤ limit → n < limit
below_limit (Some x) d n limit e h = cc
below_limit None d n limit e h = less n limit (not_at (n == limit) d e) h

pub on_below : (k : Settings) (c : r.Core) → r.over k c ≡ None → c.steps ≤ k.limit → c.steps < k.limit
on_below k c o w = below_limit c.ended _ c.steps k.limit o w

-- a Step may come only where it has room to be counted
pub step_counts : (k : Settings) (ps : Places) (c : r.Core) (b : Bool) → IsReady k ps c → on k c b ≡ true → c.steps + 1 < 2 ^ 64
step_counts k ps c b s m =
    let below = on_below k c (parts (r.over k c) b m).0 s.within in
    let limit : k.limit < 2 ^ 32 = s.limit in
    omega (arith, below, limit)

pub step_able : (k : Settings) (now : Now) (p : Lifted) (t : ℕ) → p ≡ present now.phase k.armed k.program
    → on k (core_now k now) (r.may_step k (core_now k now) t) ≡ true → able p now.state t ≡ true
step_able k now p t same m =
    let c = core_now k now in
    ap (λ q. able q now.state t) same ∙ may_step-able k c t (parts (r.over k c) (r.may_step k c t) m).1

pub step_makes : (now now2 : Now) (k : Settings) (ps : Places) (p : Lifted) (t : ℕ) → p ≡ present now.phase k.armed k.program → IsReady k ps (core_now k now)
    → on k (core_now k now) (r.may_step k (core_now k now) t) ≡ true → core_at p now2 ≡ r.stepped (core_at p now) t (step p t now.state)
    → Makes k (e.Step t) now ps now2
step_makes now now2 k ps p t same s m st =
    let c = core_now k now in
    let o = step c.program t c.state in
    let both = parts (r.over k c) (r.may_step k c t) m in
    let leads : core_at c.program now2 ≡ r.stepped c t o = subst (λ q. core_at q now2 ≡ r.stepped (core_at q now) t (step q t now.state)) same st in
    let ph : now2.phase ≡ now.phase = ap (λ d. d.phase) leads ∙ phase_stays c t o in
    let pq : present now2.phase k.armed k.program ≡ c.program = ap (λ x. present x k.armed k.program) ph in
    let here : core_now k now2 ≡ r.stepped c t o = ap (λ q. core_at q now2) pq ∙ leads in
    let nx = next-Step k c t both.0 both.1 ∙ ap (λ d. let x : Option r.Core = Some d in x) (sym here) in
    let below = on_below k c both.0 s.within in
    let grow : now2.steps ≤ c.steps + 1 = subst (λ (d : r.Core). d.steps ≤ c.steps + 1) (sym here) (steps_grow c t o) in
    record {
      next = nx;
      ready = ready_on k ps c (core_now k now2) (e.Step t) s nx pq
          (subst (λ (d : r.Core). length d.state.threads ≤ 1000) (sym here) (few_stay c t o s.few (step_few c.program t c.state s.few)))
          (omega (arith, below, grow));
    }

pub step_made : {A E : Type 0} (x : Result A E) (now now2 : Now) (k : Settings) (ps : Places) (p : Lifted) (t : ℕ) → p ≡ present now.phase k.armed k.program → IsReady k ps (core_now k now)
    → on k (core_now k now) (r.may_step k (core_now k now) t) ≡ true → OnOk x (core_at p now2 ≡ r.stepped (core_at p now) t (step p t now.state))
    → OnOk x (Makes k (e.Step t) now ps now2)
step_made (Ok a) now now2 k ps p t same s m st = step_makes now now2 k ps p t same s m st
step_made (Err b) now now2 k ps p t same s m st = tt

-- events that change the parked threads alone
parked_makes : (now now2 : Now) (k : Settings) (ps : Places) (kind : EventKind) (us : List ℕ) → IsReady k ps (core_now k now)
    → r.next k (core_now k now) kind ≡ Some (record (core_now k now) { parked = us })
    → ((p : Lifted) → core_at p now2 ≡ record (core_at p now) { parked = us }) → Makes k kind now ps now2
parked_makes now now2 k ps kind us s nx cp =
    let c = core_now k now in
    let ph : now2.phase ≡ now.phase = ap (λ d. d.phase) (cp c.program) in
    let pq : present now2.phase k.armed k.program ≡ c.program = ap (λ x. present x k.armed k.program) ph in
    let here : core_now k now2 ≡ record c { parked = us } = ap (λ q. core_at q now2) pq ∙ cp c.program in
    let nx2 = nx ∙ ap (λ d. let x : Option r.Core = Some d in x) (sym here) in
    record {
      next = nx2;
      ready = ready_on k ps c (core_now k now2) kind s nx2 pq (subst (λ (d : r.Core). length d.state.threads ≤ 1000) (sym here) s.few)
          (subst (λ (d : r.Core). d.steps ≤ k.limit) (sym here) s.within);
    }

-- a Park
pub park_makes : (now now2 : Now) (t : ℕ) → ((p : Lifted) → core_at p now2 ≡ record (core_at p now) { parked = t ∷ now.parked.items }) → (k : Settings) (ps : Places)
    → IsReady k ps (core_now k now) → on k (core_now k now) (r.may_park (core_now k now) t) ≡ true → Makes k (e.Park t) now ps now2
park_makes now now2 t cp k ps s m =
    let c = core_now k now in
    let both = parts (r.over k c) (r.may_park c t) m in
    parked_makes now now2 k ps (e.Park t) (t ∷ now.parked.items) s (next-Park k c t both.0 both.1) cp

-- a Resume
pub resume_makes : (now now2 : Now) (t : ℕ) → ((p : Lifted) → core_at p now2 ≡ record (core_at p now) { parked = r.without t now.parked.items }) → (k : Settings) (ps : Places)
    → IsReady k ps (core_now k now) → on k (core_now k now) (r.may_resume (core_now k now) t) ≡ true → Makes k (e.Resume t) now ps now2
resume_makes now now2 t cp k ps s m =
    let c = core_now k now in
    let both = parts (r.over k c) (r.may_resume c t) m in
    parked_makes now now2 k ps (e.Resume t) (r.without t now.parked.items) s (next-Resume k c t both.0 both.1) cp
