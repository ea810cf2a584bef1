-- What an event that was made keeps.
use Rattle.std.proofs.Common.{◌≡◌, ℕ, ◌+◌, ◌≤◌, Bool, true, false, ◌&&◌, List, [], ◌∷◌, ◌++◌, length, Option, Some, None, Result, Ok, Err, refl, ap, sym, subst, ◌∙◌, arith}
use Rattle.std.specs.Prelude.{if◌then◌else◌}
use Rattle.c_tree.specs.declared.event.Event.{Event}
use Rattle.c_tree.specs.declared.event.EventKind.{EventKind}
use Rattle.c_tree.specs.declared.event.EventKind.TheVariants as e
use Rattle.c_tree.specs.declared.event.Reason.{Reason}
use Rattle.c_tree.specs.declared.run.End.{End}
use Rattle.c_tree.specs.declared.run.Phase.{Phase}
use Rattle.c_tree.specs.declared.run.Phase.TheVariants as phase
use Rattle.c_tree.specs.declared.run.Settings.{Settings}
use Rattle.c_tree.specs.declared.state.State.{State}
use Rattle.c_tree.specs.Run as r
use Rattle.c_tree.specs.Step.{Outcome, Done, Trapped, Finished, Blocked, step}
use Rattle.c_tree.proofs.BoolLemmas.{and_first}
use Rattle.c_tree.proofs.RunLemmas.{run-more}
use Rattle.plain_run.specs.CoreAt.{core_now}
use Rattle.plain_run.specs.Made.{Makes}
use Rattle.plain_run.specs.Ready.{IsReady}
use Rattle.plain_run.specs.Room.{owed}
use Rattle.plain_run.proofs.NextLemmas.{asked_is, before_not_after, decide_asked, due_before, resume_parked, without_fewer}
use Rattle.world_core.specs.History.{History, core, with_event, IsMade}
use Rattle.world_core.specs.Refused.{place_named, refused_in}
use Rattle.world_core.specs.Sound.{IsSound, first_in, history_of, now_of}
use Rattle.world_core.specs.declared.world.World.TheInside.{Inside}
use Rattle.world_core.proofs.RefusedLemmas.{IsNoRefusal, quiet-more}
use Rattle.world_core.proofs.WorldLemmas.{told}

-- a legal event, by its row of the table
from_on : (o : Option End) (x : Option r.Core) (d : r.Core) → r.while_on o x ≡ Some d → x ≡ Some d
from_on None x d h = h
from_on (Some y) x d h = cc

from_table : (k : Settings) (c d : r.Core) (kind : EventKind) → r.next k c kind ≡ Some d → r.table k c kind ≡ Some d
unfolding r.next
from_table k c d kind h = from_on (r.over k c) (r.table k c kind) d h

from_legal : (b : Bool) (c d : r.Core) → r.legal b c ≡ Some d → (b ≡ true) × (c ≡ d)
from_legal true c d h = (refl, (let q : c ≡ d = cc in q))
from_legal false c d h = cc

from_update : (b : Bool) (k : Settings) (c d : r.Core) (x : Result State Reason) → (if b then r.updated k c x else None) ≡ Some d
    → (b ≡ true) × (d.phase ≡ phase.Updated) × (d.parked ≡ c.parked)
from_update true k c d (Ok s) h =
    let q : d ≡ record c { program = r.new_program k c; state = s; phase = phase.Updated } = cc in
    (refl, ap (λ x. x.phase) q, ap (λ x. x.parked) q)
from_update true k c d (Err y) h = cc
from_update false k c d x h = cc

-- what an event leaves of the phase
phase_stays : (c : r.Core) (t : ℕ) (o : Outcome) → (r.stepped c t o).phase ≡ c.phase
phase_stays c t (Done s) = refl
phase_stays c t (Trapped x) = refl
phase_stays c t (Finished n) = refl
phase_stays c t Blocked = refl

parked_stay : (c : r.Core) (t : ℕ) (o : Outcome) → (r.stepped c t o).parked ≡ c.parked
parked_stay c t (Done s) = refl
parked_stay c t (Trapped x) = refl
parked_stay c t (Finished n) = refl
parked_stay c t Blocked = refl

true_false : (b : Bool) → b ≡ true → b ≡ false → ⊥
true_false b e f = cc

-- an outcome stays
pub not_after : (k : Settings) (c d : r.Core) (kind : EventKind) → r.next k c kind ≡ Some d → r.is_after d.phase ≡ false → r.is_after c.phase ≡ false
not_after k c d e.Request h f =
    let l = from_legal (r.is_due k c) (record c { phase = phase.Asked }) d (from_table k c d e.Request h) in
    before_not_after c.phase (due_before k c l.0)
not_after k c d (e.Step t) h f =
    let o = step c.program t c.state in
    let l = from_legal (r.may_step k c t) (r.stepped c t o) d (from_table k c d (e.Step t) h) in
    ap r.is_after (sym (phase_stays c t o) ∙ ap (λ x. x.phase) l.1) ∙ f
not_after k c d (e.Park t) h f =
    let l = from_legal (r.may_park c t) (record c { parked = t ∷ c.parked }) d (from_table k c d (e.Park t) h) in
    ap (λ x. r.is_after x.phase) l.1 ∙ f
not_after k c d e.Update h f =
    let l = from_update (r.may_decide c) k c d (r.decided k c) (from_table k c d e.Update h) in
    absurd (true_false (r.is_after d.phase) (ap r.is_after l.1) f)
not_after k c d (e.Refuse x) h f =
    let l = from_legal (r.may_decide c && r.may_refuse k c x) (record c { phase = phase.Refused x }) d (from_table k c d (e.Refuse x) h) in
    absurd (true_false (r.is_after d.phase) (ap (λ y. r.is_after y.phase) (sym l.1)) f)
not_after k c d (e.Resume t) h f =
    let l = from_legal (r.may_resume c t) (record c { parked = r.without t c.parked }) d (from_table k c d (e.Resume t) h) in
    ap (λ x. r.is_after x.phase) l.1 ∙ f

-- how many events are owed behind an event
abbrev pub owed_in : r.Core → ℕ
owed_in c = owed c.phase c.parked

pub step_owes : (k : Settings) (c d : r.Core) (t : ℕ) → r.next k c (e.Step t) ≡ Some d → owed_in d ≡ owed_in c
step_owes k c d t h =
    let o = step c.program t c.state in
    let l = from_legal (r.may_step k c t) (r.stepped c t o) d (from_table k c d (e.Step t) h) in
    ap owed_in (sym l.1) ∙ (ap (λ p. owed p (r.stepped c t o).parked) (phase_stays c t o) ∙ ap (λ us. owed c.phase us) (parked_stay c t o))

asked_owes : (p : Phase) (us : List ℕ) → owed phase.Asked us ≤ owed p us + 1
asked_owes phase.Before us = omega arith
asked_owes phase.Asked us = omega arith
asked_owes phase.Updated us = omega arith
asked_owes (phase.Refused x) us = omega arith

pub request_owes : (k : Settings) (c d : r.Core) → r.next k c e.Request ≡ Some d → owed_in d ≤ owed_in c + 1
request_owes k c d h =
    let l = from_legal (r.is_due k c) (record c { phase = phase.Asked }) d (from_table k c d e.Request h) in
    subst (λ x. owed_in x ≤ owed_in c + 1) l.1 (asked_owes c.phase c.parked)

one_more : (p : Phase) (t : ℕ) (us : List ℕ) → owed p (t ∷ us) ≤ owed p us + 1
one_more p t us = omega arith

pub park_owes : (k : Settings) (c d : r.Core) (t : ℕ) → r.next k c (e.Park t) ≡ Some d → owed_in d ≤ owed_in c + 1
park_owes k c d t h =
    let l = from_legal (r.may_park c t) (record c { parked = t ∷ c.parked }) d (from_table k c d (e.Park t) h) in
    subst (λ x. owed_in x ≤ owed_in c + 1) l.1 (one_more c.phase t c.parked)

one_fewer : (p : Phase) (us vs : List ℕ) → length vs + 1 ≤ length us → owed p vs + 1 ≤ owed p us
one_fewer p us vs h = omega (arith, h)

pub resume_owes : (k : Settings) (c d : r.Core) (t : ℕ) → r.next k c (e.Resume t) ≡ Some d → owed_in d + 1 ≤ owed_in c
resume_owes k c d t h =
    let l = from_legal (r.may_resume c t) (record c { parked = r.without t c.parked }) d (from_table k c d (e.Resume t) h) in
    subst (λ x. owed_in x + 1 ≤ owed_in c) l.1 (one_fewer c.phase c.parked (r.without t c.parked) (without_fewer t c.parked (resume_parked c t l.0)))

outcome_owes : (c : r.Core) (p : Phase) → r.may_decide c ≡ true → r.is_asked p ≡ false → owed p c.parked + 1 ≤ owed_in c
outcome_owes c p m f =
    let a : owed_in c ≡ owed phase.Asked c.parked = ap (λ q. owed q c.parked) (asked_is c.phase (decide_asked c m)) in
    let b : owed p c.parked ≡ 0 + length c.parked = ap (λ x. (if x then 1 else 0) + length c.parked) f in
    omega (arith, a, b)

pub update_owes : (k : Settings) (c d : r.Core) → r.next k c e.Update ≡ Some d → owed_in d + 1 ≤ owed_in c
update_owes k c d h =
    let l = from_update (r.may_decide c) k c d (r.decided k c) (from_table k c d e.Update h) in
    let same : owed_in d ≡ owed phase.Updated c.parked = ap (λ p. owed p d.parked) l.1 ∙ ap (λ us. owed phase.Updated us) l.2 in
    subst (λ n. n + 1 ≤ owed_in c) (sym same) (outcome_owes c phase.Updated l.0 refl)

pub refuse_owes : (k : Settings) (c d : r.Core) (x : Reason) → r.next k c (e.Refuse x) ≡ Some d → owed_in d + 1 ≤ owed_in c
refuse_owes k c d x h =
    let l = from_legal (r.may_decide c && r.may_refuse k c x) (record c { phase = phase.Refused x }) d (from_table k c d (e.Refuse x) h) in
    subst (λ y. owed_in y + 1 ≤ owed_in c) l.1 (outcome_owes c (phase.Refused x) (and_first (r.may_decide c) (r.may_refuse k c x) l.0) refl)

pub refuse_after : (k : Settings) (c d : r.Core) (x : Reason) → r.next k c (e.Refuse x) ≡ Some d → r.is_after d.phase ≡ true
refuse_after k c d x h =
    let l = from_legal (r.may_decide c && r.may_refuse k c x) (record c { phase = phase.Refused x }) d (from_table k c d (e.Refuse x) h) in
    ap (λ y. r.is_after y.phase) (sym l.1)

-- a World with one more event: what was given stays, and the event was made
pub record Follows (w w2 : Inside) (x : Event) : Type 0 where
  pub earlier : w2.earlier ≡ w.earlier
  pub settings : w2.settings ≡ w.settings
  pub events : w2.events.items ≡ w.events.items ++ x ∷ []
  pub makes : Makes w.settings x.kind w.here w2.places w2.here

-- where the run stands now
pub now_follows : (w w2 : Inside) (x : Event) → Follows w w2 x → now_of w2 ≡ core_now w.settings w2.here
now_follows w w2 x f = ap (λ k. core_now k w2.here) f.settings

-- where it began stays
pub first_follows : (w w2 : Inside) (x : Event) → Follows w w2 x → first_in w2 ≡ first_in w
first_follows w w2 x f = ap (λ ps. let g : Inside = record w2 { earlier = ps } in first_in g) f.earlier ∙ ap (λ k. let g : Inside = record w { settings = k } in first_in g) f.settings

leads_on : (w w2 : Inside) (x : Event) → IsSound w → Follows w w2 x → r.run_from w2.settings (first_in w2) w2.events.items ≡ Some (now_of w2)
leads_on w w2 x s f =
    ap (λ k. r.run_from k (first_in w2) w2.events.items) f.settings
    ∙ (ap (λ c. r.run_from w.settings c w2.events.items) (first_follows w w2 x f)
    ∙ (ap (λ es. r.run_from w.settings (first_in w) es) f.events
    ∙ (run-more w.settings (first_in w) (now_of w) (core_now w.settings w2.here) w.events.items x s.leads f.makes.next
    ∙ ap (λ c. let o : Option r.Core = Some c in o) (sym (now_follows w w2 x f)))))

-- the refusal in the events with one more
pub refused_follows : (w w2 : Inside) (x : Event) → Follows w w2 x
    → refused_in w2.settings (first_in w2) w2.events.items ≡ refused_in w.settings (first_in w) (w.events.items ++ x ∷ [])
refused_follows w w2 x f =
    ap (λ k. refused_in k (first_in w2) w2.events.items) f.settings
    ∙ (ap (λ c. refused_in w.settings c w2.events.items) (first_follows w w2 x f) ∙ ap (λ es. refused_in w.settings (first_in w) es) f.events)

ready_on : (w w2 : Inside) (x : Event) → Follows w w2 x → IsReady w2.settings w2.places (now_of w2)
ready_on w w2 x f = subst (λ k. IsReady k w2.places (core_now k w2.here)) (sym f.settings) f.makes.ready

-- what a World keeps behind an event
pub keeps : (w w2 : Inside) (x : Event) → IsSound w → Follows w w2 x → owed w2.here.phase w2.here.parked.items ≤ w2.events.room
    → w2.named ≡ place_named (refused_in w.settings (first_in w) (w.events.items ++ x ∷ []))
    → (r.is_after w2.here.phase ≡ false → refused_in w.settings (first_in w) (w.events.items ++ x ∷ []) ≡ None) → IsSound w2
keeps w w2 x s f room named unrefused = record {
  leads = leads_on w w2 x s f;
  ready = ready_on w w2 x f;
  room = room;
  named = named ∙ ap place_named (sym (refused_follows w w2 x f));
  unrefused = λ n. refused_follows w w2 x f ∙ unrefused n;
}

-- what it keeps behind one that is no refusal
pub calm_keeps : (w w2 : Inside) (x : Event) → IsSound w → Follows w w2 x → w2.named ≡ w.named → IsNoRefusal x.kind
    → owed w2.here.phase w2.here.parked.items ≤ w2.events.room → IsSound w2
calm_keeps w w2 x s f um q room =
    let calm = quiet-more w.settings (first_in w) w.events.items x q in
    keeps w w2 x s f room (um ∙ (s.named ∙ ap place_named (sym calm)))
    (λ n. calm ∙ s.unrefused (not_after w.settings (now_of w) (core_now w.settings w2.here) x.kind f.makes.next n))

-- the event was made
pub is_made : (w w2 : Inside) (h h2 : History) (worker : ℕ) (kind : EventKind) → history_of w ≡ h → IsSound w → history_of w2 ≡ h2 → IsSound w2
    → Follows w w2 (record { worker = worker; kind = kind }) → IsMade h h2 worker kind
is_made w w2 h h2 worker kind v s v2 s2 f =
    let x : Event = record { worker = worker; kind = kind } in
    record {
      ok = sym v2 ∙ (ap (λ ps. let g : History = record { earlier = ps; settings = w2.settings; events = w2.events.items } in g) f.earlier
          ∙ (ap (λ k. let g : History = record { earlier = w.earlier; settings = k; events = w2.events.items } in g) f.settings
          ∙ (ap (λ es. let g : History = record { earlier = w.earlier; settings = w.settings; events = es } in g) f.events ∙ ap (λ g. with_event g worker kind) v)));
      core = subst (λ g. r.next g.settings (core g) kind ≡ Some (core h2)) v
          (ap (λ c. r.next w.settings c kind) (told w (history_of w) refl s)
          ∙ (f.makes.next ∙ ap (λ c. let o : Option r.Core = Some c in o) (sym (told w2 h2 v2 s2 ∙ now_follows w w2 x f))));
    }
