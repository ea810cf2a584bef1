-- The events of a World but for the outcome of its update, and what they keep.
use Rattle.std.proofs.Common.{◌≡◌, ℕ, ◌+◌, ◌≤◌, ◌<◌, true, [], map, length, Option, Some, None, refl, ap, sym, subst, ◌∙◌, arith}
use Rattle.c_tree.specs.declared.event.EventKind.TheVariants as e
use Rattle.c_tree.specs.declared.lifted.Lifted.{Lifted}
use Rattle.c_tree.specs.declared.run.Armed.{Armed}
use Rattle.c_tree.specs.declared.run.Phase.{Phase}
use Rattle.c_tree.specs.declared.run.Phase.TheVariants as phase
use Rattle.c_tree.specs.Layout.{places}
use Rattle.c_tree.specs.Run as r
use Rattle.c_tree.specs.Step.{step}
use Rattle.c_tree.proofs.RunLemmas.{may_step-able, next-Step}
use Rattle.c_tree.proofs.StepLemmas.{stepped-steps}
use Rattle.plain_run.specs.CoreAt.{core_at, core_now, present}
use Rattle.plain_run.specs.Ready.{Fits, IsReady}
use Rattle.plain_run.specs.Room.{owed}
use Rattle.plain_run.proofs.EventLemmas.{on_below}
use Rattle.plain_run.proofs.NextLemmas.{resume_parked, without_fewer}
use Rattle.world_core.specs.History.{History, core, may_resume, may_turn, IsMade}
use Rattle.world_core.specs.Refused.{place_named, refused_in}
use Rattle.world_core.specs.Sound.{IsSound, first_in, history_of, now_of}
use Rattle.world_core.specs.declared.world.World.TheInside.{Inside}
use Rattle.world_core.proofs.EventLemmas.{Follows, calm_keeps, park_owes, request_owes, resume_owes, step_owes}
use Rattle.world_core.proofs.WorldLemmas.{first_armed, first_before, may_of, over_none, test_told, told}

-- a Step
pub turn_keeps : (w w2 : Inside) (worker t : ℕ) → IsSound w → Follows w w2 (record { worker = worker; kind = e.Step t }) → w2.named ≡ w.named
    → owed w.here.phase w.here.parked.items ≤ w2.events.room → IsSound w2
turn_keeps w w2 worker t s f um room =
    let o : owed w2.here.phase w2.here.parked.items ≡ owed w.here.phase w.here.parked.items = step_owes w.settings (now_of w) (core_now w.settings w2.here) t f.makes.next in
    calm_keeps w w2 (record { worker = worker; kind = e.Step t }) s f um (λ c z. refl) (omega (arith, o, room))

some_is : (c d : r.Core) → ◌≡◌ {A = Option r.Core} (Some c) (Some d) → c ≡ d
some_is c d h = cc

-- the core after it
pub turn_core : (h h2 : History) (worker t : ℕ) → may_turn h t ≡ true → IsMade h h2 worker (e.Step t)
    → core h2 ≡ r.stepped (core h) t (step (core h).program t (core h).state)
turn_core h h2 worker t m made =
    let b = r.may_step h.settings (core h) t in
    some_is (core h2) (r.stepped (core h) t (step (core h).program t (core h).state))
    (sym made.core ∙ next-Step h.settings (core h) t (over_none h b m) (may_of h b m))

pub turn_more : (h h2 : History) (t : ℕ) → may_turn h t ≡ true → core h2 ≡ r.stepped (core h) t (step (core h).program t (core h).state)
    → (core h2).steps ≡ (core h).steps + 1
turn_more h h2 t m e =
    ap (λ c. c.steps) e ∙ stepped-steps (core h) t (may_step-able h.settings (core h) t (may_of h (r.may_step h.settings (core h) t) m))

pub turn_below : (w : Inside) (h : History) (t : ℕ) → history_of w ≡ h → IsSound w → may_turn h t ≡ true → (core h).steps < h.settings.limit
turn_below w h t v s m =
    on_below h.settings (core h) (over_none h (r.may_step h.settings (core h) t) m)
    (subst (λ g. (core g).steps ≤ g.settings.limit) v (subst (λ c. c.steps ≤ w.settings.limit) (sym (told w (history_of w) refl s)) s.ready.within))

-- a Request
pub request_keeps : (w w2 : Inside) (worker : ℕ) → IsSound w → Follows w w2 (record { worker = worker; kind = e.Request }) → w2.named ≡ w.named
    → owed w.here.phase w.here.parked.items + 1 ≤ w2.events.room → IsSound w2
request_keeps w w2 worker s f um room =
    let o : owed w2.here.phase w2.here.parked.items ≤ owed w.here.phase w.here.parked.items + 1 = request_owes w.settings (now_of w) (core_now w.settings w2.here) f.makes.next in
    calm_keeps w w2 (record { worker = worker; kind = e.Request }) s f um (λ c z. refl) (omega (arith, o, room))

-- a Park
pub park_keeps : (w w2 : Inside) (worker t : ℕ) → IsSound w → Follows w w2 (record { worker = worker; kind = e.Park t }) → w2.named ≡ w.named
    → owed w.here.phase w.here.parked.items + 1 ≤ w2.events.room → IsSound w2
park_keeps w w2 worker t s f um room =
    let o : owed w2.here.phase w2.here.parked.items ≤ owed w.here.phase w.here.parked.items + 1 = park_owes w.settings (now_of w) (core_now w.settings w2.here) t f.makes.next in
    calm_keeps w w2 (record { worker = worker; kind = e.Park t }) s f um (λ c z. refl) (omega (arith, o, room))

-- more room alone
pub roomy_keeps : (w w2 : Inside) → IsSound w → w2.earlier ≡ w.earlier → w2.settings ≡ w.settings → w2.places ≡ w.places → w2.named ≡ w.named
    → w2.events.items ≡ w.events.items → ((p : Lifted) → core_at p w2.here ≡ core_at p w.here)
    → w.events.room ≤ w2.events.room → IsSound w2
roomy_keeps w w2 s ea a b um ev cp rm =
    let k = w.settings in
    let ph : w2.here.phase ≡ w.here.phase = ap (λ c. c.phase) (cp (now_of w).program) in
    let pq : present w2.here.phase k.armed k.program ≡ (now_of w).program = ap (λ p. present p k.armed k.program) ph in
    let here : core_now k w2.here ≡ now_of w = ap (λ p. core_at p w2.here) pq ∙ cp (now_of w).program in
    let first : first_in w2 ≡ first_in w =
    ap (λ ps. let g : Inside = record w2 { earlier = ps } in first_in g) ea ∙ ap (λ j. let g : Inside = record w { settings = j } in first_in g) a in
    let no : refused_in w2.settings (first_in w2) w2.events.items ≡ refused_in k (first_in w) w.events.items =
    ap (λ j. refused_in j (first_in w2) w2.events.items) a
    ∙ (ap (λ c. refused_in k c w2.events.items) first ∙ ap (λ es. refused_in k (first_in w) es) ev) in
    record {
      leads = ap (λ j. r.run_from j (first_in w2) w2.events.items) a
          ∙ (ap (λ c. r.run_from k c w2.events.items) first
          ∙ (ap (λ es. r.run_from k (first_in w) es) ev
          ∙ (s.leads ∙ ap (λ c. let x : Option r.Core = Some c in x) (sym (ap (λ j. core_now j w2.here) a ∙ here)))));
      ready = subst (λ j. IsReady j w2.places (core_now j w2.here)) (sym a)
          (subst (λ ps. IsReady k ps (core_now k w2.here)) (sym b) (subst (λ c. IsReady k w.places c) (sym here) s.ready));
      room = let o : owed w2.here.phase w2.here.parked.items ≡ owed w.here.phase w.here.parked.items = ap (λ c. owed c.phase c.parked) here in
          omega (arith, o, rm, s.room);
      named = um ∙ (s.named ∙ ap place_named (sym no));
      unrefused = λ e. no ∙ s.unrefused (ap r.is_after (sym ph) ∙ e);
    }

-- a Resume
resume_fewer : (w : Inside) (h : History) (t : ℕ) → history_of w ≡ h → IsSound w → may_resume h t ≡ true → 1 ≤ length w.here.parked.items
resume_fewer w h t v s m =
    let may : r.may_resume (now_of w) t ≡ true = test_told (λ k c. r.may_resume c t) w h v s ∙ may_of h (r.may_resume (core h) t) m in
    let f = without_fewer t w.here.parked.items (resume_parked (now_of w) t may) in
    omega (arith, f)

pub resume_room : (w : Inside) (h : History) (t : ℕ) → history_of w ≡ h → IsSound w → may_resume h t ≡ true → 0 < w.events.room
resume_room w h t v s m = omega (arith, s.room, resume_fewer w h t v s m)

pub resume_keeps : (w w2 : Inside) (worker t : ℕ) → IsSound w → Follows w w2 (record { worker = worker; kind = e.Resume t }) → w2.named ≡ w.named
    → w.events.room ≤ w2.events.room + 1 → IsSound w2
resume_keeps w w2 worker t s f um rm =
    let o : owed w2.here.phase w2.here.parked.items + 1 ≤ owed w.here.phase w.here.parked.items = resume_owes w.settings (now_of w) (core_now w.settings w2.here) t f.makes.next in
    calm_keeps w w2 (record { worker = worker; kind = e.Resume t }) s f um (λ c z. refl) (omega (arith, rm, s.room, o))

-- a run that has no event yet is armed
before_present : (p : Phase) (w : Inside) (a : Armed) → p ≡ phase.Before → present p (Some a) w.settings.program ≡ present p w.settings.armed w.settings.program
before_present p w a e = ap (λ q. present q (Some a) w.settings.program) e ∙ sym (ap (λ q. present q w.settings.armed w.settings.program) e)

pub arm_keeps : (w : Inside) (a : Armed) → IsSound w → w.events.items ≡ [] → Fits w.settings.program a → IsSound (record w { settings = record w.settings { armed = Some a } })
arm_keeps w a s n f =
    let k2 = record w.settings { armed = Some a } in
    let w2 : Inside = record w { settings = k2 } in
    let first : first_in w2 ≡ first_in w = first_armed w.earlier w.settings (Some a) in
    let begins : first_in w ≡ now_of w = some_is (first_in w) (now_of w) (sym (ap (λ es. r.run_from w.settings (first_in w) es) n) ∙ s.leads) in
    let ph : w.here.phase ≡ phase.Before = sym (ap (λ c. c.phase) begins) ∙ first_before w.earlier w.settings in
    let pq : (now_of w2).program ≡ (now_of w).program = before_present w.here.phase w a ph in
    let here : now_of w2 ≡ now_of w = ap (λ p. core_at p w.here) pq in
    let none : refused_in k2 (first_in w2) w.events.items ≡ None = ap (λ es. refused_in k2 (first_in w2) es) n in
    record {
      leads = ap (λ es. r.run_from k2 (first_in w2) es) n ∙ ap (λ c. let x : Option r.Core = Some c in x) (first ∙ (begins ∙ sym here));
      ready = record {
        placed = s.ready.placed ∙ ap (λ p. map places p.functions) (sym pq);
        few = s.ready.few;
        within = s.ready.within;
        limit = s.ready.limit;
        fits = f;
        armed = λ x. refl;
      };
      room = s.room;
      named = s.named ∙ (ap (λ es. place_named (refused_in w.settings (first_in w) es)) n ∙ ap place_named (sym none));
      unrefused = λ x. none;
    }
