-- The outcome of the update of a World, and what it keeps.
use Rattle.std.proofs.Common.{◌≡◌, ℕ, ◌+◌, ◌≤◌, ◌<◌, Bool, true, false, ◌&&◌, Option, Some, None, refl, ap, sym, subst, ◌∙◌, arith}
use Rattle.std.specs.Prelude.{Result, Ok, Err, IfOk}
use Rattle.std.specs.declared.alloc.AllocError.{AllocError}
use Rattle.c_tree.specs.declared.event.Event.{Event}
use Rattle.c_tree.specs.declared.event.EventKind.TheVariants as e
use Rattle.c_tree.specs.declared.event.Reason.{Reason}
use Rattle.c_tree.specs.declared.run.End.{End}
use Rattle.c_tree.specs.declared.run.Phase.TheVariants as phase
use Rattle.c_tree.specs.declared.run.Settings.{Settings}
use Rattle.c_tree.specs.Run as r
use Rattle.plain_run.specs.CoreAt.{core_now}
use Rattle.plain_run.specs.Decision.{IsDecision, Stays, committed_of, kind_decided}
use Rattle.plain_run.specs.Room.{owed}
use Rattle.plain_run.specs.Settled.{AwaitsOutcome}
use Rattle.plain_run.specs.declared.decision.Committed.{Committed}
use Rattle.plain_run.specs.declared.decision.Decision.{Decision}
use Rattle.plain_run.specs.declared.decision.Decision.TheVariants as decision
use Rattle.plain_run.proofs.NextLemmas.{asked_is, decide_asked}
use Rattle.world_core.specs.History.{History, core, may_commit, IsMade}
use Rattle.world_core.specs.Refused.{place_named}
use Rattle.world_core.specs.Sound.{IsSound, first_in, history_of, now_of}
use Rattle.world_core.specs.declared.world.World.TheInside.{Inside}
use Rattle.world_core.proofs.EventLemmas.{Follows, calm_keeps, keeps, refuse_after, refuse_owes, update_owes}
use Rattle.world_core.proofs.RefusedLemmas.{refusal-more}
use Rattle.world_core.proofs.WorldLemmas.{may_of, may_told, test_told, told}

-- where the outcome may come
pub awaits : (w : Inside) (h : History) → history_of w ≡ h → IsSound w → may_commit h ≡ true → AwaitsOutcome w.settings w.places w.here
awaits w h v s m = record { ready = s.ready; may = may_told (λ k c. r.may_decide c) w h v s m }

pub commit_asked : (w : Inside) (h : History) → history_of w ≡ h → IsSound w → may_commit h ≡ true → r.is_asked w.here.phase ≡ true
commit_asked w h v s m = decide_asked (now_of w) (test_told (λ k c. r.may_decide c) w h v s ∙ may_of h (r.may_decide (core h)) m)

pub commit_room : (w : Inside) (h : History) → history_of w ≡ h → IsSound w → may_commit h ≡ true → 0 < w.events.room
commit_room w h v s m =
    let o : owed w.here.phase w.here.parked.items ≡ owed phase.Asked w.here.parked.items = ap (λ p. owed p w.here.parked.items) (asked_is w.here.phase (commit_asked w h v s m)) in
    omega (arith, o, s.room)

-- what is decided where the run stands is decided of the history
pub decided_told : (P : Settings → r.Core → Type 0) (w : Inside) (h : History) → history_of w ≡ h → IsSound w → P h.settings (core h) → P w.settings (now_of w)
decided_told P w h v s d = subst (λ c. P w.settings c) (told w (history_of w) refl s) (subst (λ g. P g.settings (core g)) (sym v) d)

pub decided_of : (P : Settings → r.Core → Type 0) (w : Inside) (h : History) → history_of w ≡ h → IsSound w → P w.settings (now_of w) → P h.settings (core h)
decided_of P w h v s d = subst (λ g. P g.settings (core g)) v (subst (λ c. P w.settings c) (sym (told w (history_of w) refl s)) d)

pub decide_told : (w : Inside) (h : History) (d : Result Decision AllocError) → history_of w ≡ h → IsSound w → IfOk d (λ x. IsDecision w.settings (now_of w) x)
    → IfOk d (λ x. IsDecision h.settings (core h) x)
decide_told w h (Ok d) v s is = decided_of (λ k c. IsDecision k c d) w h v s is
decide_told w h (Err x) v s is = tt

-- an Update
pub update_keeps : (w w2 : Inside) (worker : ℕ) → IsSound w → Follows w w2 (record { worker = worker; kind = e.Update }) → w2.named ≡ w.named
    → w.events.room ≤ w2.events.room + 1 → IsSound w2
update_keeps w w2 worker s f um rm =
    let o : owed w2.here.phase w2.here.parked.items + 1 ≤ owed w.here.phase w.here.parked.items = update_owes w.settings (now_of w) (core_now w.settings w2.here) f.makes.next in
    calm_keeps w w2 (record { worker = worker; kind = e.Update }) s f um (λ c z. refl) (omega (arith, rm, s.room, o))

true_false : (b : Bool) → b ≡ true → b ≡ false → ⊥
true_false b e f = cc

asked_not_after : (w : Inside) → w.here.phase ≡ phase.Asked → r.is_after w.here.phase ≡ false
asked_not_after w e = ap r.is_after e

-- a refusal
pub refuse_keeps : (w w2 : Inside) (worker : ℕ) (x : Reason) → IsSound w → r.is_asked w.here.phase ≡ true → Follows w w2 (record { worker = worker; kind = e.Refuse x })
    → w2.named ≡ place_named (Some (now_of w, x))
    → w.events.room ≤ w2.events.room + 1 → IsSound w2
refuse_keeps w w2 worker x s asked f um rm =
    let y : Event = record { worker = worker; kind = e.Refuse x } in
    let o : owed w2.here.phase w2.here.parked.items + 1 ≤ owed w.here.phase w.here.parked.items = refuse_owes w.settings (now_of w) (core_now w.settings w2.here) x f.makes.next in
    let after : r.is_after w2.here.phase ≡ true = refuse_after w.settings (now_of w) (core_now w.settings w2.here) x f.makes.next in
    let named = refusal-more w.settings (first_in w) w.events.items y (now_of w) x refl s.leads (s.unrefused (asked_not_after w (asked_is w.here.phase asked))) in
    keeps w w2 y s f (omega (arith, rm, s.room, o)) (um ∙ ap place_named (sym named)) (λ n. absurd (true_false (r.is_after w2.here.phase) after n))

refused_to : (o : Option End) (b : Bool) (c d : r.Core) (x : Reason) → r.while_on o (r.legal b (record c { phase = phase.Refused x })) ≡ Some d
    → (d.state ≡ c.state) × (d.program ≡ c.program)
refused_to None true c d x h = let q : d ≡ record c { phase = phase.Refused x } = cc in (ap (λ z. z.state) q, ap (λ z. z.program) q)
refused_to None false c d x h = cc
refused_to (Some y) b c d x h = cc

-- a refusal leaves state and program
refused_stays : (k : Settings) (c d : r.Core) (x : Reason) → r.next k c (e.Refuse x) ≡ Some d → (d.state ≡ c.state) × (d.program ≡ c.program)
unfolding r.next
refused_stays k c d x h = refused_to (r.over k c) (r.may_decide c && r.may_refuse k c x) c d x h

pub made_stays : (h h2 : History) (worker : ℕ) (d : Decision) (c : Committed) → c ≡ committed_of d → IsMade h h2 worker (kind_decided d) → Stays c (core h) (core h2)
made_stays h h2 worker (decision.Updated parts new) c e m = subst (λ x. Stays x (core h) (core h2)) (sym e) tt
made_stays h h2 worker (decision.Refused x) c e m = subst (λ y. Stays y (core h) (core h2)) (sym e) (refused_stays h.settings (core h) (core h2) x m.core)
