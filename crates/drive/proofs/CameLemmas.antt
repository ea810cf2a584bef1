-- What an event other than a Step leaves of a core.
use Rattle.std.proofs.Common.{◌≡◌, ℕ, Bool, true, false, ◌&&◌, List, ◌∷◌, length, Option, Some, None, Result, Ok, Err, refl, sym, subst}
use Rattle.std.specs.Prelude.{if◌then◌else◌}
use Rattle.c_tree.specs.declared.event.EventKind.TheVariants as e
use Rattle.c_tree.specs.declared.event.Reason.{Reason}
use Rattle.c_tree.specs.declared.event.Reason.TheVariants as reason
use Rattle.c_tree.specs.declared.run.Armed.{Armed}
use Rattle.c_tree.specs.declared.run.End.{End}
use Rattle.c_tree.specs.declared.run.Phase.{Phase}
use Rattle.c_tree.specs.declared.run.Phase.TheVariants as phase
use Rattle.c_tree.specs.declared.run.Settings.{Settings}
use Rattle.c_tree.specs.declared.state.State.{State}
use Rattle.c_tree.specs.Run.{Core, over, next, while_on, legal, is_due, may_step, may_park, may_decide, may_resume, stepped, updated, decided, without}
use Rattle.c_tree.specs.Step.{step}
use Rattle.c_tree.specs.Update.{update}
use Rattle.plain_run.specs.declared.decision.Committed.{Committed}
use Rattle.plain_run.specs.declared.decision.Committed.TheVariants as committed
use Rattle.plain_run.specs.Decision.{kind_of}
use Rattle.c_tree.proofs.SameThreads.{AsMany, update_many}

pub record Came (c d : Core) (p : Phase) (ps : List ℕ) : Type 0 where
  pub phase : d.phase ≡ p
  pub parked : d.parked ≡ ps
  pub steps : d.steps ≡ c.steps
  pub threads : length d.state.threads ≡ length c.state.threads

one_some : (x d : Core) → (let o : Option Core = Some x in o) ≡ Some d → d ≡ x
one_some x d h = cc

gives : (o : Option End) (b : Bool) (x d : Core) → while_on o (legal b x) ≡ Some d → d ≡ x
gives None true x d h = one_some x d h
gives None false x d h = cc
gives (Some y) b x d h = cc

pub step_gives : (k : Settings) (c d : Core) (t : ℕ) → next k c (e.Step t) ≡ Some d → d ≡ stepped c t (step c.program t c.state)
unfolding next
step_gives k c d t h = gives (over k c) (may_step k c t) (stepped c t (step c.program t c.state)) d h

pub request_came : (k : Settings) (c d : Core) → next k c e.Request ≡ Some d → Came c d phase.Asked c.parked
unfolding next
request_came k c d h =
    subst (λ x. Came c x phase.Asked c.parked) (sym (gives (over k c) (is_due k c) (record c { phase = phase.Asked }) d h)) (record { phase = refl; parked = refl; steps = refl; threads = refl })

pub park_came : (k : Settings) (c d : Core) (t : ℕ) → next k c (e.Park t) ≡ Some d → Came c d c.phase (t ∷ c.parked)
unfolding next
park_came k c d t h =
    subst (λ x. Came c x c.phase (t ∷ c.parked)) (sym (gives (over k c) (may_park c t) (record c { parked = t ∷ c.parked }) d h)) (record { phase = refl; parked = refl; steps = refl; threads = refl })

pub resume_came : (k : Settings) (c d : Core) (t : ℕ) → next k c (e.Resume t) ≡ Some d → Came c d c.phase (without t c.parked)
unfolding next
resume_came k c d t h =
    subst (λ x. Came c x c.phase (without t c.parked)) (sym (gives (over k c) (may_resume c t) (record c { parked = without t c.parked }) d h)) (record { phase = refl; parked = refl; steps = refl; threads = refl })

-- the phase that an outcome leads to
abbrev pub phase_of : Committed → Phase
phase_of committed.Updated = phase.Updated
phase_of (committed.Refused r) = phase.Refused r

update_came : (o : Option End) (b : Bool) (k : Settings) (c d : Core) (r : Result State Reason) → AsMany (length c.state.threads) r
    → while_on o (if b then updated k c r else None) ≡ Some d → Came c d phase.Updated c.parked
update_came None true k c d (Ok s) m h =
    subst (λ x. Came c x phase.Updated c.parked) (sym (one_some _ d h)) (record { phase = refl; parked = refl; steps = refl; threads = m })
update_came None true k c d (Err r) m h = cc
update_came None false k c d r m h = cc
update_came (Some y) b k c d r m h = cc

decided_many : (a : Option Armed) (s : State) → AsMany (length s.threads) (elim a as (λ _. Result State Reason) [ None ↦ Err reason.Memory | Some x ↦ update x.patch s ])
decided_many None s = tt
decided_many (Some x) s = update_many x.patch s

pub outcome_came : (k : Settings) (c d : Core) (r : Committed) → next k c (kind_of r) ≡ Some d → Came c d (phase_of r) c.parked
unfolding next
outcome_came k c d committed.Updated h = update_came (over k c) (may_decide c) k c d (decided k c) (decided_many k.armed c.state) h
outcome_came k c d (committed.Refused x) h =
    subst (λ y. Came c y (phase.Refused x) c.parked)
    (sym (gives (over k c) (may_decide c && _) (record c { phase = phase.Refused x }) d h)) (record { phase = refl; parked = refl; steps = refl; threads = refl })
