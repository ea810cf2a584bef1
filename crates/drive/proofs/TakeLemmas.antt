-- A listed event that isn't legal.
use Rattle.std.proofs.Common.{◌≡◌, ℕ, Bool, true, false, Option, Some, None, refl, ap, ◌∙◌}
use Rattle.std.specs.Prelude.{if◌then◌else◌}
use Rattle.c_tree.specs.declared.event.EventKind.{EventKind}
use Rattle.c_tree.specs.declared.event.EventKind.TheVariants as e
use Rattle.c_tree.specs.declared.run.Settings.{Settings}
use Rattle.c_tree.specs.Run as r
use Rattle.c_tree.specs.Plan.{next_listed, is_memory_refusal}
use Rattle.plain_run.specs.Decision.{IsDecision, IsOutcome, kind_decided}
use Rattle.plain_run.specs.declared.decision.Decision.{Decision}
use Rattle.plain_run.proofs.StopLemmas as stop
use Rattle.plain_run.proofs.UnlikeLemmas.{unlike_decision}
use Rattle.world_core.specs.History.{History, core, may_turn, may_request, may_park, may_commit, may_resume}

pub bad-Step : (h : History) (t : ℕ) → may_turn h t ≡ false → next_listed h.settings (core h) (e.Step t) ≡ None
bad-Step h t m = stop.bad-Step h.settings (core h) t m

pub bad-Request : (h : History) → may_request h ≡ false → next_listed h.settings (core h) e.Request ≡ None
bad-Request h m = stop.bad-Request h.settings (core h) m

pub bad-Park : (h : History) (t : ℕ) → may_park h t ≡ false → next_listed h.settings (core h) (e.Park t) ≡ None
bad-Park h t m = stop.bad-Park h.settings (core h) t m

pub bad-Resume : (h : History) (t : ℕ) → may_resume h t ≡ false → next_listed h.settings (core h) (e.Resume t) ≡ None
bad-Resume h t m = stop.bad-Resume h.settings (core h) t m

-- a refusal for memory is no listed event
pub bad-memory : (k : Settings) (c : r.Core) (kind : EventKind) → is_memory_refusal kind ≡ true → next_listed k c kind ≡ None
bad-memory k c kind m = ap (λ b. if b then None else r.next k c kind) m

pub good-listed : (k : Settings) (c : r.Core) (kind : EventKind) (o : Option r.Core) → is_memory_refusal kind ≡ false → r.next k c kind ≡ o → next_listed k c kind ≡ o
good-listed k c kind o m n = ap (λ b. if b then None else r.next k c kind) m ∙ n

none_unless : (b : Bool) (x : Option r.Core) → (b ≡ false → x ≡ None) → (if b then None else x) ≡ None
none_unless true x h = refl
none_unless false x h = h refl

-- an outcome that may not come
pub bad-outcome : (h : History) (kind : EventKind) → IsOutcome kind → may_commit h ≡ false → next_listed h.settings (core h) kind ≡ None
bad-outcome h kind i m = none_unless (is_memory_refusal kind) (r.next h.settings (core h) kind) (λ q. stop.bad-outcome h.settings (core h) kind i m)

-- an outcome that the update doesn't come to
pub unlike-outcome : (h : History) (d : Decision) (kind : EventKind) → IsOutcome kind → IsDecision h.settings (core h) d → is_memory_refusal (kind_decided d) ≡ false
    → (kind_decided d ≡ kind → ⊥) → next_listed h.settings (core h) kind ≡ None
unlike-outcome h d kind i x m n =
    none_unless (is_memory_refusal kind) (r.next h.settings (core h) kind) (λ q. unlike_decision h.settings (core h) d kind i x m n q)
