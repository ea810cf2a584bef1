-- What it means that the outcome of an update is made, by what was decided.
use Rattle.std.specs.Prelude.{◌≡◌, true}
use Rattle.c_tree.specs.declared.event.EventKind.TheVariants as e
use Rattle.c_tree.specs.declared.event.Reason.{Reason}
use Rattle.c_tree.specs.declared.place.Places.{Places}
use Rattle.c_tree.specs.declared.run.Settings.{Settings}
use Rattle.c_tree.specs.Run as r
use Rattle.state_transform.specs.declared.parts.Parts.{Parts}
use Rattle.plain_run.specs.CoreAt.{core_now}
use Rattle.plain_run.specs.Decision.{IsDecision, IsReason, IsUpdate, kind_decided}
use Rattle.plain_run.specs.Made.{Makes, on}
use Rattle.plain_run.specs.Ready.{IsReady}
use Rattle.plain_run.specs.declared.decision.Decision.{Decision}
use Rattle.plain_run.specs.declared.now.Now.{Now}

-- the run is ready with these places, and the outcome may come
pub record AwaitsOutcome (k : Settings) (ps : Places) (now : Now) : Type 0 where
  pub ready : IsReady k ps (core_now k now)
  pub may : on k (core_now k now) (r.may_decide (core_now k now)) ≡ true

-- for all settings for which the outcome may come and is this update, it is made
abbrev pub Updates : Parts → Places → Places → Now → Places → Now → Type 0
Updates parts new old before ps after =
    (k : Settings) → AwaitsOutcome k old before → IsUpdate k (core_now k before) parts new → Makes k e.Update before ps after

-- for all settings and places for which the outcome may come and is refused for this reason, the refusal is made
abbrev pub Refuses : Reason → Now → Now → Type 0
Refuses x before after =
    (k : Settings) (ps : Places) → AwaitsOutcome k ps before → IsReason k (core_now k before) x → Makes k (e.Refuse x) before ps after

-- for all settings for which the outcome may come and is decided so, it is made
abbrev pub Settles : Decision → Places → Now → Places → Now → Type 0
Settles d old before ps after =
    (k : Settings) → AwaitsOutcome k old before → IsDecision k (core_now k before) d → Makes k (kind_decided d) before ps after
