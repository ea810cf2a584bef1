-- What becomes of an update.
use Rattle.std.specs.Prelude.{◌≡◌, ◌⊎◌, ⊤, Bool, false, map, Ok, Err}
use Rattle.c_tree.specs.declared.event.EventKind.{EventKind}
use Rattle.c_tree.specs.declared.event.EventKind.TheVariants as e
use Rattle.c_tree.specs.declared.event.Reason.TheVariants as why
use Rattle.c_tree.specs.declared.event.Reason.{Reason}
use Rattle.c_tree.specs.declared.place.Places.{Places}
use Rattle.c_tree.specs.declared.run.Settings.{Settings}
use Rattle.state_transform.specs.declared.parts.Parts.{Parts}
use Rattle.c_tree.specs.Layout.{places}
use Rattle.c_tree.specs.Run.{Core, decided, new_program, is_memory}
use Rattle.state_transform.specs.Parts.{with_parts}
use Rattle.plain_run.specs.declared.decision.Decision.{Decision}
use Rattle.plain_run.specs.declared.decision.Decision.TheVariants as decision
use Rattle.plain_run.specs.declared.decision.Committed.{Committed}
use Rattle.plain_run.specs.declared.decision.Committed.TheVariants as committed

-- the parts are those of the new state, and the places those of the new program
abbrev pub IsUpdate : Settings → Core → Parts → Places → Type 0
IsUpdate k c parts new = (decided k c ≡ Ok (with_parts parts c.state)) × (new.functions ≡ map places (new_program k c).functions)

-- the reason is the first against the update; a refusal for want of memory is free
abbrev pub IsReason : Settings → Core → Reason → Type 0
IsReason k c r = (decided k c ≡ Err r) ⊎ (r ≡ why.Memory)

-- the parts and the places of the new state, or the reason against it
abbrev pub IsDecision : Settings → Core → Decision → Type 0
IsDecision k c (decision.Updated parts new) = IsUpdate k c parts new
IsDecision k c (decision.Refused r) = IsReason k c r

-- an update's outcome
abbrev pub IsOutcome : EventKind → Type 0
IsOutcome (e.Step t) = ⊥
IsOutcome e.Request = ⊥
IsOutcome (e.Park t) = ⊥
IsOutcome e.Update = ⊤
IsOutcome (e.Refuse r) = ⊤
IsOutcome (e.Resume t) = ⊥

-- the event of an outcome
abbrev pub kind_of : Committed → EventKind
kind_of committed.Updated = e.Update
kind_of (committed.Refused r) = e.Refuse r

-- the event of a decision
abbrev pub kind_decided : Decision → EventKind
kind_decided (decision.Updated parts new) = e.Update
kind_decided (decision.Refused r) = e.Refuse r

-- whether an update was refused for want of memory
abbrev pub is_short : Committed → Bool
is_short committed.Updated = false
is_short (committed.Refused r) = is_memory r

-- the outcome that a decision leads to
abbrev pub committed_of : Decision → Committed
committed_of (decision.Updated parts new) = committed.Updated
committed_of (decision.Refused r) = committed.Refused r

-- a refusal leaves the state and the program
abbrev pub Stays : Committed → Core → Core → Type 0
Stays committed.Updated before after = Unit {0}
Stays (committed.Refused r) before after = (after.state ≡ before.state) × (after.program ≡ before.program)
