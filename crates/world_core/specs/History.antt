-- A World as contracts see it: what it was given, and its events. All else follows from these.
use Rattle.std.specs.Prelude.{◌≡◌, ℕ, Bool, not, ◌&&◌, is_some, List, [], ◌∷◌, ◌++◌, fold, unwrap_or, Option, Some, None}
use Rattle.c_tree.specs.declared.event.Event.{Event}
use Rattle.c_tree.specs.declared.event.EventKind.{EventKind}
use Rattle.c_tree.specs.declared.lifted.Lifted.{Lifted}
use Rattle.c_tree.specs.declared.mapping.Patch.{Patch}
use Rattle.c_tree.specs.declared.run.End.{End}
use Rattle.c_tree.specs.declared.run.Phase.TheVariants as phase
use Rattle.c_tree.specs.declared.run.Settings.{Settings}
use Rattle.c_tree.specs.Run as r
use Rattle.world_core.specs.Part.{Part}

-- the earlier parts of a run, the first one first; and the settings of its present part and the events of that so far
pub record History : Type 0 where
  pub earlier : List Part
  pub settings : Settings
  pub events : List Event

-- a run of one part
abbrev pub single : Settings → List Event → History
single k es = record { earlier = []; settings = k; events = es }

-- without a patch, and with no event
abbrev pub begun : Lifted → List ℕ → ℕ → History
begun p input limit = single (record { program = p; armed = None; input = input; limit = limit }) []

-- where the next part of a run begins: the same program in the same state, with no update under way and no Step counted
abbrev pub onward : r.Core → r.Core
onward c = record { program = c.program; state = c.state; phase = phase.Before; parked = []; steps = 0; ended = None }

-- where the part behind this one begins
abbrev pub behind : r.Core → Part → r.Core
behind c p = onward (unwrap_or (r.run_from p.settings c p.events) c)

-- the settings of the first part
abbrev pub first_settings : List Part → Settings → Settings
first_settings [] k = k
first_settings (p ∷ ps) k = p.settings

-- where the present part begins: where the earlier ones lead, from the start of the first program
abbrev pub first_from : List Part → Settings → r.Core
first_from earlier k = fold behind (r.first (first_settings earlier k)) earlier

-- where the events begin
abbrev pub first_of : History → r.Core
first_of h = first_from h.earlier h.settings

-- the core that the events lead to
unfoldable pub core : History → r.Core
core h = unwrap_or (r.run_from h.settings (first_of h) h.events) (first_of h)

-- whether the events are a run
abbrev pub IsRun : History → Type 0
IsRun h = r.run_from h.settings (first_of h) h.events ≡ Some (core h)

-- how the run is over, if it is
abbrev pub over : History → Option End
over h = r.over h.settings (core h)

-- a test that holds while the run is on
abbrev pub on : History → Bool → Bool
on h b = not (is_some (over h)) && b

-- whether a Step of a thread is legal now
abbrev pub may_turn : History → ℕ → Bool
may_turn h t = on h (r.may_step h.settings (core h) t)

-- whether a Request is legal now
abbrev pub may_request : History → Bool
may_request h = on h (r.is_due h.settings (core h))

-- whether a thread may park now
abbrev pub may_park : History → ℕ → Bool
may_park h t = on h (r.may_park (core h) t)

-- whether the update may be done or refused now
abbrev pub may_commit : History → Bool
may_commit h = on h (r.may_decide (core h))

-- whether a thread may resume now
abbrev pub may_resume : History → ℕ → Bool
may_resume h t = on h (r.may_resume (core h) t)

-- the history with one more event, which a worker made
abbrev pub with_event : History → ℕ → EventKind → History
with_event h worker kind = record h { events = h.events ++ (record { worker = worker; kind = kind }) ∷ [] }

-- an event was made: it is the last one now, and the core follows from the one before
pub record IsMade (before after : History) (worker : ℕ) (kind : EventKind) : Type 0 where
  pub ok : after ≡ with_event before worker kind
  pub core : r.next before.settings (core before) kind ≡ Some (core after)

-- a patch is armed, to be asked for after so many Steps
abbrev pub armed_with : History → Patch → ℕ → History
armed_with h patch at = record h { settings = record h.settings { armed = Some (record { patch = patch; at = at }) } }
