-- What holds of every run.
use Rattle.std.specs.Prelude.{◌≡◌, ◌≢◌, ◌↔◌, ℕ, ◌≤◌, Bool, true, false, ◌==◌, List, [], ◌∷◌, ◌++◌, filter, count_by, Some, None, Ok, Err}
use Rattle.std.specs.List.{list_any}
use Rattle.c_tree.specs.declared.event.Event.{Event}
use Rattle.c_tree.specs.declared.event.EventKind.{EventKind}
use Rattle.c_tree.specs.declared.event.EventKind.TheVariants as e
use Rattle.c_tree.specs.declared.event.Reason.{Reason}
use Rattle.c_tree.specs.declared.event.Reason.TheVariants as reason
use Rattle.c_tree.specs.declared.run.Armed.{Armed}
use Rattle.c_tree.specs.declared.run.End.{End}
use Rattle.c_tree.specs.declared.run.Phase.TheVariants as phase
use Rattle.c_tree.specs.declared.run.Picker.{Picker}
use Rattle.c_tree.specs.declared.run.Settings.{Settings}
use Rattle.c_tree.specs.declared.state.State.{State}
use Rattle.c_tree.specs.Able.{standing}
use Rattle.c_tree.specs.Step.{is_live}
use Rattle.c_tree.specs.Update.{update}
use Rattle.c_tree.specs.Run.{Core, is_parked, may_decide, next, over, run, run_from}
use Rattle.c_tree.specs.Plan.{IsPlanned}

-- each parked thread is live and stands at an update place
abbrev pub ParkedStand : Core → Type 0
ParkedStand c =
    (t : ℕ) → is_parked c t ≡ true
    → (is_live c.state t ≡ true) × (standing c.program c.state t ≡ true)

-- each live thread stands at an update place
abbrev pub LiveStand : Core → Type 0
LiveStand c = (t : ℕ) → is_live c.state t ≡ true → standing c.program c.state t ≡ true

-- while an update is asked for, each parked thread is live and stands
abbrev pub ParkedThreadsStand : Type 0
ParkedThreadsStand =
    (k : Settings) (events : List Event) (c : Core) → run k events ≡ Some c → c.phase ≡ phase.Asked
    → ParkedStand c

-- and so each live thread stands where the outcome of an update may come
abbrev pub LiveThreadsStand : Type 0
LiveThreadsStand =
    (k : Settings) (events : List Event) (c : Core) → run k events ≡ Some c → may_decide c ≡ true
    → LiveStand c

-- whether an event is a Step
abbrev pub is_step : EventKind → Bool
is_step (e.Step t) = true
is_step _ = false

-- whether an event is a Request
abbrev pub is_request : EventKind → Bool
is_request e.Request = true
is_request _ = false

-- whether an event is the Park of a thread
abbrev pub is_park : ℕ → EventKind → Bool
is_park t (e.Park u) = u == t
is_park t _ = false

-- whether an event is the outcome of an update: the Update itself, or its refusal
abbrev pub is_outcome : EventKind → Bool
is_outcome e.Update = true
is_outcome (e.Refuse r) = true
is_outcome _ = false

-- whether an event is the Resume of a thread
abbrev pub is_resume : ℕ → EventKind → Bool
is_resume t (e.Resume u) = u == t
is_resume t _ = false

-- how many of the events are of a kind
abbrev pub count_of : (EventKind → Bool) → List Event → ℕ
count_of p events = count_by (λ event. p event.kind) events

-- the events have at most as many Steps as the limit, one Request, one outcome, and one Park and
-- one Resume of each thread
pub record HasFew (k : Settings) (events : List Event) : Type 0 where
  pub steps : count_of is_step events ≤ k.limit
  pub requests : count_of is_request events ≤ 1
  pub outcomes : count_of is_outcome events ≤ 1
  pub parks : (t : ℕ) → count_of (is_park t) events ≤ 1
  pub resumes : (t : ℕ) → count_of (is_resume t) events ≤ 1

-- and so have those of every run
abbrev pub RunsHaveFew : Type 0
RunsHaveFew =
    (k : Settings) (events : List Event) (c : Core) → run k events ≡ Some c → HasFew k events

-- whether an event is an Update
abbrev pub is_update : EventKind → Bool
is_update e.Update = true
is_update _ = false

-- whether one of the events is of a kind
abbrev pub has : (EventKind → Bool) → List Event → Bool
has p events = list_any (λ event. p event.kind) events

-- the same settings with no patch
abbrev pub unarmed : Settings → Settings
unarmed k = record k { armed = None }

-- the same core where no update is asked for and nobody is parked
abbrev pub quiet : Core → Core
quiet c = record c { phase = phase.Before; parked = [] }

-- the Steps alone
abbrev pub steps_of : List Event → List Event
steps_of events = filter (λ event. is_step event.kind) events

-- the one update of a run that comes to c: the events before it and after it, and the cores on its
-- two sides
pub record IsUpdatedOnce (k : Settings) (events : List Event) (c : Core) : Type 0 where
  pub earlier : List Event
  pub event : Event
  pub later : List Event
  pub before : Core
  pub after : Core
  pub armed : Armed
  -- the Update is among the events, and no other outcome
  pub parts : events ≡ earlier ++ event ∷ later
  pub updates : event.kind ≡ e.Update
  pub none_earlier : has is_outcome earlier ≡ false
  pub none_later : has is_outcome later ≡ false
  pub comes : run k earlier ≡ Some before
  pub goes : run k (earlier ++ event ∷ []) ≡ Some after
  -- each live thread stands where it is made
  pub stand : LiveStand before
  -- it is that of the armed patch, and of the whole state
  pub arms : k.armed ≡ Some armed
  pub program : after.program ≡ armed.patch.new
  pub state : update armed.patch before.state ≡ Ok after.state
  -- the program is the old one in each core up to it, and the new one in each core from it on
  pub old : (front rest : List Event) (d : Core) → earlier ≡ front ++ rest → run k front ≡ Some d
      → d.program ≡ k.program
  pub new : (front rest : List Event) (d : Core) → later ≡ front ++ rest
      → run k (earlier ++ event ∷ front) ≡ Some d → d.program ≡ armed.patch.new
  -- the Steps before it are a run of the old program, and those after it one of the new program
  -- from the updated state
  pub first : run (unarmed k) (steps_of earlier) ≡ Some (quiet before)
  pub second : run_from (unarmed k) (quiet after) (steps_of later) ≡ Some (quiet c)

-- where a run has an Update, it is the one update of the run
abbrev pub AnUpdateHasThisShape : Type 0
AnUpdateHasThisShape =
    (k : Settings) (events : List Event) (c : Core) → run k events ≡ Some c
    → has is_update events ≡ true → IsUpdatedOnce k events c

-- an event may come next
abbrev pub IsLegal : Settings → Core → EventKind → Type 0
IsLegal k c kind = (d : Core) × (next k c kind ≡ Some d)

-- what may come next where the outcome may: the Update exactly where the armed patch gives a new
-- state, a refusal for the reason that it gives or for memory, and nothing else
pub record Decides (k : Settings) (c : Core) : Type 0 where
  pub armed : Armed
  pub arms : k.armed ≡ Some armed
  pub accepts : (s : State) → update armed.patch c.state ≡ Ok s → IsLegal k c e.Update
  pub refuses : (r : Reason) → update armed.patch c.state ≡ Err r → IsLegal k c (e.Refuse r)
  pub memory : IsLegal k c (e.Refuse reason.Memory)
  pub no_update : (r : Reason) → update armed.patch c.state ≡ Err r → next k c e.Update ≡ None
  pub no_refusal : (r : Reason) → r ≢ reason.Memory → update armed.patch c.state ≢ Err r
      → next k c (e.Refuse r) ≡ None
  pub no_other : (kind : EventKind) → is_outcome kind ≡ false → next k c kind ≡ None

-- where an update is asked for, the run isn't over and all live threads are parked, the update of
-- the state alone decides what may come next
abbrev pub TheGateDecides : Type 0
TheGateDecides =
    (k : Settings) (events : List Event) (c : Core) → run k events ≡ Some c → over k c ≡ None
    → may_decide c ≡ true → Decides k c

-- the first of the events of an armed run lead to as many Steps as its Request waits for, where
-- neither an end nor the limit is reached
pub record ComesToRequest (k : Settings) (events : List Event) : Type 0 where
  pub armed : Armed
  pub arms : k.armed ≡ Some armed
  pub front : List Event
  pub rest : List Event
  pub parts : events ≡ front ++ rest
  pub core : Core
  pub comes : run k front ≡ Some core
  pub steps : core.steps ≡ armed.at
  pub going : core.ended ≡ None
  pub below : core.steps ≢ k.limit

-- a run that is over has a Request exactly where it comes to its moment
abbrev pub RequestsComeInTime : Type 0
RequestsComeInTime =
    (k : Settings) (events : List Event) (c : Core) (x : End) → run k events ≡ Some c
    → over k c ≡ Some x → (has is_request events ≡ true) ↔ ComesToRequest k events

-- whether an event may come while an update is asked for: a Step, a Park or an outcome
abbrev pub is_of_gate : EventKind → Bool
is_of_gate (e.Step t) = true
is_of_gate (e.Park t) = true
is_of_gate e.Update = true
is_of_gate (e.Refuse r) = true
is_of_gate _ = false

-- while an update is asked for and the run isn't over, a Step, a Park or an outcome may come
abbrev pub TheGateIsNeverStuck : Type 0
TheGateIsNeverStuck =
    (k : Settings) (events : List Event) (c : Core) → run k events ≡ Some c → c.phase ≡ phase.Asked
    → over k c ≡ None → (kind : EventKind) × (is_of_gate kind ≡ true) × IsLegal k c kind

-- the Steps alone are a run with no patch, to the same program, state, count of Steps and end; and
-- where the run is over, so is this one, by the same end
pub record RunsWithoutPatch (k : Settings) (events : List Event) (c : Core) : Type 0 where
  pub comes : run (unarmed k) (steps_of events) ≡ Some (quiet c)
  pub ends : (x : End) → over k c ≡ Some x → over (unarmed k) (quiet c) ≡ Some x

-- where no Update is made, the run is that of the program without a patch
abbrev pub ARefusedUpdateChangesNothing : Type 0
ARefusedUpdateChangesNothing =
    (k : Settings) (events : List Event) (c : Core) → run k events ≡ Some c
    → has is_update events ≡ false → RunsWithoutPatch k events c

-- for each picker, and whether or not memory is short, there is a list of events that is planned
abbrev pub EachPlanHasAList : Type 0
EachPlanHasAList =
    (k : Settings) (short : Bool) (g : Picker) → (events : List Event) × IsPlanned k short g events
