-- A listing, event by event.
use Rattle.std.specs.Prelude.{◌≡◌, ℕ, ◌+◌, ◌-◌, Bool, true, false, take, drop, List, [], Option, Some, None}
use Rattle.c_tree.specs.declared.event.Event.{Event}
use Rattle.c_tree.specs.declared.event.EventKind.{EventKind}
use Rattle.c_tree.specs.declared.run.Settings.{Settings}
use Rattle.c_tree.specs.Plan.{next_listed, refused_at}
use Rattle.c_tree.specs.Run.{first}
use Rattle.world_core.specs.History.{History, core, over, with_event}
use Rattle.drive.specs.declared.list.Driven.{Driven}
use Rattle.drive.specs.declared.list.Driven.TheVariants.{Ended, ListRefused}

-- the number of an answer's refusal
abbrev pub refusal : Driven → Option ℕ
refusal (Ended end) = None
refusal (ListRefused n) = Some n

-- where the listing was taken, it is clean, and the World holds it and is over; where it is refused at an event, the World
-- holds the events before that
abbrev pub EndsAs : Driven → Bool → History → List Event → Type 0
EndsAs (Ended end) clean h es = (over h ≡ Some end) × (h.events ≡ es) × (clean ≡ true)
EndsAs (ListRefused n) clean h es = h.events ≡ take (n - 1) es

-- an event was taken, or else it may not come and nothing changed
abbrev pub Taken : Bool → History → History → ℕ → EventKind → Type 0
Taken true old new worker kind =
    (next_listed old.settings (core old) kind ≡ Some (core new)) × (new ≡ with_event old worker kind)
Taken false old new worker kind = (next_listed old.settings (core old) kind ≡ None) × (new ≡ old)

-- the first n events of a listing were taken
pub record OnList (k : Settings) (clean : Bool) (es : List Event) (n : ℕ) (h : History) : Type 0 where
  pub same : h.settings ≡ k
  pub single : h.earlier ≡ []
  pub events : h.events ≡ take n es
  pub rest : refused_at k clean 1 (first k) es ≡ refused_at k clean (n + 1) (core h) (drop n es)
