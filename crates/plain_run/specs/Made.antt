-- What it means that an event is made.
use Rattle.std.specs.Prelude.{◌≡◌, Bool, true, false, not, ◌&&◌, is_some, Some, None}
use Rattle.c_tree.specs.declared.event.EventKind.{EventKind}
use Rattle.c_tree.specs.declared.place.Places.{Places}
use Rattle.c_tree.specs.declared.run.Settings.{Settings}
use Rattle.c_tree.specs.Run as r
use Rattle.plain_run.specs.CoreAt.{core_now}
use Rattle.plain_run.specs.Ready.{IsReady}
use Rattle.plain_run.specs.declared.now.Now.{Now}

-- a test that holds while the run is on
abbrev pub on : Settings → r.Core → Bool → Bool
on k c b = not (is_some (r.over k c)) && b

-- an event is made: it was legal, and the run stands where it leads, ready for the next one
pub record Makes (k : Settings) (kind : EventKind) (before : Now) (ps : Places) (after : Now) : Type 0 where
  pub next : r.next k (core_now k before) kind ≡ Some (core_now k after)
  pub ready : IsReady k ps (core_now k after)

-- all stays
pub record Keeps (k : Settings) (old : Places) (before : Now) (ps : Places) (after : Now) : Type 0 where
  pub places : ps ≡ old
  pub core : core_now k after ≡ core_now k before

-- an event is made where it is legal, and else all stays
abbrev pub MakesIf : Bool → Settings → EventKind → Places → Now → Places → Now → Type 0
MakesIf true k kind old before ps after = Makes k kind before ps after
MakesIf false k kind old before ps after = (r.next k (core_now k before) kind ≡ None) × Keeps k old before ps after

-- for all settings and places for which the run was ready and the event may come, it is made
abbrev pub Serves : (Settings → r.Core → Bool) → EventKind → Now → Now → Type 0
Serves may kind before after =
    (k : Settings) (ps : Places) → IsReady k ps (core_now k before) → on k (core_now k before) (may k (core_now k before)) ≡ true → Makes k kind before ps after
