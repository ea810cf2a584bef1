-- What holds of every state of a run.
use Rattle.std.specs.Prelude.{◌≡◌, ◌≢◌, ℕ, List, Some, None, IfSome, Ok}
use Rattle.c_tree.specs.declared.lifted.Lifted.{Lifted}
use Rattle.c_tree.specs.declared.state.State.{State}
use Rattle.c_tree.specs.declared.run.Phase.TheVariants as phase
use Rattle.c_tree.specs.declared.run.Settings.{Settings}
use Rattle.c_tree.specs.declared.event.Event.{Event}
use Rattle.c_tree.specs.declared.mapping.Patch.{Patch}
use Rattle.c_tree.specs.Start.{start}
use Rattle.c_tree.specs.Step.{Done, step}
use Rattle.c_tree.specs.Run.{Core, run}
use Rattle.c_tree.specs.Formed.{IsFormed}
use Rattle.c_tree.specs.Valid.{Valid}
use Rattle.c_tree.specs.Sound.{Sound}
use Rattle.c_tree.specs.Update.{update}

-- the first state is valid
abbrev pub StartIsValid : Type 0
StartIsValid = (p : Lifted) (input : List ℕ) → IsFormed p → Valid p (start p input)

-- a step leads from a valid state to a valid one
abbrev pub StepsStayValid : Type 0
StepsStayValid = (p : Lifted) (t : ℕ) (s next : State) → IsFormed p → Valid p s → step p t s ≡ Done next → Valid p next

-- and so each state of a run without an update is valid; after a trap or the program's end it is the state before that step
abbrev pub RunsStayValid : Type 0
RunsStayValid = (k : Settings) (events : List Event) (c : Core) → IsFormed k.program → k.armed ≡ None → run k events ≡ Some c → (c.program ≡ k.program) × Valid k.program c.state

-- where an update is armed, each state before it
abbrev pub RunsStayValidUntilUpdate : Type 0
RunsStayValidUntilUpdate =
    (k : Settings) (events : List Event) (c : Core) → IsFormed k.program → run k events ≡ Some c → c.phase ≢ phase.Updated → (c.program ≡ k.program) × Valid k.program c.state

-- an update by a sound patch leads from a valid state of the old program to a valid one of the new
abbrev pub UpdatesStayValid : Type 0
UpdatesStayValid =
    (patch : Patch) (s next : State) → IsFormed patch.old → IsFormed patch.new → Sound patch.old patch.new patch.entries → Valid patch.old s → update patch s ≡ Ok next → Valid patch.new next

-- a patch is sound, of this old program, and leads to a formed one
pub record IsArmedBy (p : Lifted) (patch : Patch) : Type 0 where
  pub old : patch.old ≡ p
  pub new : IsFormed patch.new
  pub sound : Sound patch.old patch.new patch.entries

-- the armed patch, where there is one, is sound, of this old program and leads to a formed one
abbrev pub IsWellArmed : Settings → Type 0
IsWellArmed k = IfSome k.armed (λ a. IsArmedBy k.program a.patch)

-- and so each state of a run is valid for the program that runs then, through an update too
abbrev pub WholeRunsStayValid : Type 0
WholeRunsStayValid = (k : Settings) (events : List Event) (c : Core) → IsFormed k.program → IsWellArmed k → run k events ≡ Some c → IsFormed c.program × Valid c.program c.state
