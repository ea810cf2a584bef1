-- What holds of every run of an accepted source.
use Rattle.std.specs.Prelude.{◌≡◌, ℕ, List, Some}
use Rattle.c_tree.specs.declared.event.Event.{Event}
use Rattle.c_tree.specs.declared.lifted.Lifted.{Lifted}
use Rattle.c_tree.specs.declared.mapping.Patch.{Patch}
use Rattle.c_tree.specs.declared.run.Settings.{Settings}
use Rattle.c_tree.specs.Run.{Core, run}
use Rattle.c_tree.specs.Valid.{Valid}
use Rattle.c_source.specs.Source.{IsAccepted}
use Rattle.patch_file.specs.Whole.{IsWhole}
use Rattle.state_laws.specs.Laws.{IsArmedBy, IsWellArmed}

-- Each state that a run of an accepted source comes to is valid for the program that runs then, where the patch that is armed, if
-- any, is one of this program to a formed one, and sound. So it holds of the runs of patches that are read and of those that are made.
abbrev pub AcceptedRunsStayValid : Type 0
AcceptedRunsStayValid =
    (source : List ℕ) (k : Settings) (events : List Event) (c : Core) → IsAccepted source k.program → IsWellArmed k → run k events ≡ Some c → Valid c.program c.state

-- A whole patch that was made from this source arms the source's program well.
abbrev pub WholePatchesArmWell : Type 0
WholePatchesArmWell = (source : List ℕ) (p : Lifted) (patch : Patch) → IsAccepted source p → IsWhole patch → source ≡ patch.old_text → IsArmedBy p patch
