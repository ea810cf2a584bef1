-- When a run is ready for its next event.
use Rattle.std.specs.Prelude.{◌≡◌, ◌≤◌, ◌<◌, ◌^◌, true, is_some, map, length, Option, Some, None}
use Rattle.c_tree.specs.declared.lifted.Lifted.{Lifted}
use Rattle.c_tree.specs.declared.place.Places.{Places}
use Rattle.c_tree.specs.declared.run.Armed.{Armed}
use Rattle.c_tree.specs.declared.run.Settings.{Settings}
use Rattle.c_tree.specs.Layout.{places}
use Rattle.c_tree.specs.Run.{Core, is_asked}
use Rattle.c_tree.specs.Sound.{Sound}
use Rattle.c_places.specs.Limit.{KeepsLimit}

-- an armed patch is sound, leads from this program, and its programs keep the limit of places
pub record Fits (p : Lifted) (a : Armed) : Type 0 where
  pub same : a.patch.old ≡ p
  pub sound : Sound a.patch.old a.patch.new a.patch.entries
  pub placed : KeepsLimit a.patch.new
  pub old_placed : KeepsLimit a.patch.old

-- there is no patch, or one that fits
abbrev pub IsFit : Lifted → Option Armed → Type 0
IsFit p None = Unit {0}
IsFit p (Some a) = Fits p a

-- the places are those of the program that runs, the numbers are in range, and the patch fits
pub record IsReady (k : Settings) (ps : Places) (c : Core) : Type 0 where
  pub placed : ps.functions ≡ map places c.program.functions
  pub few : length c.state.threads ≤ 1000
  pub within : c.steps ≤ k.limit
  pub limit : k.limit < 2 ^ 32
  pub fits : IsFit k.program k.armed
  pub armed : is_asked c.phase ≡ true → is_some k.armed ≡ true
