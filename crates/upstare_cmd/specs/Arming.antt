-- The patches that a program may be armed with.
use Rattle.std.specs.Prelude.{◌≡◌, ℕ, [], Option, Some, None}
use Rattle.c_places.specs.Limit.{KeepsLimit}
use Rattle.c_tree.specs.declared.lifted.Lifted.{Lifted}
use Rattle.c_tree.specs.declared.mapping.Patch.{Patch}
use Rattle.c_tree.specs.declared.run.Armed.{Armed}
use Rattle.c_tree.specs.declared.run.Settings.{Settings}
use Rattle.c_tree.specs.Sound.{Sound}
use Rattle.world_core.specs.History.{History, single}

-- A patch is one of this old program, and sound.
pub record Fits (p : Lifted) (x : Patch) : Type 0 where
  pub old : x.old ≡ p
  pub sound : Sound x.old x.new x.entries
  pub old_limit : KeepsLimit x.old
  pub new_limit : KeepsLimit x.new

-- a patch, and the Steps after which it is asked for
abbrev pub armed : Option (Patch × ℕ) → Option Armed
armed None = None
armed (Some u) = Some (record { patch = u.0; at = u.1 })

-- a run of these settings that has no event yet
abbrev pub begun_with : Settings → History
begun_with k = single k []
