-- How far the update of a run has come.
use Rattle.std.specs.Prelude.{Option, Some, None}
use Rattle.c_tree.specs.declared.run.Armed.{Armed}
use Rattle.c_tree.specs.declared.run.Phase.{Phase}
use Rattle.c_tree.specs.declared.run.Phase.TheVariants as phase
use Rattle.world_core.specs.History.{History, core}
use Rattle.world_core.specs.declared.outcome.Outcome.{Outcome}
use Rattle.world_core.specs.declared.outcome.Outcome.TheVariants as o

-- by the armed update and the phase
abbrev pub outcome_in : Option Armed → Phase → Outcome
outcome_in None phase = o.NoPatch
outcome_in (Some a) phase.Before = o.NotAsked
outcome_in (Some a) phase.Asked = o.Asked
outcome_in (Some a) phase.Updated = o.Done
outcome_in (Some a) (phase.Refused r) = o.Refused r

-- how far the update has come
abbrev pub outcome : History → Outcome
outcome h = outcome_in h.settings.armed (core h).phase
