-- An earlier part of a run as contracts see it.
use Rattle.std.specs.Prelude.{List}
use Rattle.c_tree.specs.declared.event.Event.{Event}
use Rattle.c_tree.specs.declared.run.Settings.{Settings}

-- what the part was given, and its events
pub record Part : Type 0 where
  pub settings : Settings
  pub events : List Event
