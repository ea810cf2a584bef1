-- What holds of every plan.
use Rattle.std.specs.Prelude.{◌≡◌, Bool, List}
use Rattle.c_tree.specs.declared.event.Event.{Event}
use Rattle.c_tree.specs.declared.run.Picker.{Picker}
use Rattle.c_tree.specs.declared.run.Settings.{Settings}
use Rattle.c_tree.specs.Plan.{IsPlanned}

-- a plan makes one list of events
abbrev pub AtMostOnePlan : Type 0
AtMostOnePlan = (k : Settings) (short : Bool) (g : Picker) (es es' : List Event) → IsPlanned k short g es → IsPlanned k short g es' → es ≡ es'
