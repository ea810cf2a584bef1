-- What runs of small programs come to on the target machine: short words for them.
use Rattle.std.specs.Prelude.{◌≡◌, ℕ, Bool, true, false, List, [], Option, Some, None}
use Rattle.std.specs.Option.{option_map}
use Rattle.c_tree.specs.declared.event.Event.{Event}
use Rattle.c_tree.specs.declared.event.TraceMark.{TraceMark}
use Rattle.c_tree.specs.declared.lifted.Lifted.{Lifted}
use Rattle.c_tree.specs.declared.mapping.LEntry.{LEntry}
use Rattle.c_tree.specs.declared.run.End.{End}
use Rattle.c_tree.specs.declared.run.Picker.TheVariants.{Round}
use Rattle.c_tree.specs.declared.run.Settings.{Settings}
use Rattle.c_tree.specs.Plan.{progress}
use Rattle.c_tree.specs.Run.{over, run}
use Rattle.target_code.specs.TargetRun.{state_of, target_run}

-- the settings of a run without a patch
abbrev pub alone : Lifted → Settings
alone p = record { program = p; armed = None; input = []; limit = 1000 }

-- the settings of a run with a patch that is asked for after so many Steps
abbrev pub armed : Lifted → Lifted → List LEntry → ℕ → Settings
armed old new entries at = record {
  program = old;
  armed = Some (record { patch = record { old_text = []; old = old; new_text = []; new = new; entries = entries }; at = at });
  input = [];
  limit = 1000;
}

-- the first n events of the run in which each thread has its turn
abbrev pub events : Settings → ℕ → List Event
events k n = (progress k false (Round None) n).events

-- how the run is over after n events
abbrev pub ends : Settings → ℕ → Option End
ends k n = over k (progress k false (Round None) n).core

-- what the target machine tells of a run: how many instructions it ran, the trace, and the output
pub record Told : Type 0 where
  pub count : ℕ
  pub trace : List TraceMark
  pub output : List ℕ

-- what the target machine tells of these events
abbrev pub told : Settings → List Event → Option Told
told k es = option_map (λ c. record { count = c.count; trace = c.trace; output = c.memory.state.output }) (target_run 60 k es)

-- what it is to tell
abbrev pub tells : ℕ → List TraceMark → List ℕ → Option Told
tells count trace output = Some (record { count = count; trace = trace; output = output })

-- a frame of the old program is saved
abbrev pub saved : ℕ → ℕ → ℕ → TraceMark
saved t f n = record { save = true; thread = t; new = false; function = f; place = n }

-- a frame is loaded, of the new program or of the old one
abbrev pub loaded : Bool → ℕ → ℕ → ℕ → TraceMark
loaded new t f n = record { save = false; thread = t; new = new; function = f; place = n }

-- the target stands for the state of the run
abbrev pub StandsForTheState : Settings → List Event → Type 0
StandsForTheState k es = option_map (λ c. state_of c) (target_run 60 k es) ≡ option_map (λ c. c.state) (run k es)
