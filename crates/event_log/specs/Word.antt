-- Words: what stands for an event in the log.
use Rattle.std.specs.Prelude.{◌≡◌, ℕ, ◌-◌, ◌/◌, ◌%◌, ◌<◌, ◌^◌, ltb, if◌then◌else◌, List, get_or}
use Rattle.c_tree.specs.declared.event.Event.{Event}
use Rattle.c_tree.specs.declared.event.EventKind.TheVariants as e

-- a worker's Step of a thread
abbrev pub step_of : ℕ → ℕ → Event
step_of worker thread = record { worker = worker; kind = e.Step thread }

-- a word below 2 ^ 31 is a Step, of the worker word / 2 ^ 19 and the thread word % 2 ^ 19; from there on it names one of the
-- events aside
abbrev pub event_of : List Event → ℕ → Event
event_of aside word =
    if ltb word 2147483648
    then step_of (word / 524288) (word % 524288)
    else get_or aside (word - 2147483648) (step_of 0 0)

-- the word is that event, whatever stands aside
pub record IsWordOf (word : ℕ) (event : Event) : Type 0 where
  pub below : word < 2 ^ 31
  pub value : step_of (word / 524288) (word % 524288) ≡ event
