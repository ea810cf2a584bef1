-- The text of a history: one line for each event.
use Rattle.std.specs.Prelude.{ℕ, ◌<◌, ◌^◌, List, [], ◌∷◌, ◌++◌, codes, All}
use Rattle.std.specs.Fmt.{decimal}
use Rattle.std.specs.List.{flat_map}
use Rattle.c_tree.specs.declared.event.Event.{Event}
use Rattle.c_tree.specs.declared.event.EventKind.{EventKind}
use Rattle.c_tree.specs.declared.event.EventKind.TheVariants as k
use Rattle.c_tree.specs.declared.event.Reason.{Reason}
use Rattle.c_tree.specs.declared.event.Reason.TheVariants as r

-- the word of a kind of event
abbrev pub word : EventKind → List ℕ
word (k.Step thread) = codes "step"
word k.Request = codes "request"
word (k.Park thread) = codes "park"
word k.Update = codes "update"
word (k.Refuse reason) = codes "refuse"
word (k.Resume thread) = codes "resume"

-- the code of a reason, and its numbers
abbrev pub reason_numbers : Reason → List ℕ
reason_numbers (r.Unmapped thread frame) = 1 ∷ thread ∷ frame ∷ []
reason_numbers (r.Held mutex) = 2 ∷ mutex ∷ []
reason_numbers (r.Removed object) = 3 ∷ object ∷ []
reason_numbers (r.Check check code) = 4 ∷ check ∷ code ∷ []
reason_numbers (r.Global global code) = 5 ∷ global ∷ code ∷ []
reason_numbers (r.Field object field code) = 6 ∷ object ∷ field ∷ code ∷ []
reason_numbers (r.Slot thread frame slot code) = 7 ∷ thread ∷ frame ∷ slot ∷ code ∷ []
reason_numbers r.Memory = 8 ∷ []
reason_numbers (r.Depth thread) = 9 ∷ thread ∷ []

-- the numbers that follow the word
abbrev pub numbers : EventKind → List ℕ
numbers (k.Step thread) = thread ∷ []
numbers k.Request = []
numbers (k.Park thread) = thread ∷ []
numbers k.Update = []
numbers (k.Refuse reason) = reason_numbers reason
numbers (k.Resume thread) = thread ∷ []

-- a space and a number
abbrev pub spaced : ℕ → List ℕ
spaced n = 32 ∷ decimal n

-- what follows the worker and its space: the word, the numbers, a newline
unfoldable pub kind_text : EventKind → List ℕ
kind_text kind = word kind ++ flat_map spaced (numbers kind) ++ 10 ∷ []

-- the line of an event: the worker, a space, the word, the numbers, a newline
unfoldable pub line : Event → List ℕ
line event = decimal event.worker ++ 32 ∷ kind_text event.kind

-- the text of events, in their order
abbrev pub history : List Event → List ℕ
history events = flat_map line events

-- a number of a line is below 2 ^ 32
abbrev pub IsShort : ℕ → Type 0
IsShort n = n < 2 ^ 32

-- all numbers of a kind are below 2 ^ 32
abbrev pub IsKind : EventKind → Type 0
IsKind kind = All IsShort (numbers kind)

-- all numbers of an event are below 2 ^ 32
abbrev pub IsEvent : Event → Type 0
IsEvent event = IsShort event.worker × IsKind event.kind
