-- The room that frames and activations take in a stack.
use Rattle.std.specs.Prelude.{◌≡◌, ◌≤◌, ℕ, ◌+◌, ℤ, ⊤, List, [], ◌∷◌, length}
use Rattle.c_tree.specs.declared.state.Frame.{Frame}
use Rattle.c_tree.specs.Limits.{max_slots}
use Rattle.target_code.specs.declared.activation.Activation.{Activation}
use Rattle.target_code.specs.declared.activation.Mode.{Mode}
use Rattle.target_code.specs.declared.activation.Mode.TheVariants.{Saved}
use Rattle.target_code.specs.Stack.{words, words_of}
use Rattle.target_code.specs.Target.{top_of, below_of}

-- how many words activations take
abbrev pub words_of_all : List Activation → ℕ
words_of_all [] = 0
words_of_all (a ∷ rest) = words_of a + words_of_all rest

-- activations have few enough slots that a stack takes them
abbrev pub HaveFewSlots : List Activation → Type 0
HaveFewSlots [] = ⊤
HaveFewSlots (a ∷ rest) = (length a.slots ≤ max_slots) × HaveFewSlots rest

-- how many words the activations of frames take
abbrev pub room_of : List Frame → ℕ
room_of [] = 0
room_of (f ∷ rest) = words (length f.slots) + room_of rest

-- a stack is empty, and has room for frames
abbrev pub CanHold : List Frame → List Activation → ℕ → Type 0
CanHold saved activations spare = (activations ≡ []) × (room_of saved ≤ spare)

-- a thread whose frames are saved can rebuild them in its stack without memory
abbrev pub KeepsRoom : Mode → List Frame → List Activation → ℕ → Type 0
KeepsRoom Saved saved activations spare = CanHold saved activations spare
KeepsRoom _ saved activations spare = ⊤

-- the activations, of which the innermost has these slots
abbrev pub with_slots : List ℤ → List Activation → List Activation
with_slots slots frames = record (top_of frames) { slots = slots } ∷ below_of frames
