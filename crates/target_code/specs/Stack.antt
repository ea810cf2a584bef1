-- Stacks of activations, beside a number of words that are to spare.
use Rattle.std.specs.Prelude.{ℕ, ◌+◌, ◌-◌, ◌*◌, ◌≤◌, ℤ, pos, List, [], ◌∷◌, length, take, drop, replicate, slice_set}
use Rattle.target_code.specs.declared.activation.Activation.{Activation}
use Rattle.target_code.specs.declared.activation.FrameInfo.{FrameInfo}
use Rattle.target_code.specs.Target.{edited}

-- the activations, innermost first, and how many words can be pushed without memory
pub record Stack : Type 0 where
  pub frames : List Activation
  pub spare : ℕ

-- how many words an activation with so many slots takes
abbrev pub words : ℕ → ℕ
words slots = slots + 4

-- how many words an activation takes
abbrev pub words_of : Activation → ℕ
words_of a = words (length a.slots)

-- an activation as it is pushed: at the start of its function, with zeros
abbrev pub blank : ℕ → ℕ → Activation
blank function slots = record { function = function; pc = 0; slots = replicate slots (pos 0) }

-- the activations, of which the innermost is at another position
abbrev pub with_pc : ℕ → List Activation → List Activation
with_pc pc frames = edited (λ a. record a { pc = pc }) frames

-- the activations, of which the innermost has another value in a slot
abbrev pub with_slot : ℕ → ℤ → List Activation → List Activation
with_slot k v frames = edited (λ a. record a { slots = slice_set a.slots k v }) frames

-- the activations of these heads, innermost first, whose slots stand behind one another, the
-- innermost one's last
abbrev pub frames_of : List FrameInfo → List ℤ → List Activation
frames_of [] slots = []
frames_of (h ∷ below) slots =
    let base = length slots - h.slots in
    record { function = h.function; pc = h.pc; slots = drop base slots }
    ∷ frames_of below (take base slots)

-- how many slots these heads have
abbrev pub slots_of : List FrameInfo → ℕ
slots_of [] = 0
slots_of (h ∷ below) = h.slots + slots_of below

-- the heads, of which the innermost is at another position
abbrev pub with_head_pc : ℕ → List FrameInfo → List FrameInfo
with_head_pc pc [] = []
with_head_pc pc (h ∷ below) = record h { pc = pc } ∷ below

-- the words that so many activations with so many slots in all take, and those that are to spare
abbrev pub taken : ℕ → ℕ → ℕ → ℕ
taken spare heads slots = spare + (4 * heads + slots)

-- there is room for all of these words as heads and as slots, and they are few enough that
-- activations are counted in 32 bits
pub record HasRoom (all heads_room slots_room : ℕ) : Type 0 where
  pub heads : all ≤ 4 * heads_room
  pub slots : all ≤ slots_room
  pub few : all ≤ 17179869180
