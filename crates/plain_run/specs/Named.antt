-- What a refusal names in the old state.
use Rattle.std.specs.Prelude.{ℕ, zero, suc, [], slice_index_or, Option, Some, None}
use Rattle.c_tree.specs.declared.event.Reason.{Reason}
use Rattle.c_tree.specs.declared.event.Reason.TheVariants as why
use Rattle.c_tree.specs.declared.state.Frame.{Frame}
use Rattle.c_tree.specs.declared.state.Object.{Object}
use Rattle.c_tree.specs.declared.state.State.{State}
use Rattle.c_tree.specs.Step.{frames_at}

-- what stands for a frame that is not there
abbrev pub no_frame : Frame
no_frame = record { function = 0; place = 0; slots = [] }

-- the function and the place of a frame
abbrev pub place_of_frame : State → ℕ → ℕ → ℕ × ℕ
place_of_frame s t f = let x = slice_index_or (frames_at s t) f no_frame in (x.function, x.place)

-- the struct of an object; the first one where it doesn't live
abbrev pub owner_in : Option Object → ℕ
owner_in None = 0
owner_in (Some o) = o.owner

-- the struct of the object of a number, from 1
abbrev pub owner_of : State → ℕ → ℕ
owner_of s zero = 0
owner_of s (suc o) = owner_in (slice_index_or s.heap.objects o None)

-- what a refusal names in the old state: of a frame its function and its place, of an object its struct and 0; else zeroes
abbrev pub named_in : State → Reason → ℕ × ℕ
named_in s (why.Unmapped t f) = place_of_frame s t f
named_in s (why.Slot t f i c) = place_of_frame s t f
named_in s (why.Field o i c) = (owner_of s o, 0)
named_in s (why.Held m) = (0, 0)
named_in s (why.Removed o) = (0, 0)
named_in s (why.Check i c) = (0, 0)
named_in s (why.Global g c) = (0, 0)
named_in s why.Memory = (0, 0)
named_in s (why.Depth t) = (0, 0)
