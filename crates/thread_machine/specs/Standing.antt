-- Where the activations of a thread stand between two turns, and what saving them costs.
use Rattle.std.specs.Prelude.{◌≡◌, ℕ, ◌+◌, List, [], ◌∷◌, slice_get, Option, Some}
use Rattle.c_tree.specs.declared.state.Frame.{Frame}
use Rattle.target_code.specs.declared.activation.Activation.{Activation}
use Rattle.target_code.specs.declared.instr.Instr.{Instr}
use Rattle.target_code.specs.declared.instr.Instr.TheVariants as i
use Rattle.target_code.specs.Code.{TargetCode}
use Rattle.target_code.specs.Machine.{function_in}
use Rattle.target_code.specs.Seen.{place_after}
use Rattle.target_code.specs.Target.{Target, top_of}

-- the place at whose `mark` or `after` an instruction is, or to whose `after` it jumps
abbrev pub place_by : List Instr → Option Instr → ℕ
place_by body (Some (i.Mark n)) = n
place_by body (Some (i.After n to)) = n
place_by body (Some (i.Jump to)) = place_after (slice_get body to)
place_by body _ = 0

-- how many instructions it takes to save a frame that stands at an instruction: its `after`;
-- or the `jump` and the `after`; or the `mark` and the `flag`
abbrev pub cost_by : Option Instr → ℕ
cost_by (Some (i.After n to)) = 1
cost_by _ = 2

-- the instruction at which an activation is
abbrev pub instr_of : TargetCode → Activation → Option Instr
instr_of code a = slice_get (function_in code a.function).body a.pc

-- the frame as which an activation is saved
abbrev pub saved_frame : TargetCode → Activation → Frame
saved_frame code a =
    let place = place_by (function_in code a.function).body (instr_of code a) in
    record { function = a.function; place = place; slots = a.slots }

-- the frames as which activations are saved
abbrev pub saved_frames : TargetCode → List Activation → List Frame
saved_frames code [] = []
saved_frames code (a ∷ rest) = saved_frame code a ∷ saved_frames code rest

-- how many instructions it takes to save activations
abbrev pub saving_cost : TargetCode → List Activation → ℕ
saving_cost code [] = 0
saving_cost code (a ∷ rest) = cost_by (instr_of code a) + saving_cost code rest

-- a thread's innermost activation is at the mark of an update place
abbrev pub IsAtUpdate : TargetCode → Target → Type 0
IsAtUpdate code x =
    let a = top_of x.activations in
    let body = (function_in code a.function).body in
    (n : ℕ)
    × (slice_get body a.pc ≡ Some (i.Mark n))
    × (slice_get body (a.pc + 1) ≡ Some (i.Flag n))
