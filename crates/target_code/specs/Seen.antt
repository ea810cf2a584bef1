-- The frames that a thread of the target machine stands for.
use Rattle.std.specs.Prelude.{ℕ, nat_le, Bool, true, false, not, if◌then◌else◌, List, [], ◌∷◌, ◌++◌, map, filter, reverse, slice_get, Option, Some}
use Rattle.c_tree.specs.declared.state.Frame.{Frame}
use Rattle.target_code.specs.declared.activation.Activation.{Activation}
use Rattle.target_code.specs.declared.activation.Mode.{Mode}
use Rattle.target_code.specs.declared.activation.Mode.TheVariants.{Running, Unwinding, Saved, Rebuilding}
use Rattle.target_code.specs.declared.code.CallSpot.{CallSpot}
use Rattle.target_code.specs.declared.code.CodeFunction.{CodeFunction}
use Rattle.target_code.specs.declared.instr.Instr.{Instr}
use Rattle.target_code.specs.declared.instr.Instr.TheVariants as i
use Rattle.target_code.specs.Code.{TargetCode}
use Rattle.target_code.specs.Machine.{function_in}
use Rattle.target_code.specs.Target.{Target}

-- the place whose `after` an instruction is
abbrev pub place_after : Option Instr → ℕ
place_after (Some (i.After n to)) = n
place_after _ = 0

-- the call's place of the rebuilding part that a position is in: of the last one that doesn't
-- begin behind it
abbrev pub place_in_part : List CallSpot → ℕ → ℕ → ℕ
place_in_part [] pc n = n
place_in_part (c ∷ rest) pc n = place_in_part rest pc (if nat_le c.rebuild pc then c.place else n)

-- the place at whose `mark`, `after` or rebuilding part a position is; the `jump` of a rebuilding
-- part leads to the `after` of its place
abbrev pub place_here : CodeFunction → ℕ → Option Instr → ℕ
place_here c pc (Some (i.Mark n)) = n
place_here c pc (Some (i.After n to)) = n
place_here c pc (Some (i.Jump to)) = place_after (slice_get c.body to)
place_here c pc _ = place_in_part c.calls pc 0

-- the frame that an activation stands for
abbrev pub seen_frame : TargetCode → Activation → Frame
seen_frame code a =
    let c = function_in code a.function in
    let place = place_here c a.pc (slice_get c.body a.pc) in
    record { function = a.function; place = place; slots = a.slots }

-- the frames that activations stand for, outermost first
abbrev pub seen_frames : TargetCode → List Activation → List Frame
seen_frames code stack = reverse (map (seen_frame code) stack)

-- whether an instruction is `restore`
abbrev pub is_restore : Option Instr → Bool
is_restore (Some i.Restore) = true
is_restore _ = false

-- whether an activation is still at its `restore`, where it stands for nothing
abbrev pub is_at_restore : TargetCode → Activation → Bool
is_at_restore code a = is_restore (slice_get (function_in code a.function).body a.pc)

-- the frames that a thread of this mode stands for, outermost first, with these activations and
-- saved frames
abbrev pub seen_in : TargetCode → Mode → List Activation → List Frame → List Frame
seen_in code Running stack saved = seen_frames code stack
seen_in code Unwinding stack saved = seen_frames code stack ++ saved
seen_in code Saved stack saved = saved
seen_in code Rebuilding stack saved =
    seen_frames code (filter (λ a. not (is_at_restore code a)) stack) ++ saved

-- the frames that a thread stands for, outermost first
abbrev pub seen : TargetCode → Target → List Frame
seen code t = seen_in code t.mode t.activations t.saved
