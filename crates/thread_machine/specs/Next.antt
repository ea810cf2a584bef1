-- What a thread does next, by the instructions behind its mark.
use Rattle.std.specs.Prelude.{ℕ, ◌+◌, slice_get, slice_index_or, Option, Some}
use Rattle.c_tree.specs.declared.state.Frame.{Frame}
use Rattle.target_code.specs.declared.activation.Activation.{Activation}
use Rattle.target_code.specs.declared.instr.Instr.{Instr}
use Rattle.target_code.specs.declared.instr.Instr.TheVariants as i
use Rattle.target_code.specs.Code.{TargetCode}
use Rattle.target_code.specs.Machine.{function_in}
use Rattle.thread_machine.specs.declared.next.Next.{Next}
use Rattle.thread_machine.specs.declared.next.Next.TheVariants.{Runs, Stands, Locks, Joins}

-- at an update place, by the instruction behind its flag: a lock, or the next place's mark or a
-- jump to it; any other one begins the number of a thread that is joined
abbrev pub behind_flag : Option Instr → Next
behind_flag (Some (i.Lock m)) = Locks m
behind_flag (Some (i.Mark n)) = Stands
behind_flag (Some (i.Jump to)) = Stands
behind_flag _ = Joins

-- by the two instructions behind the mark
abbrev pub next_by : Option Instr → Option Instr → Next
next_by (Some (i.Flag n)) behind = behind_flag behind
next_by _ behind = Runs

-- what a thread does next whose innermost activation is at a mark of a function
abbrev pub next_at : TargetCode → ℕ → ℕ → Next
next_at code f pc =
    let body = (function_in code f).body in
    next_by (slice_get body (pc + 1)) (slice_get body (pc + 2))

-- what a thread does next with this innermost activation
abbrev pub next_of : TargetCode → Activation → Next
next_of code a = next_at code a.function a.pc

-- what a thread does next whose innermost saved frame this is, once it is rebuilt at its mark
abbrev pub next_of_saved : TargetCode → Frame → Next
next_of_saved code f =
    next_at code f.function (slice_index_or (function_in code f.function).marks f.place 0)
