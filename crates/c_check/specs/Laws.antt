-- What is said of first faults and of refusals.
use Rattle.std.specs.Prelude.{◌≡◌, ◌↔◌, ℕ, List, [], All, Contains, Some}
use Rattle.c_tree.specs.declared.cause.CheckCause.{CheckCause}
use Rattle.c_tree.specs.declared.scope.Fault.{Fault}
use Rattle.c_tree.specs.declared.program.Program.{Program}
use Rattle.c_tree.specs.Fault.{IsNotBefore, first}
use Rattle.c_tree.specs.Typing.{IsWellTyped, program_faults}
use Rattle.c_check.specs.declared.refusal.CheckRefused.TheVariants as refused
use Rattle.c_check.specs.Refusal.{IsRefusal}

-- the first of some faults is one of them, and none of them comes before it
abbrev pub FirstIsLeast : Type 0
FirstIsLeast = (faults : List Fault) (f : Fault) → first faults ≡ Some f → Contains faults f × All (λ g. IsNotBefore g f) faults

-- a program is well typed exactly where it has no fault
abbrev pub WellTypedHasNoFault : Type 0
WellTypedHasNoFault = (p : Program) → IsWellTyped p ↔ (program_faults p ≡ [])

-- no well-typed program can be refused at an offset
abbrev pub RefusedIsNotWellTyped : Type 0
RefusedIsNotWellTyped = (p : Program) (at : ℕ) (cause : CheckCause) → IsRefusal p (refused.At at cause) → ¬ IsWellTyped p

-- at this offset, with this cause, stands one of some faults, and none of them comes before it
abbrev pub IsFirstAt : List Fault → ℕ → CheckCause → Type 0
IsFirstAt faults at cause = (f : Fault) × (f.at ≡ at) × (f.cause ≡ cause) × Contains faults f × All (λ g. IsNotBefore g f) faults

-- a program is refused at the first of its faults
abbrev pub RefusedAtTheFirst : Type 0
RefusedAtTheFirst = (p : Program) (at : ℕ) (cause : CheckCause) → IsRefusal p (refused.At at cause) → IsFirstAt (program_faults p) at cause
