-- What every lifting of a well-typed program that was read keeps, item by item.
use Rattle.std.specs.Prelude.{◌≡◌, None}
use Rattle.c_tree.specs.declared.program.Program.{Program}
use Rattle.c_tree.specs.Typing.{IsWellTyped}
use Rattle.c_tree.specs.Lifting.{lift, lift_limit}
use Rattle.c_tree.specs.Formed.{IsWithinLimits, HasDifferentNames, ParametersComeFirst, HasMain, PointersStartNull, ArraysStartAtZero, LoopsAreKept, HasFittingPrints, HasDifferentSlots, HasSorts, IsFormed}
use Rattle.c_tree.specs.ReadForm.{HasReadForm}

-- where no function passes a limit, all counts keep theirs
abbrev pub LiftsWithinLimits : Type 0
LiftsWithinLimits = (p : Program) → IsWellTyped p → lift_limit p ≡ None → IsWithinLimits (lift p)

-- no two things of one kind have the same name
abbrev pub LiftsToDifferentNames : Type 0
LiftsToDifferentNames = (p : Program) → IsWellTyped p → HasDifferentNames (lift p)

-- a function's parameters are its first slots
abbrev pub LiftsParametersFirst : Type 0
LiftsParametersFirst = (p : Program) → ParametersComeFirst (lift p)

-- there is a function `main`, which gives an `int` and takes nothing
abbrev pub LiftsToMain : Type 0
LiftsToMain = (p : Program) → IsWellTyped p → HasMain (lift p)

-- a global pointer starts as null
abbrev pub LiftsPointersToNull : Type 0
LiftsPointersToNull = (p : Program) → IsWellTyped p → PointersStartNull (lift p)

-- an array starts at 0
abbrev pub LiftsArraysToZero : Type 0
LiftsArraysToZero = (p : Program) → HasReadForm p → ArraysStartAtZero (lift p)

-- `break` and `continue` stand in the body of a loop
abbrev pub LiftsWithinLoops : Type 0
LiftsWithinLoops = (p : Program) → IsWellTyped p → HasReadForm p → LoopsAreKept (lift p)

-- each `printf` has as many arguments as its text asks for
abbrev pub LiftsToFittingPrints : Type 0
LiftsToFittingPrints = (p : Program) → IsWellTyped p → HasReadForm p → HasFittingPrints (lift p)

-- where no function passes a limit, the names of a function's slots are different
abbrev pub LiftsToDifferentSlots : Type 0
LiftsToDifferentSlots = (p : Program) → HasReadForm p → lift_limit p ≡ None → HasDifferentSlots (lift p)

-- each expression and destination has the sort that its place asks
abbrev pub LiftsToSorts : Type 0
LiftsToSorts = (p : Program) → IsWellTyped p → HasReadForm p → HasSorts (lift p)

-- where no function passes a limit, all of it holds at once
abbrev pub LiftsToFormed : Type 0
LiftsToFormed = (p : Program) → IsWellTyped p → HasReadForm p → lift_limit p ≡ None → IsFormed (lift p)
