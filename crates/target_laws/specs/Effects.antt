-- The code around the effects of a step: behind them nothing can fail; and what the code names is
-- there.
use Rattle.std.specs.Prelude.{◌≡◌, ◌⊎◌, ◌<◌, ◌≤◌, ℕ, zero, suc, ◌+◌, ⊤, List, length, slice_get, Option, Some}
use Rattle.c_tree.specs.declared.lifted.Lifted.{Lifted}
use Rattle.c_tree.specs.Formed.{IsFormed}
use Rattle.c_tree.specs.Limits.{max_slots}
use Rattle.c_tree.specs.Step.{function_of}
use Rattle.target_code.specs.declared.activation.Activation.{Activation}
use Rattle.target_code.specs.declared.instr.Instr.{Instr}
use Rattle.target_code.specs.declared.instr.Instr.TheVariants as i
use Rattle.target_code.specs.Between.{Wait, Waits, IsRunning, body_at}
use Rattle.target_code.specs.Code.{code_of}
use Rattle.target_code.specs.Machine.{function_in}
use Rattle.target_code.specs.Target.{Target, below_of}

-- an instruction that can't fail, and that may stand behind an effect
abbrev pub IsCalm : Option Instr → Type 0
IsCalm (Some i.Restore) = ⊤
IsCalm (Some (i.After n to)) = ⊤
IsCalm (Some (i.Set k)) = ⊤
IsCalm (Some (i.Gset g)) = ⊤
IsCalm _ = ⊥

-- an instruction before which a turn stops
abbrev pub IsMark : Option Instr → Type 0
IsMark (Some (i.Mark n)) = ⊤
IsMark _ = ⊥

-- k such instructions and jumps lead from a position to a mark
abbrev pub Arrives : List Instr → ℕ → ℕ → Type 0
Arrives body zero at = IsMark (slice_get body at)
Arrives body (suc k) at =
    (IsCalm (slice_get body at) × Arrives body k (at + 1))
    ⊎ ((to : ℕ) × (slice_get body at ≡ Some (i.Jump to)) × Arrives body k to)

-- from a position such instructions and jumps lead to a mark
abbrev pub IsArriving : List Instr → ℕ → Type 0
IsArriving body at = (k : ℕ) × Arrives body k at

-- an instruction that changes a slot or what the threads share, but for a `spawn`
abbrev pub HasEffect : Instr → Type 0
HasEffect (i.After n to) = ⊤
HasEffect (i.Set k) = ⊤
HasEffect (i.Gset g) = ⊤
HasEffect (i.Aset g) = ⊤
HasEffect (i.Fset owner field) = ⊤
HasEffect (i.New owner) = ⊤
HasEffect i.Getc = ⊤
HasEffect i.Free = ⊤
HasEffect (i.Print k) = ⊤
HasEffect (i.Lock k) = ⊤
HasEffect (i.Unlock k) = ⊤
HasEffect i.Join = ⊤
HasEffect _ = ⊥

-- an instruction that stores a value
abbrev pub IsStore : Option Instr → Type 0
IsStore (Some (i.Set k)) = ⊤
IsStore (Some (i.Gset g)) = ⊤
IsStore (Some (i.Aset g)) = ⊤
IsStore (Some (i.Fset owner field)) = ⊤
IsStore _ = ⊥

-- behind an effect nothing can fail up to the mark
abbrev pub EffectsArrive : Type 0
EffectsArrive =
    (p : Lifted) (f at : ℕ) (x : Instr) → IsFormed p
    → slice_get (body_at p f) at ≡ Some x → HasEffect x → IsArriving (body_at p f) (at + 1)

-- behind a `spawn` stands a store, behind which nothing can fail up to the mark
abbrev pub SpawnsStore : Type 0
SpawnsStore =
    (p : Lifted) (f at g : ℕ) → IsFormed p
    → slice_get (body_at p f) at ≡ Some (i.Spawn g)
    → IsStore (slice_get (body_at p f) (at + 1)) × IsArriving (body_at p f) (at + 1 + 1)

-- a function that is there begins with a `restore` and the mark of its entry
abbrev pub FunctionsBegin : Type 0
FunctionsBegin =
    (p : Lifted) (f : ℕ) → f < length p.functions
    → (slice_get (body_at p f) 0 ≡ Some i.Restore) × (slice_get (body_at p f) 1 ≡ Some (i.Mark 0))

-- so from its begin nothing can fail up to that mark
abbrev pub FunctionsArrive : Type 0
FunctionsArrive = (p : Lifted) (f : ℕ) → f < length p.functions → IsArriving (body_at p f) 0

-- from where a caller goes on nothing can fail up to the mark
abbrev pub CallersArrive : Type 0
CallersArrive = (p : Lifted) (x : Wait) → Waits p x → IsArriving (body_at p x.frame.function) x.pc

-- so it is with each activation but the innermost one of a thread that runs
abbrev pub ReturnsArrive : Type 0
ReturnsArrive =
    (p : Lifted) (x : Target) (n : ℕ) (a : Activation) → IsRunning p x
    → slice_get (below_of x.activations) n ≡ Some a → IsArriving (body_at p a.function) a.pc

-- what an instruction of a function with so many slots names lies inside
abbrev pub LiesInside : Lifted → ℕ → Instr → Type 0
LiesInside p n (i.Get k) = k < n
LiesInside p n (i.Set k) = k < n
LiesInside p n (i.After place (Some k)) = k < n
LiesInside p n (i.Call g) = g < length p.functions
LiesInside p n (i.Spawn g) = g < length p.functions
LiesInside p n _ = ⊤

-- the slots and functions that the code of a formed program names are there
abbrev pub SlotsLieInside : Type 0
SlotsLieInside =
    (p : Lifted) (f at : ℕ) (x : Instr) → IsFormed p
    → slice_get (body_at p f) at ≡ Some x → LiesInside p (length (function_of p f).slots) x

-- the code has as many functions as the program, each with the parameters and slots of its own
abbrev pub FunctionsAreCoded : Type 0
FunctionsAreCoded =
    (p : Lifted)
    → (length (code_of p).functions ≡ length p.functions)
    × ((f : ℕ) → f < length p.functions
    → ((function_in (code_of p) f).params ≡ (function_of p f).params)
    × ((function_in (code_of p) f).slots ≡ length (function_of p f).slots))

-- a function's parameters are its first slots, of which there are few
abbrev pub ParametersFit : Type 0
ParametersFit =
    (p : Lifted) (f : ℕ) → IsFormed p → f < length p.functions
    → ((function_of p f).params ≤ length (function_of p f).slots)
    × (length (function_of p f).slots ≤ max_slots)
