-- What the answer of an access says of the memory before and after it.
use Rattle.std.specs.Prelude.{◌≡◌, ℕ, ℤ, pos, List, length, Result, Ok, Err}
use Rattle.c_tree.specs.declared.event.ThreadMark.{ThreadMark}
use Rattle.c_tree.specs.declared.state.State.{State}
use Rattle.c_tree.specs.declared.state.Trap.{Trap}
use Rattle.store_mem.specs.declared.refusal.StoreEnd.{StoreEnd}
use Rattle.store_mem.specs.declared.refusal.StoreEnd.TheVariants as end
use Rattle.store_mem.specs.Memory.{Memory}

-- The memory has another state at most: the numbers of fields and the marks are as before.
abbrev pub DiffersInState : Memory → Memory → Type 0
DiffersInState old new = (new.fields ≡ old.fields) × (new.marks ≡ old.marks)

-- The access leaves what is defined; where it traps, all stays.
abbrev pub Leaves : {A : Type 0} → Result A Trap → Memory → Memory → Result State Trap → Type 0
Leaves (Ok _) old new to = (to ≡ Ok new.state) × DiffersInState old new
Leaves (Err cause) old new to = (to ≡ Err cause) × (new ≡ old)

-- The access gives and leaves what is defined; where it traps, all stays.
abbrev pub Gives : {A : Type 0} → Result A Trap → Memory → Memory → Result (A × State) Trap → Type 0
Gives (Ok x) old new to = (to ≡ Ok (x, new.state)) × DiffersInState old new
Gives (Err cause) old new to = (to ≡ Err cause) × (new ≡ old)

-- The access leaves what is defined; where it traps or wants memory, all stays.
abbrev pub LeavesIfRoom : {A : Type 0} → Result A StoreEnd → Memory → Memory → Result State Trap → Type 0
LeavesIfRoom (Ok _) old new to = (to ≡ Ok new.state) × DiffersInState old new
LeavesIfRoom (Err (end.Trap cause)) old new to = (to ≡ Err cause) × (new ≡ old)
LeavesIfRoom (Err (end.Memory _)) old new to = new ≡ old

-- The access gives and leaves what is defined; where it traps or wants memory, all stays.
abbrev pub GivesIfRoom : {A : Type 0} → Result A StoreEnd → Memory → Memory → Result (A × State) Trap → Type 0
GivesIfRoom (Ok x) old new to = (to ≡ Ok (x, new.state)) × DiffersInState old new
GivesIfRoom (Err (end.Trap cause)) old new to = (to ≡ Err cause) × (new ≡ old)
GivesIfRoom (Err (end.Memory _)) old new to = new ≡ old

-- The spawn gives the number of the new thread and leaves its mark; where it traps or wants memory, all stays.
abbrev pub Spawns : Result ℤ StoreEnd → Memory → Memory → Result (ℕ × List ThreadMark) Trap → Type 0
Spawns (Ok x) old new to =
    (to ≡ Ok (length old.marks, new.marks)) × (x ≡ pos (length old.marks)) × (new.fields ≡ old.fields) × (new.state ≡ old.state)
Spawns (Err (end.Trap cause)) old new to = (to ≡ Err cause) × (new ≡ old)
Spawns (Err (end.Memory _)) old new to = new ≡ old
