-- The new state in steps, as it is made.
use Rattle.std.specs.Prelude.{ℤ, List, Option, Result, Ok}
use Rattle.c_tree.specs.declared.event.Reason.{Reason}
use Rattle.c_tree.specs.declared.mapping.LEntry.{LEntry}
use Rattle.c_tree.specs.declared.state.Object.{Object}
use Rattle.c_tree.specs.declared.state.State.{State}
use Rattle.c_tree.specs.Link.{Link}
use Rattle.c_tree.specs.MapHeap.{map_objects}
use Rattle.c_tree.specs.MapMutexes.{new_owners}
use Rattle.c_tree.specs.Refusal.{onward}
use Rattle.c_tree.specs.Update.{map_threads}

-- the new state, once globals and objects are there
abbrev pub with_threads : Link → List LEntry → State → List (List ℤ) → List (Option Object) → Result State Reason
with_threads k entries s globals objects =
    onward (map_threads k entries s 0 s.threads) (λ threads.
    Ok (record s { globals = globals; heap = record { objects = objects }; mutexes = new_owners k s; threads = threads }))

-- the new state, once globals are there
abbrev pub with_objects : Link → List LEntry → State → List (List ℤ) → Result State Reason
with_objects k entries s globals = onward (map_objects k entries s 1 s.heap.objects) (λ objects. with_threads k entries s globals objects)
