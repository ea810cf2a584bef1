-- Small programs whose runs on the target machine are counted by hand.
use Rattle.std.specs.Prelude.{◌≡◌, true, false, [], ◌∷◌, refl, Some, codes}
use Rattle.c_tree.specs.declared.run.End.TheVariants as end
use Rattle.c_tree.specs.declared.state.Trap.TheVariants as trap
use Rattle.c_tree.proofs.RunExamples.{steps}
use Rattle.c_tree.proofs.UpdateExamples.{counts_old, counts_new, loop_entries, check_entries, counts_with_k, init_entries, nested_old, nested_new, nested_entries}
use Rattle.target_code.specs.Compute.{target_literals}
use Rattle.target_code.proofs.Programs.{hello, reads, divides, shifts, forever, asks_old, asks_new, asks_entries, waits_old, waits_new, waits_entries, workers_old, workers_new, workers_entries, items_old, items_new, item_entries, crossed, array, locks_old, locks_new, locks_entries, deep, deep_entries, no_place}
use Rattle.target_code.proofs.Rows.{alone, armed, events, ends, told, tells, saved, loaded, StandsForTheState}

-- Two instructions for the entry, two for `printf`, three for `return`.

pub hello_ends : ends (alone hello) 3 ≡ Some (end.Finished 3)
unfolding target_literals
hello_ends = refl

pub hello_tells : told (alone hello) (events (alone hello) 3) ≡ tells 7 [] (codes "hi\n")
unfolding target_literals
hello_tells = refl

pub hello_stands : StandsForTheState (alone hello) (events (alone hello) 3)
unfolding target_literals
hello_stands = refl

-- `getchar` at the end of the input.

pub reads_ends : ends (alone reads) 4 ≡ Some (end.Finished 0)
unfolding target_literals
reads_ends = refl

pub reads_tells : told (alone reads) (events (alone reads) 4) ≡ tells 11 [] (codes "-1\n")
unfolding target_literals
reads_tells = refl

pub reads_stands : StandsForTheState (alone reads) (events (alone reads) 4)
unfolding target_literals
reads_stands = refl

-- A loop that counts to 4.

pub counting_ends : ends (alone counts_old) 19 ≡ Some (end.Finished 0)
unfolding target_literals
counting_ends = refl

pub counting_tells : told (alone counts_old) (events (alone counts_old) 19) ≡ tells 74 [] (codes "old 1\nold 2\nold 3\nold 4\n")
unfolding target_literals
counting_tells = refl

pub counting_stands : StandsForTheState (alone counts_old) (events (alone counts_old) 19)
unfolding target_literals
counting_stands = refl

-- The loop is updated in its midst: one frame is saved and loaded.

pub updated_ends : ends (armed counts_old counts_new loop_entries 5) 23 ≡ Some (end.Finished 0)
unfolding target_literals
updated_ends = refl

pub updated_tells : told (armed counts_old counts_new loop_entries 5) (events (armed counts_old counts_new loop_entries 5) 23) ≡ tells 77 (saved 0 0 4 ∷ loaded true 0 0 4 ∷ []) (codes "old 1\nold 2\nnew 3\nnew 4\n")
unfolding target_literals
updated_tells = refl

pub updated_stands : StandsForTheState (armed counts_old counts_new loop_entries 5) (events (armed counts_old counts_new loop_entries 5) 23)
unfolding target_literals
updated_stands = refl

-- The entry has no map: the frame is loaded in the old program.

pub refused_ends : ends (armed counts_old counts_new loop_entries 0) 23 ≡ Some (end.Finished 0)
unfolding target_literals
refused_ends = refl

pub refused_tells : told (armed counts_old counts_new loop_entries 0) (events (armed counts_old counts_new loop_entries 0) 23) ≡ tells 77 (saved 0 0 0 ∷ loaded false 0 0 0 ∷ []) (codes "old 1\nold 2\nold 3\nold 4\n")
unfolding target_literals
refused_tells = refl

pub refused_stands : StandsForTheState (armed counts_old counts_new loop_entries 0) (events (armed counts_old counts_new loop_entries 0) 23)
unfolding target_literals
refused_stands = refl

-- The update is asked for too late.

pub not_asked_tells : told (armed counts_old counts_new loop_entries 1000) (events (armed counts_old counts_new loop_entries 1000) 19) ≡ tells 74 [] (codes "old 1\nold 2\nold 3\nold 4\n")
unfolding target_literals
not_asked_tells = refl

pub not_asked_stands : StandsForTheState (armed counts_old counts_new loop_entries 1000) (events (armed counts_old counts_new loop_entries 1000) 19)
unfolding target_literals
not_asked_stands = refl

-- A check fails.

pub check_fails_tells : told (armed counts_old counts_new check_entries 5) (events (armed counts_old counts_new check_entries 5) 23) ≡ tells 77 (saved 0 0 4 ∷ loaded false 0 0 4 ∷ []) (codes "old 1\nold 2\nold 3\nold 4\n")
unfolding target_literals
check_fails_tells = refl

pub check_fails_stands : StandsForTheState (armed counts_old counts_new check_entries 5) (events (armed counts_old counts_new check_entries 5) 23)
unfolding target_literals
check_fails_stands = refl

-- The initialiser of a new global traps.

pub init_traps_tells : told (armed counts_old counts_with_k init_entries 5) (events (armed counts_old counts_with_k init_entries 5) 23) ≡ tells 77 (saved 0 0 4 ∷ loaded false 0 0 4 ∷ []) (codes "old 1\nold 2\nold 3\nold 4\n")
unfolding target_literals
init_traps_tells = refl

pub init_traps_stands : StandsForTheState (armed counts_old counts_with_k init_entries 5) (events (armed counts_old counts_with_k init_entries 5) 23)
unfolding target_literals
init_traps_stands = refl

-- Four frames are saved from the innermost on, and loaded from the outermost on.

pub nested_ends : ends (armed nested_old nested_new nested_entries 13) 29 ≡ Some (end.Finished 0)
unfolding target_literals
nested_ends = refl

pub nested_tells : told (armed nested_old nested_new nested_entries 13) (events (armed nested_old nested_new nested_entries 13) 29) ≡ tells 115 (saved 0 0 4 ∷ saved 0 1 1 ∷ saved 0 2 1 ∷ saved 0 3 1 ∷ loaded true 0 3 1 ∷ loaded true 0 2 1 ∷ loaded true 0 1 1 ∷ loaded true 0 0 4 ∷ []) (codes "c 1\nc 2\nC 3\n2123\n")
unfolding target_literals
nested_tells = refl

pub nested_stands : StandsForTheState (armed nested_old nested_new nested_entries 13) (events (armed nested_old nested_new nested_entries 13) 29)
unfolding target_literals
nested_stands = refl

-- The argument of the call isn't evaluated again, which would divide by 0.

pub asks_ends : ends (armed asks_old asks_new asks_entries 6) 18 ≡ Some (end.Finished 0)
unfolding target_literals
asks_ends = refl

pub asks_tells : told (armed asks_old asks_new asks_entries 6) (events (armed asks_old asks_new asks_entries 6) 18) ≡ tells 64 (saved 0 0 4 ∷ saved 0 1 1 ∷ loaded true 0 1 1 ∷ loaded true 0 0 4 ∷ []) (codes "11\n")
unfolding target_literals
asks_tells = refl

pub asks_stands : StandsForTheState (armed asks_old asks_new asks_entries 6) (events (armed asks_old asks_new asks_entries 6) 18)
unfolding target_literals
asks_stands = refl

-- A thread is parked while it waits for a mutex.

pub waits_ends : ends (armed waits_old waits_new waits_entries 6) 28 ≡ Some (end.Finished 0)
unfolding target_literals
waits_ends = refl

pub waits_tells : told (armed waits_old waits_new waits_entries 6) (events (armed waits_old waits_new waits_entries 6) 28) ≡ tells 83 (saved 0 1 5 ∷ saved 1 0 1 ∷ loaded true 0 1 5 ∷ loaded true 1 0 1 ∷ []) (codes "w\nnew 3\n")
unfolding target_literals
waits_tells = refl

pub waits_stands : StandsForTheState (armed waits_old waits_new waits_entries 6) (events (armed waits_old waits_new waits_entries 6) 28)
unfolding target_literals
waits_stands = refl

-- The update is asked for when a thread was just made.

pub fresh_ends : ends (armed waits_old waits_new waits_entries 3) 28 ≡ Some (end.Finished 0)
unfolding target_literals
fresh_ends = refl

pub fresh_tells : told (armed waits_old waits_new waits_entries 3) (events (armed waits_old waits_new waits_entries 3) 28) ≡ tells 83 (saved 1 0 0 ∷ saved 0 1 5 ∷ loaded true 0 1 5 ∷ loaded true 1 0 0 ∷ []) (codes "w\nnew 3\n")
unfolding target_literals
fresh_tells = refl

pub fresh_stands : StandsForTheState (armed waits_old waits_new waits_entries 3) (events (armed waits_old waits_new waits_entries 3) 28)
unfolding target_literals
fresh_stands = refl

-- Three threads, of which two stand at once.

pub workers_ends : ends (armed workers_old workers_new workers_entries 10) 42 ≡ Some (end.Finished 0)
unfolding target_literals
workers_ends = refl

pub workers_tells : told (armed workers_old workers_new workers_entries 10) (events (armed workers_old workers_new workers_entries 10) 42) ≡ tells 138 (saved 0 1 3 ∷ saved 2 0 3 ∷ saved 1 0 3 ∷ loaded true 0 1 3 ∷ loaded true 1 0 3 ∷ loaded true 2 0 3 ∷ []) (codes "7\n")
unfolding target_literals
workers_tells = refl

pub workers_stands : StandsForTheState (armed workers_old workers_new workers_entries 10) (events (armed workers_old workers_new workers_entries 10) 42)
unfolding target_literals
workers_stands = refl

-- Objects of a struct that gets a field.

pub items_ends : ends (armed items_old items_new item_entries 12) 20 ≡ Some (end.Finished 0)
unfolding target_literals
items_ends = refl

pub items_tells : told (armed items_old items_new item_entries 12) (events (armed items_old items_new item_entries 12) 20) ≡ tells 60 (saved 0 0 12 ∷ loaded true 0 0 12 ∷ []) (codes "10\n")
unfolding target_literals
items_tells = refl

pub items_stands : StandsForTheState (armed items_old items_new item_entries 12) (events (armed items_old items_new item_entries 12) 20)
unfolding target_literals
items_stands = refl

-- A division traps: the trapping instruction counts.

pub divides_ends : ends (alone divides) 5 ≡ Some (end.Trapped 0 trap.Divide)
unfolding target_literals
divides_ends = refl

pub divides_tells : told (alone divides) (events (alone divides) 5) ≡ tells 18 [] (codes "-2147483648\n")
unfolding target_literals
divides_tells = refl

pub divides_stands : StandsForTheState (alone divides) (events (alone divides) 5)
unfolding target_literals
divides_stands = refl

-- A shift traps.

pub shifts_ends : ends (alone shifts) 2 ≡ Some (end.Trapped 0 trap.Shift)
unfolding target_literals
shifts_ends = refl

pub shifts_tells : told (alone shifts) (events (alone shifts) 2) ≡ tells 6 [] []
unfolding target_literals
shifts_tells = refl

pub shifts_stands : StandsForTheState (alone shifts) (events (alone shifts) 2)
unfolding target_literals
shifts_stands = refl

-- A loop without end.

pub forever_tells : told (alone forever) (events (alone forever) 7) ≡ tells 20 [] []
unfolding target_literals
forever_tells = refl

pub forever_stands : StandsForTheState (alone forever) (events (alone forever) 7)
unfolding target_literals
forever_stands = refl

-- Two threads wait for each other.

pub crossed_tells : told (alone crossed) (steps (0 ∷ 0 ∷ 1 ∷ 1 ∷ 0 ∷ [])) ≡ tells 14 [] []
unfolding target_literals
crossed_tells = refl

pub crossed_stands : StandsForTheState (alone crossed) (steps (0 ∷ 0 ∷ 1 ∷ 1 ∷ 0 ∷ []))
unfolding target_literals
crossed_stands = refl

-- An array, `continue` and `break`.

pub array_ends : ends (alone array) 18 ≡ Some (end.Finished 0)
unfolding target_literals
array_ends = refl

pub array_tells : told (alone array) (events (alone array) 18) ≡ tells 91 [] (codes "-3\n")
unfolding target_literals
array_tells = refl

pub array_stands : StandsForTheState (alone array) (events (alone array) 18)
unfolding target_literals
array_stands = refl

-- The mutex that the new version lacks is held.

pub held_ends : ends (armed locks_old locks_new locks_entries 3) 16 ≡ Some (end.Finished 0)
unfolding target_literals
held_ends = refl

pub held_tells : told (armed locks_old locks_new locks_entries 3) (events (armed locks_old locks_new locks_entries 3) 16) ≡ tells 47 (saved 0 0 4 ∷ loaded false 0 0 4 ∷ []) (codes "old 2\n")
unfolding target_literals
held_tells = refl

pub held_stands : StandsForTheState (armed locks_old locks_new locks_entries 3) (events (armed locks_old locks_new locks_entries 3) 16)
unfolding target_literals
held_stands = refl

-- It is not held at the entry.

pub free_ends : ends (armed locks_old locks_new locks_entries 0) 14 ≡ Some (end.Finished 0)
unfolding target_literals
free_ends = refl

pub free_tells : told (armed locks_old locks_new locks_entries 0) (events (armed locks_old locks_new locks_entries 0) 14) ≡ tells 42 (saved 0 0 0 ∷ loaded true 0 0 0 ∷ []) (codes "new 2\n")
unfolding target_literals
free_tells = refl

pub free_stands : StandsForTheState (armed locks_old locks_new locks_entries 0) (events (armed locks_old locks_new locks_entries 0) 14)
unfolding target_literals
free_stands = refl

-- A recursion is updated at its bottom: 61 instructions of the program, 5 to unwind 4 frames, 10 to rebuild them, and 3 jumps behind the rebuilt calls.

pub deep_ends : ends (armed (deep 1) (deep 2) deep_entries 8) 19 ≡ Some (end.Finished 0)
unfolding target_literals
deep_ends = refl

pub deep_tells : told (armed (deep 1) (deep 2) deep_entries 8) (events (armed (deep 1) (deep 2) deep_entries 8) 19) ≡ tells 79 (saved 0 0 0 ∷ saved 0 0 3 ∷ saved 0 0 3 ∷ saved 0 1 1 ∷ loaded true 0 1 1 ∷ loaded true 0 0 3 ∷ loaded true 0 0 3 ∷ loaded true 0 0 0 ∷ []) (codes "4\n")
unfolding target_literals
deep_tells = refl

pub deep_stands : StandsForTheState (armed (deep 1) (deep 2) deep_entries 8) (events (armed (deep 1) (deep 2) deep_entries 8) 19)
unfolding target_literals
deep_stands = refl

-- The number of a new thread has no place: the trap leaves no thread behind.

pub no_place_ends : ends (alone no_place) 2 ≡ Some (end.Trapped 0 trap.Bounds)
unfolding target_literals
no_place_ends = refl

pub no_place_tells : told (alone no_place) (events (alone no_place) 2) ≡ tells 7 [] []
unfolding target_literals
no_place_tells = refl

pub no_place_stands : StandsForTheState (alone no_place) (events (alone no_place) 2)
unfolding target_literals
no_place_stands = refl
