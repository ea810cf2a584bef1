-- A Step takes no thread away.
use Rattle.std.proofs.Common.{◌≡◌, ℕ, zero, suc, ◌+◌, ◌≤◌, ◌%◌, ℤ, pos, negsuc, Bool, true, false, ◌&&◌, ◌==◌, nat_lt, nat_le, List, [], ◌∷◌, ◌++◌, length, Option, Some, None, Result, Ok, Err, refl, arith, subst, sym, length-append}
use Rattle.std.specs.Prelude.{if◌then◌else◌, slice_index_or, slice_set, replicate}
use Rattle.std.proofs.lemmas.List.{length-set}
use Rattle.c_tree.specs.declared.lifted.LStmt.{LStmt}
use Rattle.c_tree.specs.declared.lifted.LStmt.TheVariants as stmt
use Rattle.c_tree.specs.declared.lifted.Lifted.{Lifted}
use Rattle.c_tree.specs.declared.place.Act.{Act}
use Rattle.c_tree.specs.declared.place.Act.TheVariants.{Enter, Do, Test, EndLoop, Finish}
use Rattle.c_tree.specs.declared.place.Follow.{Follow}
use Rattle.c_tree.specs.declared.place.Location.{Location}
use Rattle.c_tree.specs.declared.place.Location.TheVariants.{InSlot, InGlobal, InArray, InObject}
use Rattle.c_tree.specs.declared.state.Frame.{Frame}
use Rattle.c_tree.specs.declared.state.State.{State}
use Rattle.c_tree.specs.declared.state.Trap.{Trap}
use Rattle.c_tree.specs.declared.state.Trap.TheVariants as trap
use Rattle.c_tree.specs.Value.{and_then, object, element, object_of}
use Rattle.c_tree.specs.Step.{Outcome, Done, Trapped, Finished, Blocked, Acting, acting, top, then_of, at_frame, is_live, on, goes, store, returned, resumed, ended, got, made, wrote, freed, called, spawned, joined, locked, unlocked, done, acted, step, value_in, values_in, location_in, printed, outer_of, top_of, with_thread, with_frames, fresh, live_count, set_slot, with_object, field_count}
use Rattle.c_tree.specs.Limits.{max_live, max_threads, max_objects, max_output, max_frames}
use Rattle.std.specs.Int.{w32, cast_unsigned}

-- the outcome has at least k threads
abbrev pub Many : ℕ → Outcome → Type 0
Many k (Done s) = k ≤ length s.threads
Many k (Trapped c) = Unit {0}
Many k (Finished n) = Unit {0}
Many k Blocked = Unit {0}

on_many : {A : Type 0} (k : ℕ) (r : Result A Trap) (go : A → Outcome) → ((x : A) → Many k (go x)) → Many k (on r go)
on_many k (Ok x) go f = f x
on_many k (Err c) go f = tt

if_many : (k : ℕ) (b : Bool) (x y : Outcome) → (b ≡ true → Many k x) → Many k y → Many k (if b then x else y)
if_many k true x y p q = p refl
if_many k false x y p q = q

set_many : {A : Type 0} (k : ℕ) (xs : List A) (i : ℕ) (x : A) → k ≤ length xs → k ≤ length (slice_set xs i x)
set_many k xs i x h = subst (λ n. k ≤ n) (sym (length-set xs i x)) h

goes_many : (k : ℕ) (w : Acting) (n : ℕ) (s : State) (f : Frame) → k ≤ length s.threads → Many k (goes w n s f)
goes_many k w n s f h = set_many k s.threads w.thread _ h

then_many : {A : Type 0} (k : ℕ) (w : Acting) (n : ℕ) (r : Result A Trap) (g : A → State × Frame)
    → ((x : A) → k ≤ length (g x).0.threads) → Many k (on (and_then r (λ x. Ok (g x))) (λ p. goes w n p.0 p.1))
then_many k w n (Ok x) g h = goes_many k w n (g x).0 (g x).1 (h x)
then_many k w n (Err c) g h = tt

store_many : (k : ℕ) (w : Acting) (n : ℕ) (s : State) (to : Location) (v : ℤ) → k ≤ length s.threads → Many k (store w n s to v)
store_many k w n s (InSlot i) v h = set_many k s.threads w.thread _ h
store_many k w n s (InGlobal g) v h = set_many k s.threads w.thread _ h
store_many k w n s (InArray g at) v h = then_many k w n (element (slice_index_or s.globals g []) at) _ (λ x. h)
store_many k w n s (InObject p owner field) v h = then_many k w n (object_of s.heap.objects p owner) _ (λ x. h)

resumed_many : (k : ℕ) (w : Acting) (f : Frame) (a : Act) (x : Follow) (v : ℤ) → k ≤ length w.state.threads → Many k (resumed w f a x v)
resumed_many k w f (Do (stmt.Call to g args)) x v h = set_many k w.state.threads w.thread _ h
resumed_many k w f _ x v h = h

ended_many : (k : ℕ) (w : Acting) (v : ℤ) → k ≤ length w.state.threads → Many k (ended w v)
ended_many k w v h =
    let other = record w.state { threads = slice_set w.state.threads w.thread None } in
    if_many k (w.thread == 0) (Finished (cast_unsigned w32 v % 256)) (Done other) (λ _. tt) (set_many k w.state.threads w.thread None h)

returned_many : (k : ℕ) (w : Acting) (v : ℤ) → k ≤ length w.state.threads → Many k (returned w v)
returned_many k w v h =
    let caller = top_of (outer_of w.frames) in
    let at = at_frame w.program caller in
    if_many k (length w.frames == 1) (ended w v) (resumed w caller at.act at.follow v) (λ _. ended_many k w v h) (resumed_many k w caller at.act at.follow v h)

got_many : (k : ℕ) (w : Acting) (n slot : ℕ) (input : List ℕ) → k ≤ length w.state.threads → Many k (got w n slot input)
got_many k w n slot [] h = set_many k w.state.threads w.thread _ h
got_many k w n slot (c ∷ rest) h = set_many k w.state.threads w.thread _ h

made_many : (k : ℕ) (w : Acting) (n slot owner : ℕ) → k ≤ length w.state.threads → Many k (made w n slot owner)
made_many k w n slot owner h =
    let count = length w.state.heap.objects in
    let s = with_object w.state (record { owner = owner; fields = replicate (field_count w.program owner) (pos 0) }) in
    if_many k (nat_lt count max_objects) (goes w n s (set_slot slot (pos (count + 1)) (top w))) (Trapped trap.Objects) (λ _. set_many k w.state.threads w.thread _ h) tt

wrote_many : (k : ℕ) (w : Acting) (n : ℕ) (bytes : List ℕ) → k ≤ length w.state.threads → Many k (wrote w n bytes)
wrote_many k w n bytes h =
    let out = w.state.output ++ bytes in
    if_many k (nat_le (length out) max_output) (goes w n (record w.state { output = out }) (top w)) (Trapped trap.Output) (λ _. set_many k w.state.threads w.thread _ h) tt

freed_many : (k : ℕ) (w : Acting) (n : ℕ) (p : ℤ) → k ≤ length w.state.threads → Many k (freed w n p)
freed_many k w n (pos zero) h = set_many k w.state.threads w.thread _ h
freed_many k w n (pos (suc p)) h = on_many k (object w.state.heap.objects (pos (suc p))) _ (λ o. set_many k w.state.threads w.thread _ h)
freed_many k w n (negsuc p) h = tt

called_many : (k : ℕ) (w : Acting) (f : ℕ) (args : List ℤ) → k ≤ length w.state.threads → Many k (called w f args)
called_many k w f args h =
    if_many k (nat_lt (length w.frames) max_frames) (Done (with_frames w.state w.thread (w.frames ++ fresh w.program f args ∷ []))) (Trapped trap.Frames) (λ _. set_many k w.state.threads w.thread _ h) tt

one_more : (k : ℕ) (s : State) (fs : List Frame) → k ≤ length s.threads → k ≤ length (with_thread s fs).threads
one_more k s fs h = subst (λ n. k ≤ n) (sym (length-append s.threads (Some fs ∷ []))) (omega (arith, h))

spawned_many : (k : ℕ) (w : Acting) (n : ℕ) (to : Location) (f : ℕ) (v : ℤ) → k ≤ length w.state.threads → Many k (spawned w n to f v)
spawned_many k w n to f v h =
    let number = length w.state.threads in
    let s = with_thread w.state (fresh w.program f (v ∷ []) ∷ []) in
    if_many k (nat_lt (live_count w.state) max_live && nat_lt number max_threads) (store w n s to (pos number)) (Trapped trap.Threads)
    (λ e. store_many k w n s to (pos number) (one_more k w.state (fresh w.program f (v ∷ []) ∷ []) h)) tt

joined_many : (k : ℕ) (w : Acting) (n : ℕ) (v : ℤ) → k ≤ length w.state.threads → Many k (joined w n v)
joined_many k w n (pos u) h =
    let go = goes w n w.state (top w) in
    let last = (if nat_lt u (length w.state.threads) then go else Trapped trap.Join) in
    let rest = (if is_live w.state u then Blocked else last) in
    if_many k (u == w.thread) (Trapped trap.Join) rest (λ _. tt)
    (if_many k (is_live w.state u) Blocked last (λ _. tt) (if_many k (nat_lt u (length w.state.threads)) go (Trapped trap.Join) (λ _. set_many k w.state.threads w.thread _ h) tt))
joined_many k w n (negsuc u) h = tt

locked_many : (k : ℕ) (w : Acting) (n m : ℕ) (o : Option ℕ) → k ≤ length w.state.threads → Many k (locked w n m o)
locked_many k w n m None h = set_many k w.state.threads w.thread _ h
locked_many k w n m (Some owner) h = if_many k (owner == w.thread) (Trapped trap.Relock) Blocked (λ _. tt) tt

unlocked_many : (k : ℕ) (w : Acting) (n m : ℕ) (o : Option ℕ) → k ≤ length w.state.threads → Many k (unlocked w n m o)
unlocked_many k w n m None h = tt
unlocked_many k w n m (Some owner) h =
    if_many k (owner == w.thread) (goes w n (record w.state { mutexes = slice_set w.state.mutexes m None }) (top w)) (Trapped trap.Unlock) (λ _. set_many k w.state.threads w.thread _ h) tt

done_many : (k : ℕ) (w : Acting) (n : ℕ) (x : LStmt) → k ≤ length w.state.threads → Many k (done w n x)
done_many k w n (stmt.Assign to e) h = on_many k (location_in w to) _ (λ a. on_many k (value_in w e) _ (λ v. store_many k w n w.state a v h))
done_many k w n (stmt.New slot owner) h = made_many k w n slot owner h
done_many k w n (stmt.Getc slot) h = got_many k w n slot w.state.input h
done_many k w n (stmt.Print text args) h = on_many k (values_in w args) _ (λ vs. wrote_many k w n (printed text vs) h)
done_many k w n (stmt.Free e) h = on_many k (value_in w e) _ (λ v. freed_many k w n v h)
done_many k w n (stmt.Call to f args) h = on_many k (values_in w args) _ (λ vs. called_many k w f vs h)
done_many k w n (stmt.Spawn to f e) h = on_many k (location_in w to) _ (λ a. on_many k (value_in w e) _ (λ v. spawned_many k w n a f v h))
done_many k w n (stmt.Join e) h = on_many k (value_in w e) _ (λ v. joined_many k w n v h)
done_many k w n (stmt.Lock m) h = locked_many k w n m (slice_index_or w.state.mutexes m None) h
done_many k w n (stmt.Unlock m) h = unlocked_many k w n m (slice_index_or w.state.mutexes m None) h
done_many k w n (stmt.Return None) h = returned_many k w (pos 0) h
done_many k w n (stmt.Return (Some e)) h = on_many k (value_in w e) _ (λ v. returned_many k w v h)
done_many k w n _ h = h

acted_many : (k : ℕ) (w : Acting) (a : Act) (x : Follow) → k ≤ length w.state.threads → Many k (acted w a x)
acted_many k w Enter x h = set_many k w.state.threads w.thread _ h
acted_many k w (Do s) x h = done_many k w (then_of x) s h
acted_many k w (Test e) x h = on_many k (value_in w e) _ (λ v. set_many k w.state.threads w.thread _ h)
acted_many k w EndLoop x h = set_many k w.state.threads w.thread _ h
acted_many k w Finish x h = returned_many k w (pos 0) h

pub step_many : (p : Lifted) (t : ℕ) (s : State) → Many (length s.threads) (step p t s)
step_many p t s =
    let w = acting p t s in
    let at = at_frame p (top w) in
    if_many (length s.threads) (is_live s t) (acted w at.act at.follow) Blocked (λ _. acted_many (length s.threads) w at.act at.follow (omega arith)) tt
