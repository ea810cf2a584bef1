-- A Step leaves the frames of every other thread.
use Rattle.std.proofs.Common.{◌≡◌, ℕ, zero, suc, ◌+◌, ◌<◌, ◌%◌, ℤ, pos, negsuc, Bool, true, false, ◌&&◌, ◌==◌, nat_lt, nat_le, List, [], ◌∷◌, ◌++◌, length, Option, Some, None, Result, Ok, Err, refl, ap, sym, ◌∙◌, arith}
use Rattle.std.specs.Prelude.{if◌then◌else◌, slice_get, slice_index_or, slice_set, replicate}
use Rattle.std.specs.Int.{w32, cast_unsigned}
use Rattle.c_tree.specs.declared.lifted.LStmt.{LStmt}
use Rattle.c_tree.specs.declared.lifted.LStmt.TheVariants as stmt
use Rattle.c_tree.specs.declared.lifted.Lifted.{Lifted}
use Rattle.c_tree.specs.declared.place.Act.{Act}
use Rattle.c_tree.specs.declared.place.Act.TheVariants.{Enter, Do, Test, EndLoop, Finish}
use Rattle.c_tree.specs.declared.place.Follow.{Follow}
use Rattle.c_tree.specs.declared.place.Location.{Location}
use Rattle.c_tree.specs.declared.place.Location.TheVariants.{InSlot, InGlobal, InArray, InObject}
use Rattle.c_tree.specs.declared.state.Frame.{Frame}
use Rattle.c_tree.specs.declared.state.State.{State}
use Rattle.c_tree.specs.declared.state.Trap.{Trap}
use Rattle.c_tree.specs.declared.state.Trap.TheVariants as trap
use Rattle.c_tree.specs.Value.{and_then, object, element, object_of}
use Rattle.c_tree.specs.Able.{standing, is_update_place}
use Rattle.c_tree.specs.Step.{Outcome, Done, Trapped, Finished, Blocked, Acting, acting, top, then_of, at_frame, is_live, frames_in, on, goes, store, returned, resumed, ended, got, made, wrote, freed, called, spawned, joined, locked, unlocked, done, acted, step, value_in, values_in, location_in, printed, outer_of, top_of, with_thread, with_frames, fresh, live_count, set_slot, with_object, field_count}
use Rattle.c_tree.specs.Limits.{max_live, max_threads, max_objects, max_output, max_frames}

-- a thread, as a state has it
abbrev Held : Type 0
Held = Option (Option (List Frame))

-- the outcome leaves the thread u as it was
abbrev pub Leaves : Held → ℕ → Outcome → Type 0
Leaves was u (Done s) = slice_get s.threads u ≡ was
Leaves was u (Trapped c) = Unit {0}
Leaves was u (Finished n) = Unit {0}
Leaves was u Blocked = Unit {0}

on_leaves : {A : Type 0} (was : Held) (u : ℕ) (r : Result A Trap) (go : A → Outcome) → ((x : A) → Leaves was u (go x)) → Leaves was u (on r go)
on_leaves was u (Ok x) go f = f x
on_leaves was u (Err c) go f = tt

if_leaves : (was : Held) (u : ℕ) (b : Bool) (x y : Outcome) → Leaves was u x → Leaves was u y → Leaves was u (if b then x else y)
if_leaves was u true x y p q = p
if_leaves was u false x y p q = q

get_set_other : {A : Type 0} (xs : List A) (i u : ℕ) (x : A) → (u ≡ i → ⊥) → slice_get (slice_set xs i x) u ≡ slice_get xs u
get_set_other [] i u x ne = refl
get_set_other (y ∷ ys) zero zero x ne = absurd (ne refl)
get_set_other (y ∷ ys) zero (suc u) x ne = refl
get_set_other (y ∷ ys) (suc i) zero x ne = refl
get_set_other (y ∷ ys) (suc i) (suc u) x ne = get_set_other ys i u x (λ e. ne (ap (λ n. suc n) e))

get_append : {A : Type 0} (xs ys : List A) (u : ℕ) → u < length xs → slice_get (xs ++ ys) u ≡ slice_get xs u
get_append [] ys u l = absurd (omega (arith, l))
get_append (x ∷ xs) ys zero l = refl
get_append (x ∷ xs) ys (suc u) l = get_append xs ys u (omega (arith, l))

set_leaves : {A : Type 0} (was : Option A) (u : ℕ) (xs : List A) (i : ℕ) (x : A) → (u ≡ i → ⊥) → slice_get xs u ≡ was → slice_get (slice_set xs i x) u ≡ was
set_leaves was u xs i x ne h = get_set_other xs i u x ne ∙ h

goes_leaves : (was : Held) (u : ℕ) (w : Acting) (n : ℕ) (s : State) (f : Frame) → (u ≡ w.thread → ⊥) → slice_get s.threads u ≡ was → Leaves was u (goes w n s f)
goes_leaves was u w n s f ne h = set_leaves was u s.threads w.thread _ ne h

then_leaves : {A : Type 0} (was : Held) (u : ℕ) (w : Acting) (n : ℕ) (r : Result A Trap) (g : A → State × Frame)
    → (u ≡ w.thread → ⊥) → ((x : A) → slice_get (g x).0.threads u ≡ was) → Leaves was u (on (and_then r (λ x. Ok (g x))) (λ p. goes w n p.0 p.1))
then_leaves was u w n (Ok x) g ne h = goes_leaves was u w n (g x).0 (g x).1 ne (h x)
then_leaves was u w n (Err c) g ne h = tt

store_leaves : (was : Held) (u : ℕ) (w : Acting) (n : ℕ) (s : State) (to : Location) (v : ℤ) → (u ≡ w.thread → ⊥) → slice_get s.threads u ≡ was → Leaves was u (store w n s to v)
store_leaves was u w n s (InSlot i) v ne h = set_leaves was u s.threads w.thread _ ne h
store_leaves was u w n s (InGlobal g) v ne h = set_leaves was u s.threads w.thread _ ne h
store_leaves was u w n s (InArray g at) v ne h = then_leaves was u w n (element (slice_index_or s.globals g []) at) _ ne (λ x. h)
store_leaves was u w n s (InObject p owner field) v ne h = then_leaves was u w n (object_of s.heap.objects p owner) _ ne (λ x. h)

-- so for one thread in a state, whose number is another than that of the thread that makes the Step
record Other (was : Held) (u : ℕ) (w : Acting) : Type 0 where
  other : u ≡ w.thread → ⊥
  there : slice_get w.state.threads u ≡ was
  made : u < length w.state.threads

resumed_leaves : (was : Held) (u : ℕ) (w : Acting) (f : Frame) (a : Act) (x : Follow) (v : ℤ) → Other was u w → Leaves was u (resumed w f a x v)
resumed_leaves was u w f (Do (stmt.Call to g args)) x v o = set_leaves was u w.state.threads w.thread _ o.other o.there
resumed_leaves was u w f _ x v o = o.there

ended_leaves : (was : Held) (u : ℕ) (w : Acting) (v : ℤ) → Other was u w → Leaves was u (ended w v)
ended_leaves was u w v o =
    let gone = record w.state { threads = slice_set w.state.threads w.thread None } in
    if_leaves was u (w.thread == 0) (Finished (cast_unsigned w32 v % 256)) (Done gone) tt (set_leaves was u w.state.threads w.thread None o.other o.there)

returned_leaves : (was : Held) (u : ℕ) (w : Acting) (v : ℤ) → Other was u w → Leaves was u (returned w v)
returned_leaves was u w v o =
    let caller = top_of (outer_of w.frames) in
    let at = at_frame w.program caller in
    if_leaves was u (length w.frames == 1) (ended w v) (resumed w caller at.act at.follow v) (ended_leaves was u w v o) (resumed_leaves was u w caller at.act at.follow v o)

-- where only the innermost frame of the thread changes, beside what no thread is part of
plain_leaves : (was : Held) (u : ℕ) (w : Acting) → Other was u w → (x : Option (List Frame)) → slice_get (slice_set w.state.threads w.thread x) u ≡ was
plain_leaves was u w o x = set_leaves was u w.state.threads w.thread x o.other o.there

got_leaves : (was : Held) (u : ℕ) (w : Acting) (n slot : ℕ) (input : List ℕ) → Other was u w → Leaves was u (got w n slot input)
got_leaves was u w n slot [] o = plain_leaves was u w o _
got_leaves was u w n slot (c ∷ rest) o = plain_leaves was u w o _

made_leaves : (was : Held) (u : ℕ) (w : Acting) (n slot owner : ℕ) → Other was u w → Leaves was u (made w n slot owner)
made_leaves was u w n slot owner o =
    let count = length w.state.heap.objects in
    let s = with_object w.state (record { owner = owner; fields = replicate (field_count w.program owner) (pos 0) }) in
    if_leaves was u (nat_lt count max_objects) (goes w n s (set_slot slot (pos (count + 1)) (top w))) (Trapped trap.Objects) (plain_leaves was u w o _) tt

wrote_leaves : (was : Held) (u : ℕ) (w : Acting) (n : ℕ) (bytes : List ℕ) → Other was u w → Leaves was u (wrote w n bytes)
wrote_leaves was u w n bytes o =
    let out = w.state.output ++ bytes in
    if_leaves was u (nat_le (length out) max_output) (goes w n (record w.state { output = out }) (top w)) (Trapped trap.Output) (plain_leaves was u w o _) tt

freed_leaves : (was : Held) (u : ℕ) (w : Acting) (n : ℕ) (p : ℤ) → Other was u w → Leaves was u (freed w n p)
freed_leaves was u w n (pos zero) o = plain_leaves was u w o _
freed_leaves was u w n (pos (suc p)) o = on_leaves was u (object w.state.heap.objects (pos (suc p))) _ (λ _. plain_leaves was u w o _)
freed_leaves was u w n (negsuc p) o = tt

called_leaves : (was : Held) (u : ℕ) (w : Acting) (f : ℕ) (args : List ℤ) → Other was u w → Leaves was u (called w f args)
called_leaves was u w f args o =
    if_leaves was u (nat_lt (length w.frames) max_frames) (Done (with_frames w.state w.thread (w.frames ++ fresh w.program f args ∷ []))) (Trapped trap.Frames) (plain_leaves was u w o _) tt

spawned_leaves : (was : Held) (u : ℕ) (w : Acting) (n : ℕ) (to : Location) (f : ℕ) (v : ℤ) → Other was u w → Leaves was u (spawned w n to f v)
spawned_leaves was u w n to f v o =
    let number = length w.state.threads in
    let frames = fresh w.program f (v ∷ []) ∷ [] in
    let s = with_thread w.state frames in
    if_leaves was u (nat_lt (live_count w.state) max_live && nat_lt number max_threads) (store w n s to (pos number)) (Trapped trap.Threads)
    (store_leaves was u w n s to (pos number) o.other (get_append w.state.threads (Some frames ∷ []) u o.made ∙ o.there)) tt

joined_leaves : (was : Held) (u : ℕ) (w : Acting) (n : ℕ) (v : ℤ) → Other was u w → Leaves was u (joined w n v)
joined_leaves was u w n (pos j) o =
    let go = goes w n w.state (top w) in
    let last = (if nat_lt j (length w.state.threads) then go else Trapped trap.Join) in
    let rest = (if is_live w.state j then Blocked else last) in
    if_leaves was u (j == w.thread) (Trapped trap.Join) rest tt
    (if_leaves was u (is_live w.state j) Blocked last tt (if_leaves was u (nat_lt j (length w.state.threads)) go (Trapped trap.Join) (plain_leaves was u w o _) tt))
joined_leaves was u w n (negsuc j) o = tt

locked_leaves : (was : Held) (u : ℕ) (w : Acting) (n m : ℕ) (owner : Option ℕ) → Other was u w → Leaves was u (locked w n m owner)
locked_leaves was u w n m None o = plain_leaves was u w o _
locked_leaves was u w n m (Some owner) o = if_leaves was u (owner == w.thread) (Trapped trap.Relock) Blocked tt tt

unlocked_leaves : (was : Held) (u : ℕ) (w : Acting) (n m : ℕ) (owner : Option ℕ) → Other was u w → Leaves was u (unlocked w n m owner)
unlocked_leaves was u w n m None o = tt
unlocked_leaves was u w n m (Some owner) o =
    if_leaves was u (owner == w.thread) (goes w n (record w.state { mutexes = slice_set w.state.mutexes m None }) (top w)) (Trapped trap.Unlock) (plain_leaves was u w o _) tt

done_leaves : (was : Held) (u : ℕ) (w : Acting) (n : ℕ) (x : LStmt) → Other was u w → Leaves was u (done w n x)
done_leaves was u w n (stmt.Assign to e) o = on_leaves was u (location_in w to) _ (λ a. on_leaves was u (value_in w e) _ (λ v. store_leaves was u w n w.state a v o.other o.there))
done_leaves was u w n (stmt.New slot owner) o = made_leaves was u w n slot owner o
done_leaves was u w n (stmt.Getc slot) o = got_leaves was u w n slot w.state.input o
done_leaves was u w n (stmt.Print text args) o = on_leaves was u (values_in w args) _ (λ vs. wrote_leaves was u w n (printed text vs) o)
done_leaves was u w n (stmt.Free e) o = on_leaves was u (value_in w e) _ (λ v. freed_leaves was u w n v o)
done_leaves was u w n (stmt.Call to f args) o = on_leaves was u (values_in w args) _ (λ vs. called_leaves was u w f vs o)
done_leaves was u w n (stmt.Spawn to f e) o = on_leaves was u (location_in w to) _ (λ a. on_leaves was u (value_in w e) _ (λ v. spawned_leaves was u w n a f v o))
done_leaves was u w n (stmt.Join e) o = on_leaves was u (value_in w e) _ (λ v. joined_leaves was u w n v o)
done_leaves was u w n (stmt.Lock m) o = locked_leaves was u w n m (slice_index_or w.state.mutexes m None) o
done_leaves was u w n (stmt.Unlock m) o = unlocked_leaves was u w n m (slice_index_or w.state.mutexes m None) o
done_leaves was u w n (stmt.Return None) o = returned_leaves was u w (pos 0) o
done_leaves was u w n (stmt.Return (Some e)) o = on_leaves was u (value_in w e) _ (λ v. returned_leaves was u w v o)
done_leaves was u w n _ o = o.there

acted_leaves : (was : Held) (u : ℕ) (w : Acting) (a : Act) (x : Follow) → Other was u w → Leaves was u (acted w a x)
acted_leaves was u w Enter x o = plain_leaves was u w o _
acted_leaves was u w (Do s) x o = done_leaves was u w (then_of x) s o
acted_leaves was u w (Test e) x o = on_leaves was u (value_in w e) _ (λ v. plain_leaves was u w o _)
acted_leaves was u w EndLoop x o = plain_leaves was u w o _
acted_leaves was u w Finish x o = returned_leaves was u w (pos 0) o

step_leaves : (p : Lifted) (t u : ℕ) (s : State) → (u ≡ t → ⊥) → u < length s.threads → Leaves (slice_get s.threads u) u (step p t s)
step_leaves p t u s ne l =
    let w = acting p t s in
    let at = at_frame p (top w) in
    if_leaves (slice_get s.threads u) u (is_live s t) (acted w at.act at.follow) Blocked
    (acted_leaves (slice_get s.threads u) u w at.act at.follow (record { other = ne; there = refl; made = l })) tt

held_within : (xs : List (Option (List Frame))) (u : ℕ) → nat_lt 0 (length (frames_in (slice_get xs u))) ≡ true → u < length xs
held_within [] u h = cc
held_within (x ∷ xs) zero h = omega arith
held_within (x ∷ xs) (suc u) h = let l : u < length xs = held_within xs u h in omega (arith, l)

-- a live thread was made
pub live_within : (s : State) (u : ℕ) → is_live s u ≡ true → u < length s.threads
live_within s u h = held_within s.threads u h

leaves_done : (was : Held) (u : ℕ) (o : Outcome) (s : State) → o ≡ Done s → Leaves was u o → slice_get s.threads u ≡ was
leaves_done was u (Done d) s e h = let same : d ≡ s = cc in ap (λ x. slice_get x.threads u) (sym same) ∙ h
leaves_done was u (Trapped c) s e h = cc
leaves_done was u (Finished n) s e h = cc
leaves_done was u Blocked s e h = cc

-- a thread that stands still stands after a Step of another
pub standing_stays : (p : Lifted) (t u : ℕ) (s d : State) → (u ≡ t → ⊥) → u < length s.threads → step p t s ≡ Done d → standing p d u ≡ standing p s u
standing_stays p t u s d ne l e =
    ap (λ o. nat_lt 0 (length (frames_in o)) && is_update_place (at_frame p (top_of (frames_in o))).act)
    (leaves_done (slice_get s.threads u) u (step p t s) d e (step_leaves p t u s ne l))
