-- A step of a formed program leads from a valid state to a valid one.
use Rattle.std.proofs.Common.{◌≡◌, ◌≢◌, ℕ, zero, suc, ◌+◌, ◌-◌, ◌<◌, ◌%◌, ℤ, pos, negsuc, Bool, true, false, ◌&&◌, ◌==◌, nat_lt, nat_le, List, [], ◌∷◌, ◌++◌, length, map, replicate, Option, Some, None, Result, Ok, Err, IfOk, refl, sym, ap, subst, arith, ◌∙◌, length-append}
use Rattle.std.specs.Prelude.{if◌then◌else◌, slice_get, slice_index_or, slice_set, ⊤, MatchOption}
use Rattle.std.specs.Int.{w32, cast_unsigned}
use Rattle.std.proofs.lemmas.Bool.{ltb-true, leb-true, eqb-false}
use Rattle.std.proofs.lemmas.Option.{slice_get_within}
use Rattle.c_tree.specs.declared.ty.Ty.{Ty}
use Rattle.c_tree.specs.declared.ty.Ty.TheVariants as ty
use Rattle.c_tree.specs.declared.lifted.Slot.{Slot}
use Rattle.c_tree.specs.declared.lifted.Dest.{Dest}
use Rattle.c_tree.specs.declared.lifted.LExpr.{LExpr}
use Rattle.c_tree.specs.declared.lifted.LFunction.{LFunction}
use Rattle.c_tree.specs.declared.lifted.LStmt.{LStmt}
use Rattle.c_tree.specs.declared.lifted.LStmt.TheVariants as stmt
use Rattle.c_tree.specs.declared.lifted.Lifted.{Lifted}
use Rattle.c_tree.specs.declared.place.Act.{Act}
use Rattle.c_tree.specs.declared.place.Act.TheVariants.{Enter, Do, Test, EndLoop, Finish}
use Rattle.c_tree.specs.declared.place.Follow.{Follow}
use Rattle.c_tree.specs.declared.place.Location.{Location}
use Rattle.c_tree.specs.declared.place.Location.TheVariants.{InSlot, InGlobal, InArray, InObject}
use Rattle.c_tree.specs.declared.state.Frame.{Frame}
use Rattle.c_tree.specs.declared.state.Object.{Object}
use Rattle.c_tree.specs.declared.state.State.{State}
use Rattle.c_tree.specs.declared.state.Trap.{Trap}
use Rattle.c_tree.specs.declared.state.Trap.TheVariants as trap
use Rattle.c_tree.specs.Value.{is_true, and_then, object, element, object_of}
use Rattle.c_tree.specs.Layout.{places, place_at}
use Rattle.c_tree.specs.Formed.{Sort, int, thread, pointer, sort_of_type, sort_of_slot, sort_of, sort_at, fields_in, AreArguments, TakesResult, IsCall, HasStartForm, HasSortsIn, IsFormed}
use Rattle.c_tree.specs.Step.{Outcome, Done, Trapped, Finished, Blocked, Acting, acting, top, then_of, else_of, at_frame, is_live, on, goes, store, returned, resumed, ended, got, made, wrote, freed, called, spawned, joined, locked, unlocked, done, acted, step, value_in, values_in, location_in, printed, outer_of, top_of, with_top, moved, with_thread, with_frames, with_object, set_object, set_field, set_global, set_result, fresh, function_of, field_count, live_count, set_slot, view_of, index}
use Rattle.c_tree.specs.Limits.{max_live, max_threads, max_objects, max_output, max_frames}
use Rattle.c_tree.specs.Valid.{Fits, IsCallOf, ValidFrame, ValidStack, outermost, Valid}
use Rattle.c_tree.specs.StartForm.{parameters_of, takes_one_pointer, CanStart}
use Rattle.c_tree.specs.Types.{is_any_pointer}
use Rattle.state_laws.proofs.Zips.{all_at}
use Rattle.state_laws.proofs.Refers.{HasValue, zero_has, pointer_refers, slot_set, argument_fits}
use Rattle.state_laws.proofs.Values.{Beside, value_gives, given, asked, values_fit, LocationFits, location_fits, scalar_of, array_of, object_at, object_of_at}
use Rattle.state_laws.proofs.Frames.{split, new_top, length-outer, frames_of_live}
use Rattle.state_laws.proofs.Stacks.{Calls, outermost_same, outermost_more, stack_same, stack_more, stack_less, stack_top}
use Rattle.state_laws.proofs.Places.{ActFits, function_is, function_told, act_fits, where_is, follows_inside}
use Rattle.state_laws.proofs.States.{with_frames_valid, ended_valid, with_thread_valid, set_global_valid, set_object_valid, set_field_valid, with_object_valid, mutexes_valid, input_valid, output_valid}
use Rattle.state_laws.proofs.First.{fresh_valid, stack_of_one}

-- the outcome is no state or a valid one
abbrev pub Keeps : Lifted → Outcome → Type 0
Keeps p (Done s) = Valid p s
Keeps p (Trapped cause) = ⊤
Keeps p (Finished n) = ⊤
Keeps p Blocked = ⊤

on_keeps : {A : Type 0} (p : Lifted) (r : Result A Trap) (go : A → Outcome) → ((x : A) → r ≡ Ok x → Keeps p (go x)) → Keeps p (on r go)
on_keeps p (Ok x) go f = f x refl
on_keeps p (Err cause) go f = tt

if_keeps : (p : Lifted) (b : Bool) (x y : Outcome) → (b ≡ true → Keeps p x) → (b ≡ false → Keeps p y) → Keeps p (if b then x else y)
if_keeps p true x y f g = f refl
if_keeps p false x y f g = g refl

held : {A : Type 0} (P : A → Type 0) (r : Result A Trap) (x : A) → IfOk r P → r ≡ Ok x → P x
held P r x h e = subst (λ r. IfOk r P) e h

-- a valid state in which the thread has its frames
record Ready (w : Acting) (s : State) : Type 0 where
  valid : Valid w.program s
  at : slice_get s.threads w.thread ≡ Some (Some w.frames)
  some : 0 < length w.frames

-- the function of the innermost frame, and how many objects were made
abbrev home : Acting → LFunction
home w = function_of w.program (top w).function

abbrev count : State → ℕ
count s = length s.heap.objects

ready_with : (w : Acting) (s next : State) → Ready w s → Valid w.program next → next.threads ≡ s.threads → Ready w next
ready_with w s next r v e = record { valid = v; at = subst (λ ts. slice_get ts w.thread ≡ Some (Some w.frames)) (sym e) r.at; some = r.some }

whole_stack : (w : Acting) (s : State) → Ready w s → ValidStack w.program (count s) (outer_of w.frames ++ top w ∷ [])
whole_stack w s r =
    subst (λ fs. ValidStack w.program (count s) fs) (split w.frames r.some)
    (all_at (λ o. MatchOption o ⊤ (λ frames. ValidStack w.program (count s) frames)) s.threads w.thread (Some w.frames) r.valid.stacks r.at)

top_frame : (w : Acting) (s : State) → Ready w s → ValidFrame w.program (count s) (top w)
top_frame w s r = stack_top w.program (count s) (outer_of w.frames) (top w) (whole_stack w s r)

beside : (w : Acting) → Ready w w.state → Beside w.program (home w).slots (count w.state) (view_of w.state (top w))
beside w r = record { own_slots = (top_frame w w.state r).slots; globals_fit = r.valid.globals; objects_fit = r.valid.objects }

-- the thread goes on with a frame of the same function
goes_keeps : (w : Acting) (n : ℕ) (s : State) (f : Frame) → Ready w s → n < length (places (home w)) → f.function ≡ (top w).function → Fits (count s) (home w).slots f.slots → Keeps w.program (goes w n s f)
goes_keeps w n s f r h e fits =
    let p = w.program in
    let was = top_frame w s r in
    let frame : ValidFrame p (count s) (moved n f) = record {
      function = subst (λ k. k < length p.functions) (sym e) was.function;
      place = subst (λ k. n < length (places (function_of p k))) (sym e) h;
      slots = subst (λ k. Fits (count s) (function_of p k).slots f.slots) (sym e) fits;
    } in
    let new = new_top w.frames (moved n f) r.some in
    with_frames_valid p s w.thread w.frames (with_top w.frames (moved n f)) r.valid r.at
    (subst (λ fs. ValidStack p (count s) fs) (sym new) (stack_same p (count s) (outer_of w.frames) (top w) (moved n f) e frame (whole_stack w s r)))
    (ap outermost new ∙ (outermost_same (outer_of w.frames) (top w) (moved n f) e ∙ sym (ap outermost (split w.frames r.some))))

-- with the same frame
stays_keeps : (w : Acting) (n : ℕ) (s : State) → Ready w s → n < length (places (home w)) → Keeps w.program (goes w n s (top w))
stays_keeps w n s r h = goes_keeps w n s (top w) r h refl (top_frame w s r).slots

-- with a value in a slot
slot_keeps : (w : Acting) (n : ℕ) (s : State) (i : ℕ) (v : ℤ) (a : Sort) → Ready w s → n < length (places (home w)) → sort_of_slot (slice_get (home w).slots i) ≡ Some a → HasValue (count s) a v → Keeps w.program (goes w n s (set_slot i v (top w)))
slot_keeps w n s i v a r h e has = goes_keeps w n s (set_slot i v (top w)) r h refl (slot_set (count s) (home w).slots (top w).slots i v a (top_frame w s r).slots e has)

-- with a value in a global
global_keeps : (w : Acting) (n : ℕ) (s : State) (g i : ℕ) (v : ℤ) (a : Sort) → Ready w s → n < length (places (home w)) → Valid w.program (set_global s g i v) → Keeps w.program (goes w n (set_global s g i v) (top w))
global_keeps w n s g i v a r h valid = stays_keeps w n (set_global s g i v) (ready_with w s (set_global s g i v) r valid refl) h

two_keep : {A : Type 0} (w : Acting) (n : ℕ) (r : Result A Trap) (g : A → State × Frame) → ((x : A) → r ≡ Ok x → Keeps w.program (goes w n (g x).0 (g x).1)) → Keeps w.program (on (and_then r (λ x. Ok (g x))) (λ q. goes w n q.0 q.1))
two_keep w n (Ok x) g f = f x refl
two_keep w n (Err cause) g f = tt

field_keeps : (w : Acting) (n : ℕ) (s : State) (at v : ℤ) (owner field : ℕ) (a : Sort) (o : Object) → Ready w s → n < length (places (home w)) → sort_of_slot (slice_get (fields_in (slice_get w.program.structs owner)) field) ≡ Some a → HasValue (count s) a v
    → object_of s.heap.objects at owner ≡ Ok o → Keeps w.program (goes w n (set_field s (index at - 1) field v) (top w))
field_keeps w n s at v owner field a o r h e has found =
    let told = object_of_at s.heap.objects at owner o found in
    let place = object_at s.heap.objects at o told.0 in
    let i = place.0 in
    let number : index at - 1 ≡ i = ap (λ v. index v - 1) place.1 ∙ (let k : suc i - 1 ≡ i = omega arith in k) in
    let valid : Valid w.program (set_field s i field v) = set_field_valid w.program s i owner field v o a r.valid place.2 told.1 e has in
    subst (λ j. Keeps w.program (goes w n (set_field s j field v) (top w))) (sym number)
    (stays_keeps w n (set_field s i field v) (ready_with w s (set_field s i field v) r valid refl) h)

store_keeps : (w : Acting) (n : ℕ) (s : State) (a : Sort) (to : Location) (v : ℤ) → Ready w s → n < length (places (home w)) → LocationFits w.program (home w).slots a to → HasValue (count s) a v → Keeps w.program (store w n s to v)
store_keeps w n s a (InSlot i) v r h e has = slot_keeps w n s i v a r h e has
store_keeps w n s a (InGlobal g) v r h e has =
    let q = scalar_of (slice_get w.program.globals g) a e in
    global_keeps w n s g 0 v a r h (set_global_valid w.program s g 0 v q.0 a r.valid q.1 q.2 has)
store_keeps w n s a (InArray g at) v r h e has =
    let q = array_of (slice_get w.program.globals g) a e in
    two_keep w n (element (slice_index_or s.globals g []) at) (λ _. (set_global s g (index at) v, top w))
    (λ _ _. global_keeps w n s g (index at) v a r h (set_global_valid w.program s g (index at) v q.0 a r.valid q.1 q.2 has))
store_keeps w n s a (InObject at owner field) v r h e has =
    two_keep w n (object_of s.heap.objects at owner) (λ _. (set_field s (index at - 1) field v, top w))
    (λ o found. field_keeps w n s at v owner field a o r h e has found)

-- the value of an expression of a sort
value_has : (w : Acting) (a : Sort) (e : LExpr) (v : ℤ) → Ready w w.state → sort_of w.program (home w).slots e ≡ Some a → value_in w e ≡ Ok v → HasValue (count w.state) a v
value_has w a e v r s is = given (count w.state) a (value_in w e) v (value_gives w.program (home w).slots (count w.state) (view_of w.state (top w)) (beside w r) a e s) is

location_has : (w : Acting) (a : Sort) (to : Dest) (at : Location) → sort_at w.program (home w).slots to ≡ Some a → location_in w to ≡ Ok at → LocationFits w.program (home w).slots a at
location_has w a to at s is = held (λ x. LocationFits w.program (home w).slots a x) (location_in w to) at (location_fits w.program (home w).slots (view_of w.state (top w)) a to s) is

-- a return to a caller
set_result_function : (to : Option ℕ) (v : ℤ) (f : Frame) → (set_result to v f).function ≡ f.function
set_result_function None v f = refl
set_result_function (Some i) v f = refl

result_fits : (n : ℕ) (slots : List Slot) (ret : Ty) (to : Option ℕ) (v : ℤ) (f : Frame) → TakesResult slots ret to → ((a : Sort) → sort_of_type ret ≡ Some a → HasValue n a v) → Fits n slots f.slots → Fits n slots (set_result to v f).slots
result_fits n slots ret None v f takes has fits = fits
result_fits n slots ret (Some i) v f takes has fits =
    let s = asked (sort_of_slot (slice_get slots i)) (sort_of_type ret) takes in
    slot_set n slots f.slots i v s.0 fits s.1 (has s.0 s.2)

takes_result : (p : Lifted) (slots : List Slot) (to : Option ℕ) (o : Option LFunction) (g : LFunction) (args : List LExpr) → o ≡ Some g → IsCall p slots to o args → TakesResult slots g.ret to
takes_result p slots to o g args e h = (subst (λ o. IsCall p slots to o args) e h).1

resumed_keeps : (w : Acting) (outer : List Frame) (caller : Frame) (act : Act) (x : Follow) (v : ℤ) → Ready w w.state
    → outer_of w.frames ≡ outer ++ caller ∷ [] → ((f : Frame) → with_top (outer_of w.frames) f ≡ outer ++ f ∷ [])
    → ValidStack w.program (count w.state) (outer ++ caller ∷ []) → IsCallOf (top w).function act
    → ActFits w.program (function_of w.program caller.function).slots (function_of w.program caller.function).ret act → then_of x < length (places (function_of w.program caller.function))
    → ((a : Sort) → sort_of_type (home w).ret ≡ Some a → HasValue (count w.state) a v) → Keeps w.program (resumed w caller act x v)
unfolding HasSortsIn
resumed_keeps w outer caller (Do (stmt.Call to f args)) x v r is new stack call fits inside has =
    let p = w.program in
    let n = count w.state in
    let g = function_of p caller.function in
    let next = moved (then_of x) (set_result to v caller) in
    let was = stack_top p n outer caller stack in
    let same : next.function ≡ caller.function = set_result_function to v caller in
    let callee : slice_get p.functions f ≡ Some (home w) = ap (slice_get p.functions) call ∙ function_is p (top w).function (top_frame w w.state r).function in
    let takes = takes_result p g.slots to (slice_get p.functions f) (home w) args callee fits in
    let slots : Fits n g.slots next.slots = result_fits n g.slots (home w).ret to v caller takes has was.slots in
    let frame : ValidFrame p n next = record {
      function = subst (λ k. k < length p.functions) (sym same) was.function;
      place = subst (λ k. then_of x < length (places (function_of p k))) (sym same) inside;
      slots = subst (λ k. Fits n (function_of p k).slots next.slots) (sym same) slots;
    } in
    with_frames_valid p w.state w.thread w.frames (with_top (outer_of w.frames) next) r.valid r.at
    (subst (λ fs. ValidStack p n fs) (sym (new next)) (stack_same p n outer caller next same frame stack))
    (ap outermost (new next) ∙ (outermost_same outer caller next same ∙ (sym (outermost_more outer caller (top w))
    ∙ (ap (λ fs. outermost (fs ++ top w ∷ [])) (sym is) ∙ sym (ap outermost (split w.frames r.some))))))
resumed_keeps w outer caller _ x v r is new stack call fits inside has = r.valid

ended_keeps : (w : Acting) (v : ℤ) → Ready w w.state → Keeps w.program (ended w v)
ended_keeps w v r =
    let other = record w.state { threads = slice_set w.state.threads w.thread None } in
    if_keeps w.program (w.thread == 0) (Finished (cast_unsigned w32 v % 256)) (Done other) (λ _. tt) (λ e. ended_valid w.program w.state w.thread w.frames r.valid r.at (eqb-false w.thread 0 e))

returned_keeps : (w : Acting) (v : ℤ) → IsFormed w.program → Ready w w.state → ((a : Sort) → sort_of_type (home w).ret ≡ Some a → HasValue (count w.state) a v) → Keeps w.program (returned w v)
returned_keeps w v formed r has =
    let p = w.program in
    let outer = outer_of w.frames in
    let caller = top_of outer in
    let at = at_frame p caller in
    if_keeps p (length w.frames == 1) (ended w v) (resumed w caller at.act at.follow v) (λ _. ended_keeps w v r)
    (λ e.
    let more : length w.frames ≢ 1 = eqb-false (length w.frames) 1 e in
    let some : 0 < length outer = omega (arith, length-outer w.frames, more, r.some) in
    let is : outer ≡ outer_of outer ++ caller ∷ [] = split outer some in
    let less = stack_less p (count w.state) (outer_of outer) caller (top w) (subst (λ fs. ValidStack p (count w.state) (fs ++ top w ∷ [])) is (whole_stack w w.state r)) in
    let was = stack_top p (count w.state) (outer_of outer) caller less.0 in
    let g = function_of p caller.function in
    let here : at ≡ place_at g caller.place = where_is p caller was.function in
    resumed_keeps w (outer_of outer) caller at.act at.follow v r is (λ f. new_top outer f some) less.0
    (subst (λ q. IsCallOf (top w).function q.act) (sym here) less.1)
    (subst (λ q. ActFits p g.slots g.ret q.act) (sym here) (act_fits p caller.function caller.place formed was.function))
    (subst (λ q. then_of q.follow < length (places g)) (sym here) (follows_inside g caller.place was.place).0)
    has)

-- the statements
got_keeps : (w : Acting) (n slot : ℕ) (input : List ℕ) → Ready w w.state → n < length (places (home w)) → sort_of_slot (slice_get (home w).slots slot) ≡ Some int → Keeps w.program (got w n slot input)
got_keeps w n slot [] r h e = slot_keeps w n w.state slot (negsuc 0) int r h e tt
got_keeps w n slot (c ∷ rest) r h e =
    let next = record w.state { input = rest } in
    slot_keeps w n next slot (pos c) int (ready_with w w.state next r (input_valid w.program w.state rest r.valid) refl) h e tt

made_keeps : (w : Acting) (n slot owner : ℕ) → Ready w w.state → n < length (places (home w)) → sort_of_slot (slice_get (home w).slots slot) ≡ Some pointer → owner < length w.program.structs → Keeps w.program (made w n slot owner)
made_keeps w n slot owner r h e inside =
    let k = length w.state.heap.objects in
    let new : Object = record { owner = owner; fields = replicate (field_count w.program owner) (pos 0) } in
    let next = with_object w.state new in
    let more = length-append w.state.heap.objects (Some new ∷ []) in
    if_keeps w.program (nat_lt k max_objects) (goes w n next (set_slot slot (pos (k + 1)) (top w))) (Trapped trap.Objects)
    (λ b. slot_keeps w n next slot (pos (k + 1)) pointer (ready_with w w.state next r (with_object_valid w.program w.state owner r.valid inside (ltb-true k max_objects b)) refl) h e (omega (arith, more)))
    (λ _. tt)

wrote_keeps : (w : Acting) (n : ℕ) (bytes : List ℕ) → Ready w w.state → n < length (places (home w)) → Keeps w.program (wrote w n bytes)
wrote_keeps w n bytes r h =
    let out = w.state.output ++ bytes in
    let next = record w.state { output = out } in
    if_keeps w.program (nat_le (length out) max_output) (goes w n next (top w)) (Trapped trap.Output)
    (λ b. stays_keeps w n next (ready_with w w.state next r (output_valid w.program w.state out r.valid (leb-true (length out) max_output b)) refl) h)
    (λ _. tt)

freed_keeps : (w : Acting) (n : ℕ) (v : ℤ) → Ready w w.state → n < length (places (home w)) → Keeps w.program (freed w n v)
freed_keeps w n (pos zero) r h = stays_keeps w n w.state r h
freed_keeps w n (pos (suc i)) r h =
    let next = set_object w.state (index (pos (suc i)) - 1) None in
    on_keeps w.program (object w.state.heap.objects (pos (suc i))) (λ _. goes w n next (top w))
    (λ _ _. stays_keeps w n next (ready_with w w.state next r (set_object_valid w.program w.state (index (pos (suc i)) - 1) None r.valid tt) refl) h)
freed_keeps w n (negsuc i) r h = tt

call_of : (p : Lifted) (slots : List Slot) (to : Option ℕ) (f : ℕ) (o : Option LFunction) (args : List LExpr) → slice_get p.functions f ≡ o → IsCall p slots to o args → (f < length p.functions) × AreArguments p slots (parameters_of (function_of p f)) args
call_of p slots to f None args e h = absurd h
call_of p slots to f (Some g) args e h = (slice_get_within p.functions f g e, subst (λ g. AreArguments p slots (parameters_of g) args) (sym (function_told p f g e)) h.0)

called_keeps : (w : Acting) (f : ℕ) (vs : List ℤ) → Ready w w.state → f < length w.program.functions → Calls w.program (top w) f → Fits (count w.state) (parameters_of (function_of w.program f)) vs → Keeps w.program (called w f vs)
called_keeps w f vs r inside calls fits =
    let p = w.program in
    let n = count w.state in
    let new = fresh p f vs in
    let outer = outer_of w.frames in
    let is = split w.frames r.some in
    let frame = fresh_valid p n f (function_of p f).params vs inside fits in
    if_keeps p (nat_lt (length w.frames) max_frames) (Done (with_frames w.state w.thread (w.frames ++ new ∷ []))) (Trapped trap.Frames)
    (λ b.
    let few : length w.frames < max_frames = ltb-true (length w.frames) max_frames b in
    let whole = stack_more p n outer (top w) new calls frame (subst (λ fs. length fs < max_frames) is few) (whole_stack w w.state r) in
    with_frames_valid p w.state w.thread w.frames (w.frames ++ new ∷ []) r.valid r.at
    (subst (λ fs. ValidStack p n (fs ++ new ∷ [])) (sym is) whole)
    (ap (λ fs. outermost (fs ++ new ∷ [])) is ∙ (outermost_more outer (top w) new ∙ sym (ap outermost is))))
    (λ _. tt)

-- a started thread
get_front : {A : Type 0} (xs ys : List A) (i : ℕ) (x : A) → slice_get xs i ≡ Some x → slice_get (xs ++ ys) i ≡ Some x
get_front [] ys i x e = absurd (let k : ⊥ = cc in k)
get_front (a ∷ xs) ys zero x e = e
get_front (a ∷ xs) ys (suc i) x e = get_front xs ys i x e

start_of : (p : Lifted) (f : ℕ) (o : Option LFunction) → slice_get p.functions f ≡ o → HasStartForm o → (f < length p.functions) × CanStart (function_of p f)
start_of p f None e h = absurd h
start_of p f (Some g) e h = (slice_get_within p.functions f g e, subst CanStart (sym (function_told p f g e)) h)

any_pointer : (t : Ty) → is_any_pointer t ≡ true → t ≡ ty.AnyPtr
any_pointer ty.AnyPtr e = refl
any_pointer ty.Int e = cc
any_pointer ty.Thread e = cc
any_pointer ty.Void e = cc
any_pointer (ty.Ptr a) e = cc

one_pointer : (xs : List Slot) → takes_one_pointer xs ≡ true → map (λ q. q.ty) xs ≡ ty.AnyPtr ∷ []
one_pointer [] e = cc
one_pointer (x ∷ []) e = ap (λ t. t ∷ []) (any_pointer x.ty e)
one_pointer (x ∷ y ∷ rest) e = cc

both_true : (a b : Bool) → (a && b) ≡ true → (a ≡ true) × (b ≡ true)
both_true true true e = (refl, refl)
both_true true false e = absurd (let k : ⊥ = cc in k)
both_true false b e = absurd (let k : ⊥ = cc in k)

spawned_keeps : (w : Acting) (n : ℕ) (to : Location) (f : ℕ) (v : ℤ) → IsFormed w.program → Ready w w.state → n < length (places (home w)) → LocationFits w.program (home w).slots thread to → HasStartForm (slice_get w.program.functions f) → HasValue (count w.state) pointer v
    → Keeps w.program (spawned w n to f v)
spawned_keeps w n to f v formed r h spot form has =
    let p = w.program in
    let k = count w.state in
    let g = function_of p f in
    let number = length w.state.threads in
    let new = fresh p f (v ∷ []) in
    let next = with_thread w.state (new ∷ []) in
    let s = start_of p f (slice_get p.functions f) refl form in
    let takes = one_pointer (parameters_of g) (both_true (is_any_pointer g.ret) (takes_one_pointer (parameters_of g)) s.1).1 in
    let frame = fresh_valid p k f g.params (v ∷ []) s.0 (argument_fits k (parameters_of g) ty.AnyPtr v takes (pointer_refers k ty.AnyPtr v has)) in
    if_keeps p (nat_lt (live_count w.state) max_live && nat_lt number max_threads) (store w n next to (pos number)) (Trapped trap.Threads)
    (λ b.
    let room = both_true (nat_lt (live_count w.state) max_live) (nat_lt number max_threads) b in
    let valid = with_thread_valid p w.state (new ∷ []) r.valid (stack_of_one p k new frame) s.1 (ltb-true (live_count w.state) max_live room.0) (ltb-true number max_threads room.1) in
    store_keeps w n next thread to (pos number) (record { valid = valid; at = get_front w.state.threads (Some (new ∷ []) ∷ []) w.thread (Some w.frames) r.at; some = r.some }) h spot tt)
    (λ _. tt)

joined_keeps : (w : Acting) (n : ℕ) (v : ℤ) → Ready w w.state → n < length (places (home w)) → Keeps w.program (joined w n v)
joined_keeps w n (pos u) r h =
    let go = goes w n w.state (top w) in
    let last = (if nat_lt u (length w.state.threads) then go else Trapped trap.Join) in
    let rest = (if is_live w.state u then Blocked else last) in
    if_keeps w.program (u == w.thread) (Trapped trap.Join) rest (λ _. tt)
    (λ _. if_keeps w.program (is_live w.state u) Blocked last (λ _. tt)
    (λ _. if_keeps w.program (nat_lt u (length w.state.threads)) go (Trapped trap.Join) (λ _. stays_keeps w n w.state r h) (λ _. tt)))
joined_keeps w n (negsuc u) r h = tt

mutex_keeps : (w : Acting) (n m : ℕ) (o : Option ℕ) → Ready w w.state → n < length (places (home w)) → MatchOption o ⊤ (λ t. t < length w.state.threads) → Keeps w.program (goes w n (record w.state { mutexes = slice_set w.state.mutexes m o }) (top w))
mutex_keeps w n m o r h within =
    let next = record w.state { mutexes = slice_set w.state.mutexes m o } in
    stays_keeps w n next (ready_with w w.state next r (mutexes_valid w.program w.state m o r.valid within) refl) h

locked_keeps : (w : Acting) (n m : ℕ) (o : Option ℕ) → Ready w w.state → n < length (places (home w)) → Keeps w.program (locked w n m o)
locked_keeps w n m None r h = mutex_keeps w n m (Some w.thread) r h (slice_get_within w.state.threads w.thread (Some w.frames) r.at)
locked_keeps w n m (Some owner) r h = if_keeps w.program (owner == w.thread) (Trapped trap.Relock) Blocked (λ _. tt) (λ _. tt)

unlocked_keeps : (w : Acting) (n m : ℕ) (o : Option ℕ) → Ready w w.state → n < length (places (home w)) → Keeps w.program (unlocked w n m o)
unlocked_keeps w n m None r h = tt
unlocked_keeps w n m (Some owner) r h =
    if_keeps w.program (owner == w.thread) (goes w n (record w.state { mutexes = slice_set w.state.mutexes m None }) (top w)) (Trapped trap.Unlock) (λ _. mutex_keeps w n m None r h tt) (λ _. tt)

done_keeps : (w : Acting) (n : ℕ) (x : LStmt) → IsFormed w.program → Ready w w.state → n < length (places (home w)) → (place_at (home w) (top w).place).act ≡ Do x → HasSortsIn w.program (home w).slots (home w).ret x → Keeps w.program (done w n x)
unfolding HasSortsIn
done_keeps w n (stmt.Assign to e) formed r h is fits =
    let s = asked (sort_at w.program (home w).slots to) (sort_of w.program (home w).slots e) fits in
    on_keeps w.program (location_in w to) (λ a. on (value_in w e) (λ v. store w n w.state a v))
    (λ a at. on_keeps w.program (value_in w e) (λ v. store w n w.state a v)
    (λ v is. store_keeps w n w.state s.0 a v r h (location_has w s.0 to a s.1 at) (value_has w s.0 e v r s.2 is)))
done_keeps w n (stmt.New slot owner) formed r h is fits = made_keeps w n slot owner r h fits.0 fits.1
done_keeps w n (stmt.Getc slot) formed r h is fits = got_keeps w n slot w.state.input r h fits
done_keeps w n (stmt.Print text args) formed r h is fits = on_keeps w.program (values_in w args) (λ vs. wrote w n (printed text vs)) (λ vs _. wrote_keeps w n (printed text vs) r h)
done_keeps w n (stmt.Free e) formed r h is fits = on_keeps w.program (value_in w e) (λ v. freed w n v) (λ v _. freed_keeps w n v r h)
done_keeps w n (stmt.Call to f args) formed r h is fits =
    let p = w.program in
    let k = count w.state in
    let c = call_of p (home w).slots to f (slice_get p.functions f) args refl fits in
    let params = parameters_of (function_of p f) in
    on_keeps p (values_in w args) (λ vs. called w f vs)
    (λ vs e. called_keeps w f vs r c.0 (subst (λ a. IsCallOf f a) (sym is) refl) (held (λ vs. Fits k params vs) (values_in w args) vs (values_fit p (home w).slots k (view_of w.state (top w)) (beside w r) params args c.1) e))
done_keeps w n (stmt.Spawn to f e) formed r h is fits =
    on_keeps w.program (location_in w to) (λ a. on (value_in w e) (λ v. spawned w n a f v))
    (λ a at. on_keeps w.program (value_in w e) (λ v. spawned w n a f v)
    (λ v is. spawned_keeps w n a f v formed r h (location_has w thread to a fits.0 at) fits.1 (value_has w pointer e v r fits.2 is)))
done_keeps w n (stmt.Join e) formed r h is fits = on_keeps w.program (value_in w e) (λ v. joined w n v) (λ v _. joined_keeps w n v r h)
done_keeps w n (stmt.Lock m) formed r h is fits = locked_keeps w n m (slice_index_or w.state.mutexes m None) r h
done_keeps w n (stmt.Unlock m) formed r h is fits = unlocked_keeps w n m (slice_index_or w.state.mutexes m None) r h
done_keeps w n (stmt.Return None) formed r h is fits = returned_keeps w (pos 0) formed r (λ a _. zero_has (count w.state) a)
done_keeps w n (stmt.Return (Some e)) formed r h is fits =
    let s = asked (sort_of_type (home w).ret) (sort_of w.program (home w).slots e) fits in
    on_keeps w.program (value_in w e) (λ v. returned w v)
    (λ v is. returned_keeps w v formed r (λ a q. value_has w a e v r (s.2 ∙ (sym s.1 ∙ q)) is))
done_keeps w n _ formed r h is fits = r.valid

acted_keeps : (w : Acting) (a : Act) (x : Follow) → IsFormed w.program → Ready w w.state → (place_at (home w) (top w).place).act ≡ a → ActFits w.program (home w).slots (home w).ret a
    → then_of x < length (places (home w)) → else_of x < length (places (home w)) → Keeps w.program (acted w a x)
acted_keeps w Enter x formed r is fits when_true when_false = stays_keeps w (then_of x) w.state r when_true
acted_keeps w (Do t) x formed r is fits when_true when_false = done_keeps w (then_of x) t formed r when_true is fits
acted_keeps w (Test e) x formed r is fits when_true when_false =
    on_keeps w.program (value_in w e) (λ v. goes w (if is_true v then then_of x else else_of x) w.state (top w)) (λ v _. stays_keeps w (if is_true v then then_of x else else_of x) w.state r (one (is_true v))) where
      one : (b : Bool) → (if b then then_of x else else_of x) < length (places (home w))
      one true = when_true
      one false = when_false
acted_keeps w EndLoop x formed r is fits when_true when_false = stays_keeps w (then_of x) w.state r when_true
acted_keeps w Finish x formed r is fits when_true when_false = returned_keeps w (pos 0) formed r (λ a _. zero_has (count w.state) a)

step_keeps : (p : Lifted) (t : ℕ) (s : State) → IsFormed p → Valid p s → Keeps p (step p t s)
step_keeps p t s formed valid =
    let w = acting p t s in
    let f = top w in
    let at = at_frame p f in
    if_keeps p (is_live s t) (acted w at.act at.follow) Blocked
    (λ live.
    let frames = frames_of_live s t live in
    let r : Ready w s = record { valid = valid; at = frames.0; some = frames.1 } in
    let was = top_frame w s r in
    let g = function_of p f.function in
    let here : at ≡ place_at g f.place = where_is p f was.function in
    let follows = follows_inside g f.place was.place in
    acted_keeps w at.act at.follow formed r (sym (ap (λ q. q.act) here))
    (subst (λ q. ActFits p g.slots g.ret q.act) (sym here) (act_fits p f.function f.place formed was.function))
    (subst (λ q. then_of q.follow < length (places g)) (sym here) follows.0)
    (subst (λ q. else_of q.follow < length (places g)) (sym here) follows.1))
    (λ _. tt)

pub step_is_valid : (p : Lifted) (t : ℕ) (s next : State) → IsFormed p → Valid p s → step p t s ≡ Done next → Valid p next
step_is_valid p t s next formed valid e = subst (λ o. Keeps p o) e (step_keeps p t s formed valid)
