-- The accesses against a step, and against other threads.
use Rattle.std.proofs.Common.{◌≡◌, ℕ, zero, suc, ◌+◌, ◌<◌, ℤ, pos, negsuc, Bool, true, false, List, [], ◌∷◌, ◌++◌, length, replicate, Option, Some, None, Result, Ok, Err, refl, ap, sym, ◌∙◌, arith}
use Rattle.std.specs.Prelude.{◌==◌, nat_lt, nat_le, if◌then◌else◌, slice_index_or}
use Rattle.std.proofs.lemmas.Bool.Decides.{nat_tests}
use Rattle.std.proofs.Math.ListN.{get_or-map}
use Rattle.c_tree.proofs.ValueLemmas.{value-Global}
use Rattle.c_tree.specs.declared.lifted.Lifted.{Lifted}
use Rattle.c_tree.specs.declared.lifted.LStruct.{LStruct}
use Rattle.c_tree.specs.declared.state.Frame.{Frame}
use Rattle.c_tree.specs.declared.state.State.{State}
use Rattle.c_tree.specs.declared.state.Trap.{Trap}
use Rattle.c_tree.specs.declared.state.Trap.TheVariants as trap
use Rattle.c_tree.specs.Value.{and_then, element, object, object_of}
use Rattle.c_tree.specs.Step as step
use Rattle.c_tree.specs.Limits.{max_objects, max_output}
use Rattle.c_tree.specs.Step.{Acting, Outcome, Trapped, Blocked, on, goes, top, set_slot, field_count}
use Rattle.store_mem.specs.Access.{values_of, written, set_scalar, field_written, made, freed, locked, locked_from, unlocked, unlocked_from, got, got_from, put, holder_of}
use Rattle.store_mem.specs.Laws as law
use Rattle.store_mem.specs.Laws.{with_threads}
use Rattle.store_mem.specs.Memory.{field_counts}

-- results
then_ok : {A B C : Type 0} (r : Result A Trap) (f : A → B) (g : B → C) → and_then r (λ a. Ok (g (f a))) ≡ and_then (and_then r (λ a. Ok (f a))) (λ b. Ok (g b))
then_ok (Ok a) f g = refl
then_ok (Err c) f g = refl

on_then : {A B : Type 0} (r : Result A Trap) (f : A → B) (go : B → Outcome) → on r (λ a. go (f a)) ≡ on (and_then r (λ a. Ok (f a))) go
on_then (Ok a) f go = refl
on_then (Err c) f go = refl

on_same : {A : Type 0} (r : Result A Trap) (g h : A → Outcome) → ((a : A) → g a ≡ h a) → on r g ≡ on r h
on_same (Ok a) g h e = e a
on_same (Err c) g h e = refl

pub on_if : {A : Type 0} (b : Bool) (x : A) (c : Trap) (go : A → Outcome) → (if b then go x else Trapped c) ≡ on (if b then Ok x else Err c) go
on_if true x c go = refl
on_if false x c go = refl

on_else : {A : Type 0} (b : Bool) (x : A) (c : Trap) (go : A → Outcome) → (if b then Trapped c else go x) ≡ on (if b then Err c else Ok x) go
on_else true x c go = refl
on_else false x c go = refl

then_if : {A B : Type 0} (b : Bool) (x : A) (c : Trap) (f : A → B) → (if b then Ok (f x) else Err c) ≡ and_then (if b then Ok x else Err c) (λ a. Ok (f a))
then_if true x c f = refl
then_if false x c f = refl

then_else : {A B : Type 0} (b : Bool) (x : A) (c : Trap) (f : A → B) → (if b then Err c else Ok (f x)) ≡ and_then (if b then Err c else Ok x) (λ a. Ok (f a))
then_else true x c f = refl
then_else false x c f = refl

first : (xs : List ℤ) → 0 < length xs → element xs (pos 0) ≡ Ok (slice_index_or xs 0 (pos 0))
first xs h = ap (λ b. if b then Ok (slice_index_or xs 0 (pos 0)) else Err trap.Bounds) (let t : nat_lt 0 (length xs) ≡ true = grind (arith, nat_tests) in t)

-- a step makes these accesses
pub reads-first : law.ReadsFirst
reads-first st f g h = first (values_of st g) h ∙ sym (value-Global (step.view_of st f) g)

pub stores-element : law.StoresElement
stores-element st g at f v = then_ok (element (values_of st g) at) _ _

pub stores-first : law.StoresFirst
stores-first st g h f v = ap (λ r. and_then (and_then r (λ _. Ok (step.set_global st g 0 v))) (λ next. let out : Result (State × Frame) Trap = Ok (next, f) in out)) (sym (first (values_of st g) h))

pub sets-scalar : law.SetsScalar
sets-scalar st g f v = refl

pub stores-field : law.StoresField
stores-field st o owner field f v = then_ok (object_of st.heap.objects o owner) _ _

counted : (p : Lifted) (owner : ℕ) → field_count p owner ≡ slice_index_or (field_counts p) owner 0
counted p owner = sym (get_or-map (λ (s : LStruct). length s.fields) p.structs owner (record { name = []; fields = [] }))

pub makes-object : law.MakesObject
makes-object w n slot owner =
    let count = length w.state.heap.objects in
    let new : ℕ → ℤ × State = λ k. (pos (count + 1), step.with_object w.state (record { owner = owner; fields = replicate k (pos 0) })) in
    let go : ℤ × State → Outcome = λ r. goes w n r.1 (set_slot slot r.0 (top w)) in
    ap (λ k. if nat_lt count max_objects then go (new k) else Trapped trap.Objects) (counted w.program owner)
    ∙ on_if (nat_lt count max_objects) (new (slice_index_or (field_counts w.program) owner 0)) trap.Objects go

got_step : (w : Acting) (n slot : ℕ) (input : List ℕ) → step.got w n slot input ≡ goes w n (got_from w.state input).1 (set_slot slot (got_from w.state input).0 (top w))
got_step w n slot [] = refl
got_step w n slot (c ∷ rest) = refl

pub gets-byte : law.GetsByte
gets-byte w n slot = got_step w n slot w.state.input

pub puts-text : law.PutsText
puts-text w n text args = on_same (step.values_in w args) _ _ (λ vs. on_if (nat_le (length (w.state.output ++ step.printed text vs)) max_output) _ _ _)

freed_step : (w : Acting) (n : ℕ) (o : ℤ) → step.freed w n o ≡ on (freed w.state o) (λ next. goes w n next (top w))
freed_step w n (pos zero) = refl
freed_step w n (pos (suc k)) = on_then (object w.state.heap.objects (pos (suc k))) _ _
freed_step w n (negsuc k) = refl

pub frees-object : law.FreesObject
frees-object w n x = on_same (step.value_in w x) _ _ (freed_step w n)

locked_step : (w : Acting) (n m : ℕ) (h : Option ℕ) → step.locked w n m h ≡ on (locked_from w.state m w.thread h) (λ r. if r.0 then goes w n r.1 (top w) else Blocked)
locked_step w n m None = refl
locked_step w n m (Some owner) = on_else (owner == w.thread) (false, w.state) trap.Relock (λ r. if r.0 then goes w n r.1 (top w) else Blocked)

pub locks-mutex : law.LocksMutex
locks-mutex w n m = locked_step w n m (holder_of w.state m)

unlocked_step : (w : Acting) (n m : ℕ) (h : Option ℕ) → step.unlocked w n m h ≡ on (unlocked_from w.state m w.thread h) (λ next. goes w n next (top w))
unlocked_step w n m None = refl
unlocked_step w n m (Some owner) = on_if (owner == w.thread) _ _ _

pub unlocks-mutex : law.UnlocksMutex
unlocks-mutex w n m = unlocked_step w n m (holder_of w.state m)

-- threads play no part
pub written-threads : (g : ℕ) (at v : ℤ) → law.IgnoresThreads (λ s. written s g at v)
written-threads g at v ts st = then_ok (element (values_of st g) at) _ _

pub set_scalar-threads : (g : ℕ) (v : ℤ) → law.IgnoresThreads (λ s. Ok (set_scalar s g v))
set_scalar-threads g v ts st = refl

pub field_written-threads : (o : ℤ) (owner field : ℕ) (v : ℤ) → law.IgnoresThreads (λ s. field_written s o owner field v)
field_written-threads o owner field v ts st = then_ok (object_of st.heap.objects o owner) _ _

pub made-threads : (fields : List ℕ) (owner : ℕ) → law.GivesIgnoringThreads (λ s. made fields s owner)
made-threads fields owner ts st = then_if (nat_lt (length st.heap.objects) max_objects) _ _ _

pub freed-threads : (o : ℤ) → law.IgnoresThreads (λ s. freed s o)
freed-threads (pos zero) ts st = refl
freed-threads (pos (suc k)) ts st = then_ok (object st.heap.objects (pos (suc k))) _ _
freed-threads (negsuc k) ts st = refl

locked_from-threads : (m t : ℕ) (h : Option ℕ) → law.GivesIgnoringThreads (λ s. locked_from s m t h)
locked_from-threads m t None ts st = refl
locked_from-threads m t (Some owner) ts st = then_else (owner == t) _ _ _

pub locked-threads : (m t : ℕ) → law.GivesIgnoringThreads (λ s. locked s m t)
locked-threads m t ts st = locked_from-threads m t (holder_of st m) ts st

unlocked_from-threads : (m t : ℕ) (h : Option ℕ) → law.IgnoresThreads (λ s. unlocked_from s m t h)
unlocked_from-threads m t None ts st = refl
unlocked_from-threads m t (Some owner) ts st = then_if (owner == t) _ _ _

pub unlocked-threads : (m t : ℕ) → law.IgnoresThreads (λ s. unlocked s m t)
unlocked-threads m t ts st = unlocked_from-threads m t (holder_of st m) ts st

got_from-threads : (input : List ℕ) → law.GivesIgnoringThreads (λ s. Ok (got_from s input))
got_from-threads [] ts st = refl
got_from-threads (c ∷ rest) ts st = refl

pub got-threads : law.GivesIgnoringThreads (λ s. Ok (got s))
got-threads ts st = got_from-threads st.input ts st

pub put-threads : (text : List ℕ) → law.IgnoresThreads (λ s. put s text)
put-threads text ts st = then_if (nat_le (length (st.output ++ text)) max_output) _ _ _
