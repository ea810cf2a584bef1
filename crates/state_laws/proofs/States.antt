-- States that stay valid as their parts change.
use Rattle.std.proofs.Common.{◌≡◌, ◌≢◌, ℕ, zero, suc, ◌+◌, ◌<◌, ◌≤◌, ℤ, pos, cond, is_some, List, [], ◌∷◌, ◌++◌, length, replicate, Option, Some, None, refl, sym, ap, subst, arith, ◌∙◌, length-append, sum_by, count_by}
use Rattle.std.specs.Prelude.{slice_get, slice_index_or, slice_set, ⊤, All, MatchOption}
use Rattle.std.proofs.lemmas.List.{length-set}
use Rattle.std.proofs.lemmas.List.Elements.{All-set, All-push, All-weaker}
use Rattle.std.proofs.lemmas.List.Sums.{sum_by-set, sum_by_push}
use Rattle.std.proofs.lemmas.Option.{slice_get_within, get_or_from_slice_get}
use Rattle.c_tree.specs.declared.lifted.LGlobal.{LGlobal}
use Rattle.c_tree.specs.declared.lifted.Lifted.{Lifted}
use Rattle.c_tree.specs.declared.state.Frame.{Frame}
use Rattle.c_tree.specs.declared.state.Object.{Object}
use Rattle.c_tree.specs.declared.state.State.{State}
use Rattle.c_tree.specs.Formed.{Sort, sort_of_type, sort_of_slot, fields_in}
use Rattle.c_tree.specs.Step.{function_of, field_count, with_frames, with_thread, set_global, set_object, set_field, with_field, with_object, live_count}
use Rattle.c_tree.specs.Limits.{max_live, max_threads, max_objects, max_output}
use Rattle.c_tree.specs.Valid.{Refers, Fits, ValidStack, ValidObject, ValidGlobal, StartsAreKept, outermost, Valid}
use Rattle.c_tree.specs.StartForm.{CanStart}
use Rattle.state_laws.proofs.Zips.{all_at, zip_at, zip_set, zip_weaker}
use Rattle.state_laws.proofs.Refers.{HasValue, has_refers, refers_more, fits_more, slot_set, zeros_fit}
use Rattle.state_laws.proofs.Values.{same_fields, field_slots}
use Rattle.state_laws.proofs.Stacks.{stack_grows}

-- what is said of an item that may be there
abbrev pub Where : {A : Type 0} → (A → Type 0) → Option A → Type 0
Where P o = MatchOption o ⊤ P

where_weaker : {A : Type 0} (P Q : A → Type 0) → ((x : A) → P x → Q x) → (o : Option A) → Where P o → Where Q o
where_weaker P Q f None h = tt
where_weaker P Q f (Some x) h = f x h

all_where : {A : Type 0} (P Q : A → Type 0) (xs : List (Option A)) → ((x : A) → P x → Q x) → All (Where P) xs → All (Where Q) xs
all_where P Q xs f h = All-weaker (Where P) (Where Q) (where_weaker P Q f) xs h

-- the same threads start
others_set : (p : Lifted) (ts : List (Option (List Frame))) (t : ℕ) (old new : List Frame) → slice_get ts t ≡ Some (Some old) → outermost new ≡ outermost old → StartsAreKept p ts → StartsAreKept p (slice_set ts t (Some new))
others_set p [] t old new e o h = absurd h
others_set p (main ∷ others) zero old new e o h =
    let same : main ≡ Some old = cc in
    let starts : outermost old ≡ p.main = subst (λ m. MatchOption m ⊥ (λ frames. outermost frames ≡ p.main)) same h.0 in
    (o ∙ starts, h.1)
others_set p (main ∷ others) (suc t) old new e o h =
    let starts : CanStart (function_of p (outermost old)) = all_at (Where (λ frames. CanStart (function_of p (outermost frames)))) others t (Some old) h.1 e in
    (h.0, All-set (Where (λ frames. CanStart (function_of p (outermost frames)))) others t (Some new) (subst (λ f. CanStart (function_of p f)) (sym o) starts) h.1)

others_end : (p : Lifted) (ts : List (Option (List Frame))) (t : ℕ) → t ≢ 0 → StartsAreKept p ts → StartsAreKept p (slice_set ts t None)
others_end p [] t some h = absurd h
others_end p (main ∷ others) zero some h = absurd (some refl)
others_end p (main ∷ others) (suc t) some h = (h.0, All-set (Where (λ frames. CanStart (function_of p (outermost frames)))) others t None tt h.1)

others_more : (p : Lifted) (ts : List (Option (List Frame))) (new : List Frame) → CanStart (function_of p (outermost new)) → StartsAreKept p ts → StartsAreKept p (ts ++ Some new ∷ [])
others_more p [] new can h = absurd h
others_more p (main ∷ others) new can h = (h.0, All-push (Where (λ frames. CanStart (function_of p (outermost frames)))) others (Some new) h.1 can)

-- no more threads live
one_at_most : {A : Type 0} (o : Option A) → cond (is_some o) 1 0 ≤ 1
one_at_most (Some x) = omega arith
one_at_most None = omega arith

live_set : (ts : List (Option (List Frame))) (t : ℕ) (old : List Frame) (new : Option (List Frame)) → slice_get ts t ≡ Some (Some old) → count_by (λ o. is_some o) (slice_set ts t new) ≤ count_by (λ o. is_some o) ts
live_set ts t old new e =
    let f = λ (o : Option (List Frame)). cond (is_some o) 1 0 in
    let change : sum_by f (slice_set ts t new) + f (slice_index_or ts t None) ≡ sum_by f ts + f new = sum_by-set f ts t new None (slice_get_within ts t (Some old) e) in
    let was : f (slice_index_or ts t None) ≡ 1 = ap f (get_or_from_slice_get ts t (Some old) None e) in
    let now : f new ≤ 1 = one_at_most new in
    omega (arith, change, was, now)

live_more : (ts : List (Option (List Frame))) (new : List Frame) → count_by (λ o. is_some o) (ts ++ Some new ∷ []) ≡ count_by (λ o. is_some o) ts + 1
live_more ts new = sum_by_push (λ o. cond (is_some o) 1 0) ts (Some new)

-- other threads
threads_valid : (p : Lifted) (s : State) (ts : List (Option (List Frame))) → Valid p s → StartsAreKept p ts → All (Where (λ frames. ValidStack p (length s.heap.objects) frames)) ts
    → count_by (λ o. is_some o) ts ≤ 64 → length ts ≤ 1000 → length s.threads ≤ length ts → Valid p (record s { threads = ts })
threads_valid p s ts v starts stacks live few more = record {
  starts = starts;
  stacks = stacks;
  globals = v.globals;
  objects = v.objects;
  mutexes = v.mutexes;
  owners = all_where (λ t. t < length s.threads) (λ t. t < length ts) s.mutexes (λ t h. omega (arith, h, more)) v.owners;
  live = live;
  threads = few;
  made = v.made;
  printed = v.printed;
}

pub with_frames_valid : (p : Lifted) (s : State) (t : ℕ) (old new : List Frame) → Valid p s → slice_get s.threads t ≡ Some (Some old) → ValidStack p (length s.heap.objects) new → outermost new ≡ outermost old → Valid p (with_frames s t new)
with_frames_valid p s t old new v e stack o =
    let same = length-set s.threads t (Some new) in
    let fewer = live_set s.threads t old (Some new) e in
    let live : count_by (λ o. is_some o) s.threads ≤ 64 = v.live in
    let few : length s.threads ≤ 1000 = v.threads in
    threads_valid p s (slice_set s.threads t (Some new)) v (others_set p s.threads t old new e o v.starts)
    (All-set (Where (λ frames. ValidStack p (length s.heap.objects) frames)) s.threads t (Some new) stack v.stacks)
    (omega (arith, fewer, live)) (omega (arith, same, few)) (omega (arith, same))

pub ended_valid : (p : Lifted) (s : State) (t : ℕ) (old : List Frame) → Valid p s → slice_get s.threads t ≡ Some (Some old) → t ≢ 0 → Valid p (record s { threads = slice_set s.threads t None })
ended_valid p s t old v e some =
    let same = length-set s.threads t None in
    let fewer = live_set s.threads t old None e in
    let live : count_by (λ o. is_some o) s.threads ≤ 64 = v.live in
    let few : length s.threads ≤ 1000 = v.threads in
    threads_valid p s (slice_set s.threads t None) v (others_end p s.threads t some v.starts)
    (All-set (Where (λ frames. ValidStack p (length s.heap.objects) frames)) s.threads t None tt v.stacks)
    (omega (arith, fewer, live)) (omega (arith, same, few)) (omega (arith, same))

pub with_thread_valid : (p : Lifted) (s : State) (new : List Frame) → Valid p s → ValidStack p (length s.heap.objects) new → CanStart (function_of p (outermost new)) → live_count s < max_live → length s.threads < max_threads → Valid p (with_thread s new)
with_thread_valid p s new v stack can live few =
    let more = length-append s.threads (Some new ∷ []) in
    let one = live_more s.threads new in
    let below : count_by (λ o. is_some o) s.threads < 64 = live in
    let under : length s.threads < 1000 = few in
    threads_valid p s (s.threads ++ Some new ∷ []) v (others_more p s.threads new can v.starts)
    (All-push (Where (λ frames. ValidStack p (length s.heap.objects) frames)) s.threads (Some new) v.stacks stack)
    (omega (arith, one, below)) (omega (arith, more, under)) (omega (arith, more))

-- another global
pub set_global_valid : (p : Lifted) (s : State) (g i : ℕ) (v : ℤ) (q : LGlobal) (a : Sort) → Valid p s → slice_get p.globals g ≡ Some q → sort_of_type q.ty ≡ Some a → HasValue (length s.heap.objects) a v → Valid p (set_global s g i v)
set_global_valid p s g i v q a valid e sort has =
    let n = length s.heap.objects in
    let words = slice_index_or s.globals g [] in
    let was : ValidGlobal n q words = zip_at (λ g values. ValidGlobal n g values) p.globals s.globals g q [] valid.globals e in
    let now : ValidGlobal n q (slice_set words i v) = record {
      long = length-set words i v ∙ was.long;
      refers = All-set (λ v. Refers n q.ty v) words i v (has_refers n q.ty a v sort has) was.refers;
    } in
    record {
      starts = valid.starts;
      stacks = valid.stacks;
      globals = zip_set (λ g values. ValidGlobal n g values) p.globals s.globals g (slice_set words i v) valid.globals (λ x f. subst (λ x. ValidGlobal n x (slice_set words i v)) (let same : q ≡ x = cc in same) now);
      objects = valid.objects;
      mutexes = valid.mutexes;
      owners = valid.owners;
      live = valid.live;
      threads = valid.threads;
      made = valid.made;
      printed = valid.printed;
    }

-- other objects, no fewer
objects_valid : (p : Lifted) (s : State) (os : List (Option Object)) → Valid p s → length s.heap.objects ≤ length os → length os ≤ max_objects → All (Where (λ o. ValidObject p (length os) o)) os
    → Valid p (record s { heap = record { objects = os } })
objects_valid p s os v more few all = record {
  starts = v.starts;
  stacks = all_where (λ frames. ValidStack p (length s.heap.objects) frames) (λ frames. ValidStack p (length os) frames) s.threads (λ frames h. stack_grows p (length s.heap.objects) (length os) frames more h) v.stacks;
  globals = zip_weaker (λ g values. ValidGlobal (length s.heap.objects) g values) (λ g values. ValidGlobal (length os) g values) p.globals s.globals (λ g values h. global_grows (length s.heap.objects) (length os) g values more h) v.globals;
  objects = all;
  mutexes = v.mutexes;
  owners = v.owners;
  live = v.live;
  threads = v.threads;
  made = few;
  printed = v.printed;
} where
  global_grows : (n m : ℕ) (g : LGlobal) (values : List ℤ) → n ≤ m → ValidGlobal n g values → ValidGlobal m g values
  global_grows n m g values h v = record { long = v.long; refers = All-weaker (λ v. Refers n g.ty v) (λ v. Refers m g.ty v) (λ w r. refers_more n m g.ty w h r) values v.refers }

pub set_object_valid : (p : Lifted) (s : State) (i : ℕ) (o : Option Object) → Valid p s → Where (λ o. ValidObject p (length s.heap.objects) o) o → Valid p (set_object s i o)
set_object_valid p s i o v h =
    let os = s.heap.objects in
    let same = length-set os i o in
    let few : length os ≤ 1000000 = v.made in
    objects_valid p s (slice_set os i o) v (omega (arith, same)) (omega (arith, same, few))
    (subst (λ n. All (Where (λ o. ValidObject p n o)) (slice_set os i o)) (sym same) (All-set (Where (λ o. ValidObject p (length os) o)) os i o h v.objects))

-- another value in a field
field_valid : (p : Lifted) (n owner field : ℕ) (v : ℤ) (o : Object) (a : Sort) → ValidObject p n o → o.owner ≡ owner → sort_of_slot (slice_get (fields_in (slice_get p.structs owner)) field) ≡ Some a → HasValue n a v
    → ValidObject p n (record o { fields = slice_set o.fields field v })
field_valid p n owner field v o a valid e s has =
    let slots = fields_in (slice_get p.structs owner) in
    let fits : Fits n slots (slice_set o.fields field v) = slot_set n slots o.fields field v a (field_slots p n owner o valid e) s has in
    record {
      owner = valid.owner;
      fields = subst (λ k. Fits n (slice_index_or p.structs k (record { name = []; fields = [] })).fields (slice_set o.fields field v)) (sym e)
          (subst (λ q. Fits n q (slice_set o.fields field v)) (same_fields p.structs owner) fits);
    }

pub set_field_valid : (p : Lifted) (s : State) (i owner field : ℕ) (v : ℤ) (o : Object) (a : Sort) → Valid p s → slice_get s.heap.objects i ≡ Some (Some o) → o.owner ≡ owner
    → sort_of_slot (slice_get (fields_in (slice_get p.structs owner)) field) ≡ Some a → HasValue (length s.heap.objects) a v → Valid p (set_field s i field v)
set_field_valid p s i owner field v o a valid at e sort has =
    let n = length s.heap.objects in
    let was : ValidObject p n o = all_at (Where (λ o. ValidObject p n o)) s.heap.objects i (Some o) valid.objects at in
    set_object_valid p s i (with_field field v (slice_index_or s.heap.objects i None)) valid
    (subst (λ x. Where (λ o. ValidObject p n o) (with_field field v x)) (sym (get_or_from_slice_get s.heap.objects i (Some o) None at)) (field_valid p n owner field v o a was e sort has))

-- a new object
pub with_object_valid : (p : Lifted) (s : State) (owner : ℕ) → Valid p s → owner < length p.structs → length s.heap.objects < max_objects → Valid p (with_object s (record { owner = owner; fields = replicate (field_count p owner) (pos 0) }))
with_object_valid p s owner v h few =
    let os = s.heap.objects in
    let new : Object = record { owner = owner; fields = replicate (field_count p owner) (pos 0) } in
    let more = length-append os (Some new ∷ []) in
    let n = length (os ++ Some new ∷ []) in
    let under : length os < 1000000 = few in
    let le : length os ≤ n = omega (arith, more) in
    objects_valid p s (os ++ Some new ∷ []) v le (omega (arith, more, under))
    (All-push (Where (λ o. ValidObject p n o)) os (Some new) (all_where (λ o. ValidObject p (length os) o) (λ o. ValidObject p n o) os (λ o w. record { owner = w.owner; fields = fits_more (length os) n _ o.fields le w.fields }) v.objects)
    (record { owner = h; fields = zeros_fit n (slice_index_or p.structs owner (record { name = []; fields = [] })).fields }))

-- another owner of a mutex
pub mutexes_valid : (p : Lifted) (s : State) (m : ℕ) (o : Option ℕ) → Valid p s → Where (λ t. t < length s.threads) o → Valid p (record s { mutexes = slice_set s.mutexes m o })
mutexes_valid p s m o v h = record {
  starts = v.starts;
  stacks = v.stacks;
  globals = v.globals;
  objects = v.objects;
  mutexes = length-set s.mutexes m o ∙ v.mutexes;
  owners = All-set (Where (λ t. t < length s.threads)) s.mutexes m o h v.owners;
  live = v.live;
  threads = v.threads;
  made = v.made;
  printed = v.printed;
}

-- other input and output
pub input_valid : (p : Lifted) (s : State) (input : List ℕ) → Valid p s → Valid p (record s { input = input })
input_valid p s input v = record {
  starts = v.starts;
  stacks = v.stacks;
  globals = v.globals;
  objects = v.objects;
  mutexes = v.mutexes;
  owners = v.owners;
  live = v.live;
  threads = v.threads;
  made = v.made;
  printed = v.printed;
}

pub output_valid : (p : Lifted) (s : State) (output : List ℕ) → Valid p s → length output ≤ max_output → Valid p (record s { output = output })
output_valid p s output v h = record {
  starts = v.starts;
  stacks = v.stacks;
  globals = v.globals;
  objects = v.objects;
  mutexes = v.mutexes;
  owners = v.owners;
  live = v.live;
  threads = v.threads;
  made = v.made;
  printed = h;
}
