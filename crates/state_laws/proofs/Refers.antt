-- The values of a type: each pointer is 0 or the number of an object.
use Rattle.std.proofs.Common.{◌≡◌, ℕ, zero, suc, ◌-◌, ◌≤◌, ℤ, pos, negsuc, List, [], ◌∷◌, ◌++◌, length, take, replicate, Option, Some, None, refl, subst, arith}
use Rattle.std.specs.Prelude.{slice_get, slice_index_or, slice_set, map, ⊤}
use Rattle.c_tree.specs.declared.ty.Ty.{Ty}
use Rattle.c_tree.specs.declared.ty.Ty.TheVariants as ty
use Rattle.c_tree.specs.declared.lifted.Slot.{Slot}
use Rattle.c_tree.specs.Formed.{Sort, int, thread, pointer, sort_of_type, sort_of_slot}
use Rattle.c_tree.specs.Valid.{Refers, Fits}
use Rattle.state_laws.proofs.Zips.{zip_at, zip_set, zip_weaker}

-- a value of a sort, where n objects were made
abbrev pub HasValue : ℕ → Sort → ℤ → Type 0
HasValue n int v = ⊤
HasValue n thread v = ⊤
HasValue n pointer (pos o) = o ≤ n
HasValue n pointer (negsuc o) = ⊥

pub pointer_refers : (n : ℕ) (T : Ty) (v : ℤ) → HasValue n pointer v → Refers n T v
pointer_refers n ty.AnyPtr (pos o) h = h
pointer_refers n (ty.Ptr name) (pos o) h = h
pointer_refers n ty.AnyPtr (negsuc o) h = h
pointer_refers n (ty.Ptr name) (negsuc o) h = h
pointer_refers n ty.Int v h = tt
pointer_refers n ty.Thread v h = tt
pointer_refers n ty.Void v h = tt

-- the values of a type are those of its sort
pub has_refers : (n : ℕ) (T : Ty) (a : Sort) (v : ℤ) → sort_of_type T ≡ Some a → HasValue n a v → Refers n T v
has_refers n ty.Int a v e h = tt
has_refers n ty.Thread a v e h = tt
has_refers n ty.Void a v e h = tt
has_refers n ty.AnyPtr a v e h = pointer_refers n ty.AnyPtr v (let k : a ≡ pointer = cc in subst (λ s. HasValue n s v) k h)
has_refers n (ty.Ptr name) a v e h = pointer_refers n (ty.Ptr name) v (let k : a ≡ pointer = cc in subst (λ s. HasValue n s v) k h)

pub refers_has : (n : ℕ) (T : Ty) (a : Sort) (v : ℤ) → sort_of_type T ≡ Some a → Refers n T v → HasValue n a v
refers_has n T int v e h = tt
refers_has n T thread v e h = tt
refers_has n ty.Int pointer v e h = absurd (let k : ⊥ = cc in k)
refers_has n ty.Thread pointer v e h = absurd (let k : ⊥ = cc in k)
refers_has n ty.Void pointer v e h = absurd (let k : ⊥ = cc in k)
refers_has n ty.AnyPtr pointer (pos o) e h = h
refers_has n (ty.Ptr name) pointer (pos o) e h = h
refers_has n ty.AnyPtr pointer (negsuc o) e h = h
refers_has n (ty.Ptr name) pointer (negsuc o) e h = h

-- 0 is a value of every type
pub zero_has : (n : ℕ) (a : Sort) → HasValue n a (pos 0)
zero_has n int = tt
zero_has n thread = tt
zero_has n pointer = omega arith

pub zero_refers : (n : ℕ) (T : Ty) → Refers n T (pos 0)
zero_refers n T = pointer_refers n T (pos 0) (zero_has n pointer)

-- an integer or a thread's number
pub int_has : (n : ℕ) (a : Sort) (v : ℤ) → Some int ≡ Some a → HasValue n a v
int_has n int v e = tt
int_has n thread v e = tt
int_has n pointer v e = absurd (let k : ⊥ = cc in k)

-- more objects leave what refers to one
pub refers_more : (n m : ℕ) (T : Ty) (v : ℤ) → n ≤ m → Refers n T v → Refers m T v
refers_more n m ty.AnyPtr (pos o) h r = omega (arith, h, r)
refers_more n m (ty.Ptr name) (pos o) h r = omega (arith, h, r)
refers_more n m ty.AnyPtr (negsuc o) h r = r
refers_more n m (ty.Ptr name) (negsuc o) h r = r
refers_more n m ty.Int v h r = tt
refers_more n m ty.Thread v h r = tt
refers_more n m ty.Void v h r = tt

pub fits_more : (n m : ℕ) (slots : List Slot) (values : List ℤ) → n ≤ m → Fits n slots values → Fits m slots values
fits_more n m slots values h z = zip_weaker (λ q v. Refers n q.ty v) (λ q v. Refers m q.ty v) slots values (λ q v r. refers_more n m q.ty v h r) z

-- the slot that has a sort
slot_of : (o : Option Slot) (a : Sort) → sort_of_slot o ≡ Some a → (q : Slot) × (o ≡ Some q) × (sort_of_type q.ty ≡ Some a)
slot_of None a e = absurd (let k : ⊥ = cc in k)
slot_of (Some q) a e = (q, refl, e)

-- the value in a slot of a sort, and another value there
pub slot_has : (n : ℕ) (slots : List Slot) (values : List ℤ) (i : ℕ) (a : Sort) → Fits n slots values → sort_of_slot (slice_get slots i) ≡ Some a → HasValue n a (slice_index_or values i (pos 0))
slot_has n slots values i a z e =
    let s = slot_of (slice_get slots i) a e in
    refers_has n s.0.ty a (slice_index_or values i (pos 0)) s.2 (zip_at (λ q v. Refers n q.ty v) slots values i s.0 (pos 0) z s.1)

same_slot : (x y : Slot) (o : Option Slot) → o ≡ Some x → o ≡ Some y → x ≡ y
same_slot x y o d e = cc

pub slot_set : (n : ℕ) (slots : List Slot) (values : List ℤ) (i : ℕ) (v : ℤ) (a : Sort) → Fits n slots values → sort_of_slot (slice_get slots i) ≡ Some a → HasValue n a v → Fits n slots (slice_set values i v)
slot_set n slots values i v a z e h =
    let s = slot_of (slice_get slots i) a e in
    zip_set (λ q w. Refers n q.ty w) slots values i v z
    (λ q f. subst (λ r. Refers n r.ty v) (same_slot s.0 q (slice_get slots i) s.1 f) (has_refers n s.0.ty a v s.2 h))

-- zeros fit all slots, and behind the arguments the slots that are left
pub zeros_fit : (n : ℕ) (slots : List Slot) → Fits n slots (replicate (length slots) (pos 0))
zeros_fit n [] = tt
zeros_fit n (q ∷ slots) = (zero_refers n q.ty, zeros_fit n slots)

pub fresh_fits : (n k : ℕ) (slots : List Slot) (args : List ℤ) → Fits n (take k slots) args → Fits n slots (args ++ replicate (length slots - length args) (pos 0))
fresh_fits n zero slots [] z = let e : length slots - 0 ≡ length slots = omega arith in rw e (zeros_fit n slots)
fresh_fits n zero slots (v ∷ args) z = absurd z
fresh_fits n (suc k) [] [] z = tt
fresh_fits n (suc k) [] (v ∷ args) z = absurd z
fresh_fits n (suc k) (q ∷ slots) [] z = absurd z
fresh_fits n (suc k) (q ∷ slots) (v ∷ args) z =
    let e : suc (length slots) - suc (length args) ≡ length slots - length args = omega arith in
    rw e (z.0, fresh_fits n k slots args z.1)

-- the one argument of a started function
pub argument_fits : (n : ℕ) (params : List Slot) (T : Ty) (v : ℤ) → map (λ q. q.ty) params ≡ T ∷ [] → Refers n T v → Fits n params (v ∷ [])
argument_fits n [] T v e r = absurd (let k : ⊥ = cc in k)
argument_fits n (q ∷ []) T v e r = let same : T ≡ q.ty = cc in (subst (λ t. Refers n t v) same r, tt)
argument_fits n (q ∷ x ∷ params) T v e r = absurd (let k : ⊥ = cc in k)
