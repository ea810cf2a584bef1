-- The values of expressions and destinations have the sorts that they are asked.
use Rattle.std.proofs.Common.{◌≡◌, ℕ, zero, suc, ℤ, pos, negsuc, Bool, true, false, ◌==◌, nat_lt, List, [], ◌∷◌, length, Option, Some, None, Result, Ok, Err, IfOk, inl, inr, refl, sym, ap, subst}
use Rattle.std.specs.Prelude.{slice_get, slice_index_or, is_some, if◌then◌else◌, ⊤, All, MatchOption}
use Rattle.std.specs.List.{AllZip}
use Rattle.std.proofs.lemmas.Bool.{eqb-true}
use Rattle.std.proofs.lemmas.List.{get_or_past}
use Rattle.std.proofs.lemmas.Bool.{cases_lt}
use Rattle.c_tree.specs.declared.ty.Ty.{Ty}
use Rattle.c_tree.specs.declared.lifted.Slot.{Slot}
use Rattle.c_tree.specs.declared.lifted.LStruct.{LStruct}
use Rattle.c_tree.specs.declared.lifted.LGlobal.{LGlobal}
use Rattle.c_tree.specs.declared.lifted.Lifted.{Lifted}
use Rattle.c_tree.specs.declared.lifted.Dest.{Dest}
use Rattle.c_tree.specs.declared.lifted.Dest.TheVariants as d
use Rattle.c_tree.specs.declared.lifted.LExpr.{LExpr, more_of-LExpr as only}
use Rattle.c_tree.specs.declared.lifted.LExpr.TheVariants as e
use Rattle.c_tree.specs.declared.place.Location.{Location}
use Rattle.c_tree.specs.declared.place.Location.TheVariants.{InSlot, InGlobal, InArray, InObject}
use Rattle.c_tree.specs.declared.state.Object.{Object}
use Rattle.c_tree.specs.declared.state.Trap.{Trap}
use Rattle.c_tree.specs.declared.state.Trap.TheVariants.{Bounds, Struct}
use Rattle.c_tree.specs.Value.{View, value, and_then, element, live, object, object_of, field_of}
use Rattle.c_tree.specs.Step.{values, location}
use Rattle.c_tree.specs.Formed.{Sort, int, sort_of_type, sort_of_slot, sort_of_scalar, sort_of_element, fields_in, sort_if, sort_of, sort_at, is_int_sort, is_pointer_sort, takes_one, takes_two, HasSort, AreArguments}
use Rattle.c_tree.specs.Valid.{Refers, Fits, ValidObject, ValidGlobal}
use Rattle.state_laws.proofs.Zips.{all_at, zip_at}
use Rattle.state_laws.proofs.Refers.{HasValue, refers_has, has_refers, zero_has, zero_refers, int_has, slot_has}

-- what a value reads fits the program and a frame's slots, where n objects were made
pub record Beside (p : Lifted) (slots : List Slot) (n : ℕ) (x : View) : Type 0 where
  pub own_slots : Fits n slots x.slots
  pub globals_fit : AllZip (λ g values. ValidGlobal n g values) p.globals x.globals
  pub objects_fit : All (λ o. MatchOption o ⊤ (λ o. ValidObject p n o)) x.objects

-- the value, if there is one, is of the sort
abbrev pub Gives : ℕ → Sort → Result ℤ Trap → Type 0
Gives n a (Ok v) = HasValue n a v
Gives n a (Err cause) = ⊤

then_gives : {A : Type 0} (n : ℕ) (a : Sort) (r : Result A Trap) (go : A → Result ℤ Trap) → ((x : A) → r ≡ Ok x → Gives n a (go x)) → Gives n a (and_then r go)
then_gives n a (Ok x) go f = f x refl
then_gives n a (Err cause) go f = tt

int_gives : (n : ℕ) (a : Sort) (r : Result ℤ Trap) → Some int ≡ Some a → Gives n a r
int_gives n a (Ok v) e = int_has n a v e
int_gives n a (Err cause) e = tt

-- a sort under a condition
sort_left : (b : Bool) (o : Option Sort) (a : Sort) → sort_if b o ≡ Some a → o ≡ Some a
sort_left true o a e = e
sort_left false o a e = absurd (let k : ⊥ = cc in k)

-- the global that has a sort, and the array whose elements have one
pub scalar_of : (o : Option LGlobal) (a : Sort) → sort_of_scalar o ≡ Some a → (g : LGlobal) × (o ≡ Some g) × (sort_of_type g.ty ≡ Some a)
scalar_of None a e = absurd (let k : ⊥ = cc in k)
scalar_of (Some g) a e = (g, refl, pick (is_some g.count) e) where
  pick : (b : Bool) → (if b then None else sort_of_type g.ty) ≡ Some a → sort_of_type g.ty ≡ Some a
  pick true e = absurd (let k : ⊥ = cc in k)
  pick false e = e

pub array_of : (o : Option LGlobal) (a : Sort) → sort_of_element o ≡ Some a → (g : LGlobal) × (o ≡ Some g) × (sort_of_type g.ty ≡ Some a)
array_of None a e = absurd (let k : ⊥ = cc in k)
array_of (Some g) a e = (g, refl, pick (is_some g.count) e) where
  pick : (b : Bool) → (if b then sort_of_type g.ty else None) ≡ Some a → sort_of_type g.ty ≡ Some a
  pick true e = e
  pick false e = absurd (let k : ⊥ = cc in k)

-- an item of a global, and 0 past its end
word_refers : (n : ℕ) (T : Ty) (words : List ℤ) (i : ℕ) → All (λ v. Refers n T v) words → Refers n T (slice_index_or words i (pos 0))
word_refers n T words i all =
    elim (cases_lt i (length words)) as (λ c. Refers n T (slice_index_or words i (pos 0)))
    [ inl h ↦ all i (pos 0) h | inr h ↦ subst (λ v. Refers n T v) (sym (get_or_past words i (pos 0) h)) (zero_refers n T) ]

global_has : (n : ℕ) (gs : List LGlobal) (all : List (List ℤ)) (g i : ℕ) (q : LGlobal) (a : Sort) → AllZip (λ g values. ValidGlobal n g values) gs all
    → slice_get gs g ≡ Some q → sort_of_type q.ty ≡ Some a → HasValue n a (slice_index_or (slice_index_or all g []) i (pos 0))
global_has n gs all g i q a z e s =
    let words = slice_index_or all g [] in
    refers_has n q.ty a (slice_index_or words i (pos 0)) s (word_refers n q.ty words i (zip_at (λ g values. ValidGlobal n g values) gs all g q [] z e).refers)

element_gives : (n : ℕ) (a : Sort) (words : List ℤ) (at : ℤ) → ((i : ℕ) → HasValue n a (slice_index_or words i (pos 0))) → Gives n a (element words at)
element_gives n a words (pos i) has = pick (nat_lt i (length words)) where
  pick : (b : Bool) → Gives n a (if b then Ok (slice_index_or words i (pos 0)) else Err Bounds)
  pick true = has i
  pick false = tt
element_gives n a words (negsuc i) has = tt

-- the object of a number
live_is : (x : Option (Option Object)) (o : Object) → live x ≡ Ok o → x ≡ Some (Some o)
live_is (Some (Some x)) o e = cc
live_is (Some None) o e = cc
live_is None o e = cc

pub object_at : (os : List (Option Object)) (v : ℤ) (o : Object) → object os v ≡ Ok o → (i : ℕ) × (v ≡ pos (suc i)) × (slice_get os i ≡ Some (Some o))
object_at os (pos zero) o e = absurd (let k : ⊥ = cc in k)
object_at os (pos (suc i)) o e = (i, refl, live_is (slice_get os i) o e)
object_at os (negsuc i) o e = absurd (let k : ⊥ = cc in k)

pub object_of_at : (os : List (Option Object)) (v : ℤ) (owner : ℕ) (o : Object) → object_of os v owner ≡ Ok o → (object os v ≡ Ok o) × (o.owner ≡ owner)
object_of_at os v owner o e = first (object os v) e where
  second : (x : Object) (b : Bool) → b ≡ (x.owner == owner) → (if b then Ok x else Err Struct) ≡ Ok o → (x ≡ o) × (o.owner ≡ owner)
  second x true is e = let same : x ≡ o = cc in (same, subst (λ y. y.owner ≡ owner) same (eqb-true x.owner owner (sym is)))
  second x false is e = absurd (let k : ⊥ = cc in k)

  first : (r : Result Object Trap) → and_then r (λ x. if x.owner == owner then Ok x else Err Struct) ≡ Ok o → (r ≡ Ok o) × (o.owner ≡ owner)
  first (Ok x) e = let s = second x (x.owner == owner) refl e in (ap Ok s.0, s.1)
  first (Err cause) e = absurd (let k : ⊥ = cc in k)

-- the fields of a struct, by its number
pub same_fields : (structs : List LStruct) (owner : ℕ) → fields_in (slice_get structs owner) ≡ (slice_index_or structs owner (record { name = []; fields = [] })).fields
same_fields [] owner = refl
same_fields (x ∷ structs) zero = refl
same_fields (x ∷ structs) (suc owner) = same_fields structs owner

pub field_slots : (p : Lifted) (n owner : ℕ) (o : Object) → ValidObject p n o → o.owner ≡ owner → Fits n (fields_in (slice_get p.structs owner)) o.fields
field_slots p n owner o valid e =
    subst (λ slots. Fits n slots o.fields) (sym (same_fields p.structs owner)) (subst (λ k. Fits n (slice_index_or p.structs k (record { name = []; fields = [] })).fields o.fields) e valid.fields)

field_gives : (p : Lifted) (n : ℕ) (a : Sort) (os : List (Option Object)) (v : ℤ) (owner field : ℕ) → All (λ o. MatchOption o ⊤ (λ o. ValidObject p n o)) os
    → sort_of_slot (slice_get (fields_in (slice_get p.structs owner)) field) ≡ Some a → Gives n a (field_of os v owner field)
field_gives p n a os v owner field all s =
    then_gives n a (object_of os v owner) (λ o. Ok (slice_index_or o.fields field (pos 0)))
    (λ o e.
    let found = object_of_at os v owner o e in
    let at = object_at os v o found.0 in
    let valid : ValidObject p n o = all_at (λ o. MatchOption o ⊤ (λ o. ValidObject p n o)) os at.0 (Some o) all at.2 in
    slot_has n (fields_in (slice_get p.structs owner)) o.fields field a (field_slots p n owner o valid found.1) s)

pub value_gives : (p : Lifted) (slots : List Slot) (n : ℕ) (x : View) → Beside p slots n x → (a : Sort) (t : LExpr) → sort_of p slots t ≡ Some a → Gives n a (value x t)
unfolding value sort_of
value_gives p slots n x b a (e.Num k) s = int_has n a k s
value_gives p slots n x b a e.Null s = zero_has n a
value_gives p slots n x b a (e.Slot i) s = slot_has n slots x.slots i a b.own_slots s
value_gives p slots n x b a (e.Global g) s =
    let q = scalar_of (slice_get p.globals g) a s in
    global_has n p.globals x.globals g 0 q.0 a b.globals_fit q.1 q.2
value_gives p slots n x b a (e.Elem' g _ (only i _)) s =
    let q = array_of (slice_get p.globals g) a (sort_left (is_int_sort (sort_of p slots i)) _ a s) in
    then_gives n a (value x i) (element (slice_index_or x.globals g []))
    (λ at _. element_gives n a (slice_index_or x.globals g []) at (λ k. global_has n p.globals x.globals g k q.0 a b.globals_fit q.1 q.2))
value_gives p slots n x b a (e.Field' _ (only o _) owner field) s =
    then_gives n a (value x o) (λ v. field_of x.objects v owner field)
    (λ v _. field_gives p n a x.objects v owner field b.objects_fit (sort_left (is_pointer_sort (sort_of p slots o)) _ a s))
value_gives p slots n x b a (e.Own i) s = absurd (let k : ⊥ = cc in k)
value_gives p slots n x b a (e.Un' op _ (only t _)) s = int_gives n a _ (sort_left (takes_one op (sort_of p slots t)) _ a s)
value_gives p slots n x b a (e.Bin' op _ (only t _) _ (only u _)) s = int_gives n a _ (sort_left (takes_two op (sort_of p slots t) (sort_of p slots u)) _ a s)

-- of what a result holds
then_ok : {A B : Type 0} (P : B → Type 0) (r : Result A Trap) (go : A → Result B Trap) → ((x : A) → r ≡ Ok x → IfOk (go x) P) → IfOk (and_then r go) P
then_ok P (Ok x) go f = f x refl
then_ok P (Err cause) go f = tt

pub given : (n : ℕ) (a : Sort) (r : Result ℤ Trap) (v : ℤ) → Gives n a r → r ≡ Ok v → HasValue n a v
given n a r v g e = subst (λ r. Gives n a r) e g

-- what is asked is there
pub asked : (o b : Option Sort) → HasSort o b → (a : Sort) × (o ≡ Some a) × (b ≡ Some a)
asked None b h = absurd h
asked (Some a) b h = (a, refl, h)

-- the values of a call's arguments fit its parameters
pub values_fit : (p : Lifted) (slots : List Slot) (n : ℕ) (x : View) → Beside p slots n x → (params : List Slot) (args : List LExpr) → AreArguments p slots params args → IfOk (values x args) (λ vs. Fits n params vs)
values_fit p slots n x b [] [] h = tt
values_fit p slots n x b [] (t ∷ args) h = absurd h
values_fit p slots n x b (q ∷ params) [] h = absurd h
values_fit p slots n x b (q ∷ params) (t ∷ args) h =
    let s = asked (sort_of_type q.ty) (sort_of p slots t) h.0 in
    then_ok (λ vs. Fits n (q ∷ params) vs) (value x t) (λ v. and_then (values x args) (λ vs. Ok (v ∷ vs)))
    (λ v e. then_ok (λ vs. Fits n (q ∷ params) vs) (values x args) (λ vs. Ok (v ∷ vs))
    (λ vs f. (has_refers n q.ty s.0 v s.1 (given n s.0 (value x t) v (value_gives p slots n x b s.0 t s.2) e), subst (λ r. IfOk r (λ vs. Fits n params vs)) f (values_fit p slots n x b params args h.1))))

-- a place for values of a sort
abbrev pub LocationFits : Lifted → List Slot → Sort → Location → Type 0
LocationFits p slots a (InSlot i) = sort_of_slot (slice_get slots i) ≡ Some a
LocationFits p slots a (InGlobal g) = sort_of_scalar (slice_get p.globals g) ≡ Some a
LocationFits p slots a (InArray g at) = sort_of_element (slice_get p.globals g) ≡ Some a
LocationFits p slots a (InObject o owner field) = sort_of_slot (slice_get (fields_in (slice_get p.structs owner)) field) ≡ Some a

pub location_fits : (p : Lifted) (slots : List Slot) (x : View) (a : Sort) (to : Dest) → sort_at p slots to ≡ Some a → IfOk (location x to) (λ s. LocationFits p slots a s)
location_fits p slots x a (d.Slot i) s = s
location_fits p slots x a (d.Global g) s = s
location_fits p slots x a (d.Elem g i) s = then_ok (λ s. LocationFits p slots a s) (value x i) (λ at. Ok (InArray g at)) (λ at _. sort_left (is_int_sort (sort_of p slots i)) _ a s)
location_fits p slots x a (d.Field o owner field) s =
    then_ok (λ s. LocationFits p slots a s) (value x o) (λ v. Ok (InObject v owner field)) (λ v _. sort_left (is_pointer_sort (sort_of p slots o)) _ a s)
