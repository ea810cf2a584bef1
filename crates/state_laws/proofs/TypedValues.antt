-- What an expression of a pointer type gives is 0 or the number of an object that was made.
use Rattle.std.proofs.Common.{◌≡◌, ℕ, ◌≤◌, Bool, true, false, List, [], ◌∷◌, Option, Some, None, refl, sym, ◌∙◌, ap, subst, nat_lt, length, arith}
use Rattle.std.specs.Prelude.{zero, suc, ℤ, pos, negsuc, ◌==◌, ⊤, if◌then◌else◌, slice_get, slice_index_or, Result, Ok, Err, All, MatchOption}
use Rattle.std.specs.List.{AllZip}
use Rattle.std.specs.Option.{is_some}
use Rattle.c_tree.specs.Types.{is_int}
use Rattle.std.proofs.lemmas.Option.{none-some, same_Some, get_or_from_slice_get}
use Rattle.std.proofs.lemmas.Bool.{ltb-true, ltb-false, eqb-true}
use Rattle.c_tree.specs.declared.ty.Ty.{Ty}
use Rattle.c_tree.specs.declared.ty.Ty.TheVariants as ty
use Rattle.c_tree.specs.declared.lifted.LExpr.{LExpr, more_of-LExpr as only}
use Rattle.c_tree.specs.declared.lifted.LExpr.TheVariants as l
use Rattle.c_tree.specs.declared.lifted.Lifted.{Lifted}
use Rattle.c_tree.specs.declared.lifted.LGlobal.{LGlobal}
use Rattle.c_tree.specs.declared.lifted.LStruct.{LStruct}
use Rattle.c_tree.specs.declared.lifted.Slot.{Slot}
use Rattle.c_tree.specs.declared.state.Object.{Object}
use Rattle.c_tree.specs.declared.state.Trap.{Trap}
use Rattle.c_tree.specs.declared.state.Trap.TheVariants as trap
use Rattle.c_tree.specs.Value.{View, and_then, element, live, object, object_of, field_of, value}
use Rattle.c_tree.specs.Valid.{Refers, Fits, ValidGlobal, ValidObject}
use Rattle.c_tree.specs.Compute.{literals}
use Rattle.c_tree.specs.MapExpr.{Reads, slot_type, scalar_type, array_type, member_type, int_if, passes, is_pointer_to, takes_one, takes_two, type_in}
use Rattle.state_laws.proofs.Refers.{zero_refers}
use Rattle.state_laws.proofs.Zips.{zip_at, all_at}

pub same_ok : {A E : Type 0} (x y : A) → ◌≡◌ {A = Result A E} (Ok x) (Ok y) → x ≡ y
same_ok x y e = cc

pub not_ok : {A E : Type 0} (x : A) (t : E) → Err t ≡ Ok x → ⊥
not_ok x t e = cc

pub no_false : false ≡ true → ⊥
no_false e = cc

pub past : {A : Type 0} (xs : List A) (i : ℕ) (d : A) → length xs ≤ i → slice_index_or xs i d ≡ d
past [] i d l = refl
past (x ∷ xs) zero d l = absurd (omega (arith, l))
past (x ∷ xs) (suc i) d l = past xs i d (omega (arith, l))

pub all_or : {A : Type 0} (P : A → Type 0) (xs : List A) (i : ℕ) (d : A) → All P xs → P d → P (slice_index_or xs i d)
all_or P xs i d a p = pick (nat_lt i (length xs)) refl where
  pick : (b : Bool) → b ≡ nat_lt i (length xs) → P (slice_index_or xs i d)
  pick true e = a i d (ltb-true i (length xs) (sym e))
  pick false e = subst P (sym (past xs i d (ltb-false i (length xs) (sym e)))) p

-- the values that an expression reads fit what it may read
pub record Holds (r : Reads) (n : ℕ) (x : View) : Type 0 where
  pub slots : Fits n r.slots x.slots
  pub own : Fits n r.own x.own
  pub globals : AllZip (λ g values. ValidGlobal n g values) r.program.globals x.globals
  pub objects : All (λ o. MatchOption o ⊤ (λ o. ValidObject r.program n o)) x.objects

pub int_result : (n : ℕ) (b : Bool) (v : ℤ) (t : Ty) → int_if b ≡ Some t → Refers n t v
int_result n true v t e = subst (λ s. Refers n s v) (same_Some ty.Int t e) tt
int_result n false v t e = absurd (none-some t e)

pub slot_known : (o : Option Slot) (t : Ty) → slot_type o ≡ Some t → (s : Slot) × ((o ≡ Some s) × (s.ty ≡ t))
slot_known None t e = absurd (none-some t e)
slot_known (Some s) t e = (s, (refl, same_Some s.ty t e))

pub fits_get : (n : ℕ) (slots : List Slot) (vs : List ℤ) (i : ℕ) (t : Ty) →
    Fits n slots vs → slot_type (slice_get slots i) ≡ Some t → Refers n t (slice_index_or vs i (pos 0))
fits_get n slots vs i t f e =
    let k = slot_known (slice_get slots i) t e in
    subst (λ s. Refers n s (slice_index_or vs i (pos 0))) k.1.1 (zip_at (λ s v. Refers n s.ty v) slots vs i k.0 (pos 0) f k.1.0)

pub scalar_known : (o : Option LGlobal) (t : Ty) → scalar_type o ≡ Some t → (g : LGlobal) × ((o ≡ Some g) × (g.ty ≡ t))
scalar_known None t e = absurd (none-some t e)
scalar_known (Some g) t e = pick g.count e where
  pick : (c : Option ℕ) → (if is_some c then None else Some g.ty) ≡ Some t → (h : LGlobal) × ((Some g ≡ Some h) × (h.ty ≡ t))
  pick None e = (g, (refl, same_Some g.ty t e))
  pick (Some c) e = absurd (none-some t e)

pub array_known : (o : Option LGlobal) (t : Ty) → array_type o ≡ Some t → (g : LGlobal) × ((o ≡ Some g) × (g.ty ≡ t))
array_known None t e = absurd (none-some t e)
array_known (Some g) t e = pick g.count e where
  pick : (c : Option ℕ) → (if is_some c then Some g.ty else None) ≡ Some t → (h : LGlobal) × ((Some g ≡ Some h) × (h.ty ≡ t))
  pick None e = absurd (none-some t e)
  pick (Some c) e = (g, (refl, same_Some g.ty t e))

-- the values of a global, whatever the index
pub global_get : (n : ℕ) (gs : List LGlobal) (vss : List (List ℤ)) (i j : ℕ) (g : LGlobal) →
    AllZip (λ g values. ValidGlobal n g values) gs vss → slice_get gs i ≡ Some g → Refers n g.ty (slice_index_or (slice_index_or vss i []) j (pos 0))
global_get n gs vss i j g z e =
    all_or (λ v. Refers n g.ty v) (slice_index_or vss i []) j (pos 0) (zip_at (λ g values. ValidGlobal n g values) gs vss i g [] z e).refers (zero_refers n g.ty)

pub then_known : {A B : Type 0} (a : Result A Trap) (go : A → Result B Trap) (v : B) → and_then a go ≡ Ok v → (x : A) × ((a ≡ Ok x) × (go x ≡ Ok v))
then_known (Ok x) go v e = (x, (refl, e))
then_known (Err t) go v e = absurd (not_ok v t e)

pub live_known : (m : Option (Option Object)) (o : Object) → live m ≡ Ok o → m ≡ Some (Some o)
live_known None o e = absurd (not_ok o trap.Freed e)
live_known (Some None) o e = absurd (not_ok o trap.Freed e)
live_known (Some (Some a)) o e = ap (λ b. Some (Some b)) (same_ok a o e)

pub object_valid : (p : Lifted) (n : ℕ) (os : List (Option Object)) (v : ℤ) (o : Object) →
    All (λ o. MatchOption o ⊤ (λ o. ValidObject p n o)) os → object os v ≡ Ok o → ValidObject p n o
object_valid p n os (pos zero) o a e = absurd (not_ok o trap.Null e)
object_valid p n os (negsuc i) o a e = absurd (not_ok o trap.Freed e)
object_valid p n os (pos (suc i)) o a e =
    all_at (λ o. MatchOption o ⊤ (λ o. ValidObject p n o)) os i (Some o) a (live_known (slice_get os i) o e)

pub guarded : {A : Type 0} (b : Bool) (o a : A) (t : Trap) → (if b then Ok o else Err t) ≡ Ok a → (b ≡ true) × (o ≡ a)
guarded true o a t e = (refl, same_ok o a e)
guarded false o a t e = absurd (not_ok a t e)

pub element_refers : (n : ℕ) (t : Ty) (vs : List ℤ) (i v : ℤ) → All (λ v. Refers n t v) vs → element vs i ≡ Ok v → Refers n t v
element_refers n t vs (negsuc i) v a e = absurd (not_ok v trap.Bounds e)
element_refers n t vs (pos i) v a e =
    subst (λ v. Refers n t v) (guarded (nat_lt i (length vs)) (slice_index_or vs i (pos 0)) v trap.Bounds e).1 (all_or (λ v. Refers n t v) vs i (pos 0) a (zero_refers n t))

pub if_some : {A : Type 0} (b : Bool) (o : Option A) (x : A) → (if b then o else None) ≡ Some x → o ≡ Some x
if_some true o x e = e
if_some false o x e = absurd (none-some x e)

pub member_known : (o : Option LStruct) (field : ℕ) (p : Option Ty) (t : Ty) → member_type o field p ≡ Some t →
    (s : LStruct) × ((o ≡ Some s) × (slot_type (slice_get s.fields field) ≡ Some t))
member_known None field p t e = absurd (none-some t e)
member_known (Some s) field p t e = (s, (refl, if_some (passes (is_pointer_to s.name) p) (slot_type (slice_get s.fields field)) t e))

pub field_refers : (r : Reads) (n : ℕ) (x : View) (a : Result ℤ Trap) (owner field : ℕ) (p : Option Ty) (t : Ty) (v : ℤ) → Holds r n x →
    member_type (slice_get r.program.structs owner) field p ≡ Some t → and_then a (λ o. field_of x.objects o owner field) ≡ Ok v → Refers n t v
field_refers r n x a owner field p t v h m e =
    let s = member_known (slice_get r.program.structs owner) field p t m in
    let at = then_known a (λ o. field_of x.objects o owner field) v e in
    let o = then_known (object_of x.objects at.0 owner) (λ o. Ok (slice_index_or o.fields field (pos 0))) v at.1.1 in
    let q = then_known (object x.objects at.0) (λ o. if o.owner == owner then Ok o else Err trap.Struct) o.0 o.1.0 in
    let g = guarded (q.0.owner == owner) q.0 o.0 trap.Struct q.1.1 in
    let valid = object_valid r.program n x.objects at.0 q.0 h.objects q.1.0 in
    let own : q.0.owner ≡ owner = eqb-true q.0.owner owner g.0 in
    let known = get_or_from_slice_get r.program.structs owner s.0 (record { name = []; fields = [] }) s.1.0 in
    let fits = subst (λ f. Fits n f q.0.fields) (ap (λ i. (slice_index_or r.program.structs i (record { name = []; fields = [] })).fields) own ∙ ap (λ d. d.fields) known) valid.fields in
    let said = fits_get n s.0.fields q.0.fields field t fits s.1.1 in
    subst (λ w. Refers n t w) (ap (λ b. slice_index_or b.fields field (pos 0)) g.1 ∙ same_ok (slice_index_or o.0.fields field (pos 0)) v o.1.1) said

pub typed_value : (r : Reads) (n : ℕ) (x : View) (e : LExpr) (t : Ty) (v : ℤ) → Holds r n x → type_in r e ≡ Some t → value x e ≡ Ok v → Refers n t v
unfolding literals
typed_value r n x (l.Num i) t v h y w = subst (λ s. Refers n s v) (same_Some ty.Int t y) tt
typed_value r n x l.Null t v h y w = subst (λ a. Refers n t a) (same_ok (pos 0) v w) (zero_refers n t)
typed_value r n x (l.Slot i) t v h y w = subst (λ a. Refers n t a) (same_ok (slice_index_or x.slots i (pos 0)) v w) (fits_get n r.slots x.slots i t h.slots y)
typed_value r n x (l.Global g) t v h y w =
    let k = scalar_known (slice_get r.program.globals g) t y in
    subst (λ a. Refers n t a) (same_ok (slice_index_or (slice_index_or x.globals g []) 0 (pos 0)) v w)
    (subst (λ s. Refers n s (slice_index_or (slice_index_or x.globals g []) 0 (pos 0))) k.1.1 (global_get n r.program.globals x.globals g 0 k.0 h.globals k.1.0))
typed_value r n x (l.Elem' g _ (only i _)) t v h y w =
    let at = then_known (value x i) (element (slice_index_or x.globals g [])) v w in
    let k = array_known (slice_get r.program.globals g) t (if_some (passes is_int (type_in r i)) (array_type (slice_get r.program.globals g)) t y) in
    subst (λ s. Refers n s v) k.1.1
    (element_refers n k.0.ty (slice_index_or x.globals g []) at.0 v (zip_at (λ g values. ValidGlobal n g values) r.program.globals x.globals g k.0 [] h.globals k.1.0).refers at.1.1)
typed_value r n x (l.Field' _ (only p _) owner field) t v h y w = field_refers r n x (value x p) owner field (type_in r p) t v h y w
typed_value r n x (l.Own i) t v h y w = subst (λ a. Refers n t a) (same_ok (slice_index_or x.own i (pos 0)) v w) (fits_get n r.own x.own i t h.own y)
typed_value r n x (l.Un' op _ (only a _)) t v h y w = int_result n (takes_one op (type_in r a)) v t y
typed_value r n x (l.Bin' op _ (only a _) _ (only b _)) t v h y w = int_result n (takes_two op (type_in r a) (type_in r b)) v t y
