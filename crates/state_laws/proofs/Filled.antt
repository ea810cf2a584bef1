-- What fills new slots and fields fits their types.
use Rattle.std.proofs.Common.{◌≡◌, ℕ, ◌+◌, Bool, true, false, List, [], ◌∷◌, Option, Some, None, refl, sym, ap, subst, arith}
use Rattle.std.specs.Prelude.{suc, ℤ, pos, negsuc, map, ◌&&◌, cond, slice_get, Result, Ok, Err}
use Rattle.std.specs.Option.{option_map}
use Rattle.std.specs.List.{AllZip, enumerate_from, position_from}
use Rattle.std.proofs.lemmas.Option.{none-some, same_Some}
use Rattle.c_tree.specs.declared.ty.Ty.{Ty}
use Rattle.c_tree.specs.declared.ty.Ty.TheVariants as ty
use Rattle.c_tree.specs.declared.lifted.LExpr.{LExpr}
use Rattle.c_tree.specs.declared.lifted.LExpr.TheVariants as l
use Rattle.c_tree.specs.declared.lifted.Lifted.{Lifted}
use Rattle.c_tree.specs.declared.lifted.Slot.{Slot}
use Rattle.c_tree.specs.declared.state.Trap.{Trap}
use Rattle.c_tree.specs.declared.event.Reason.{Reason}
use Rattle.c_tree.specs.Value.{View, value}
use Rattle.c_tree.specs.Scope.{is_same_name, is_same_type}
use Rattle.c_tree.specs.Types.{is_pointer}
use Rattle.c_tree.specs.Valid.{Refers, Fits}
use Rattle.c_tree.specs.Compute.{literals}
use Rattle.c_tree.specs.Refusal.{onward}
use Rattle.c_tree.specs.Names.{find_name, names_in}
use Rattle.c_tree.specs.Link.{Link, pointer_to, is_type, is_image, match_named}
use Rattle.c_tree.specs.MapExpr.{Reads, type_in, fills_type}
use Rattle.c_tree.specs.Fillings.{carried, filling, with_reason, filled}
use Rattle.state_laws.proofs.TypedValues.{Holds, typed_value, same_ok, not_ok, no_false}
use Rattle.state_laws.proofs.Refers.{zero_refers}

pub onward_known : {A B E : Type 0} (a : Result A E) (go : A → Result B E) (v : B) → onward a go ≡ Ok v → (x : A) × ((a ≡ Ok x) × (go x ≡ Ok v))
onward_known (Ok x) go v e = (x, (refl, e))
onward_known (Err t) go v e = absurd (not_ok v t e)

pub reason_known : {A : Type 0} (f : ℕ → Reason) (a : Result A Trap) (v : A) → with_reason f a ≡ Ok v → a ≡ Ok v
reason_known f (Ok x) v e = ap (λ y. Ok y) (same_ok x v e)
reason_known f (Err t) v e = absurd (not_ok v (f _) e)

pub and_both : (a b : Bool) → (a && b) ≡ true → (a ≡ true) × (b ≡ true)
and_both true b e = (refl, e)
and_both false b e = absurd (no_false e)

-- a value keeps fitting the image of its type
pub pointer_kept : (p : Lifted) (m : Option ℕ) (t : Ty) (n : ℕ) (name : List ℕ) (v : ℤ) → is_type (pointer_to p m) t ≡ true → Refers n (ty.Ptr name) v → Refers n t v
pointer_kept p None t n name v e r = absurd (no_false e)
pointer_kept p (Some i) ty.Int n name v e r = tt
pointer_kept p (Some i) ty.Thread n name v e r = tt
pointer_kept p (Some i) ty.Void n name v e r = tt
pointer_kept p (Some i) ty.AnyPtr n name v e r = absurd (no_false e)
pointer_kept p (Some i) (ty.Ptr other) n name (pos o) e r = r
pointer_kept p (Some i) (ty.Ptr other) n name (negsuc o) e r = r

pub type_kept : (s t : Ty) (n : ℕ) (v : ℤ) → is_same_type s t ≡ true → Refers n s v → Refers n t v
type_kept s ty.Int n v e r = tt
type_kept s ty.Thread n v e r = tt
type_kept s ty.Void n v e r = tt
type_kept ty.AnyPtr ty.AnyPtr n v e r = r
type_kept (ty.Ptr a) (ty.Ptr b) n (pos o) e r = r
type_kept (ty.Ptr a) (ty.Ptr b) n (negsuc o) e r = r
type_kept ty.Int ty.AnyPtr n v e r = absurd (no_false e)
type_kept ty.Thread ty.AnyPtr n v e r = absurd (no_false e)
type_kept ty.Void ty.AnyPtr n v e r = absurd (no_false e)
type_kept (ty.Ptr a) ty.AnyPtr n v e r = absurd (no_false e)
type_kept ty.Int (ty.Ptr b) n v e r = absurd (no_false e)
type_kept ty.Thread (ty.Ptr b) n v e r = absurd (no_false e)
type_kept ty.Void (ty.Ptr b) n v e r = absurd (no_false e)
type_kept ty.AnyPtr (ty.Ptr b) n v e r = absurd (no_false e)

pub image_kept : (k : Link) (s t : Ty) (n : ℕ) (v : ℤ) → is_image k s t ≡ true → Refers n s v → Refers n t v
image_kept k (ty.Ptr name) t n v e r = pointer_kept k.new (match_named k (find_name name (names_in k.old 1))) t n name v e r
image_kept k ty.Int t n v e r = type_kept ty.Int t n v e r
image_kept k ty.Thread t n v e r = type_kept ty.Thread t n v e r
image_kept k ty.Void t n v e r = type_kept ty.Void t n v e r
image_kept k ty.AnyPtr t n v e r = type_kept ty.AnyPtr t n v e r

pub any_kept : (t : Ty) (n : ℕ) (v : ℤ) → is_pointer t ≡ true → Refers n ty.AnyPtr v → Refers n t v
any_kept ty.AnyPtr n v e r = r
any_kept (ty.Ptr b) n (pos o) e r = r
any_kept (ty.Ptr b) n (negsuc o) e r = r
any_kept ty.Int n v e r = tt
any_kept ty.Thread n v e r = tt
any_kept ty.Void n v e r = tt

pub fills_known : (k : Link) (o : Option Ty) (t : Ty) → fills_type k o t ≡ true → (s : Ty) × ((o ≡ Some s) × ((n : ℕ) (v : ℤ) → Refers n s v → Refers n t v))
fills_known k None t e = absurd (no_false e)
fills_known k (Some ty.AnyPtr) t e = (ty.AnyPtr, (refl, λ n v r. any_kept t n v e r))
fills_known k (Some (ty.Ptr name)) t e = (ty.Ptr name, (refl, λ n v r. image_kept k (ty.Ptr name) t n v e r))
fills_known k (Some ty.Int) t e = (ty.Int, (refl, λ n v r. image_kept k ty.Int t n v e r))
fills_known k (Some ty.Thread) t e = (ty.Thread, (refl, λ n v r. image_kept k ty.Thread t n v e r))
fills_known k (Some ty.Void) t e = (ty.Void, (refl, λ n v r. image_kept k ty.Void t n v e r))

-- an expression gives only values that fit a new type
abbrev pub Gives : Reads → ℕ → LExpr → Ty → Type 0
Gives r n e t = (x : View) (v : ℤ) → Holds r n x → value x e ≡ Ok v → Refers n t v

pub suits_gives : (k : Link) (r : Reads) (n : ℕ) (e : LExpr) (t : Ty) → fills_type k (type_in r e) t ≡ true → Gives r n e t
suits_gives k r n e t s x v h w = let f = fills_known k (type_in r e) t s in f.1.1 n v (typed_value r n x e f.0 v h f.1.0 w)

pub number_gives : (r : Reads) (n : ℕ) (i : ℤ) (t : Ty) → Refers n t i → Gives r n (l.Num i) t
unfolding literals
number_gives r n i t g x v h w = subst (λ a. Refers n t a) (same_ok i v w) g

pub slot_typed : (r : Reads) (i : ℕ) (o : Slot) → slice_get r.slots i ≡ Some o → type_in r (l.Slot i) ≡ Some o.ty
unfolding literals
slot_typed r i o g = ap (λ q. option_map (λ y. y.ty) q) g

pub slot_gives : (k : Link) (r : Reads) (n i : ℕ) (o : Slot) (t : Ty) → slice_get r.slots i ≡ Some o → is_image k o.ty t ≡ true → Gives r n (l.Slot i) t
slot_gives k r n i o t g e x v h w = image_kept k o.ty t n v e (typed_value r n x (l.Slot i) o.ty v h (slot_typed r i o g) w)

pub own_typed : (r : Reads) (i : ℕ) (o : Slot) → slice_get r.own i ≡ Some o → type_in r (l.Own i) ≡ Some o.ty
unfolding literals
own_typed r i o g = ap (λ q. option_map (λ y. y.ty) q) g

pub own_gives : (k : Link) (r : Reads) (n i : ℕ) (o : Slot) (t : Ty) → slice_get r.own i ≡ Some o → is_image k o.ty t ≡ true → Gives r n (l.Own i) t
own_gives k r n i o t g e x v h w = image_kept k o.ty t n v e (typed_value r n x (l.Own i) o.ty v h (own_typed r i o g) w)

pub filling_gives : (r : Reads) (n : ℕ) (declared old : Option LExpr) (t : Ty) → ((e : LExpr) → declared ≡ Some e → Gives r n e t) →
    ((e : LExpr) → old ≡ Some e → Gives r n e t) → Gives r n (filling declared old) t
filling_gives r n (Some e) old t d o = d e refl
filling_gives r n None (Some e) t d o = o e refl
filling_gives r n None None t d o = number_gives r n (pos 0) t (zero_refers n t)

pub position_found : {A : Type 0} (p : A → Bool) (xs : List A) (j i : ℕ) → position_from p j xs ≡ Some i →
    (m : ℕ) × ((i ≡ j + m) × ((x : A) × ((slice_get xs m ≡ Some x) × (p x ≡ true))))
position_found p [] j i e = absurd (none-some i e)
position_found {A} p (x ∷ xs) j i e = pick (p x) refl e (position_found p xs (j + 1) i) where
  pick : (b : Bool) → b ≡ p x → cond b (Some j) (position_from p (j + 1) xs) ≡ Some i →
      (position_from p (j + 1) xs ≡ Some i → (m : ℕ) × ((i ≡ j + 1 + m) × ((y : A) × ((slice_get xs m ≡ Some y) × (p y ≡ true))))) →
      (m : ℕ) × ((i ≡ j + m) × ((y : A) × ((slice_get (x ∷ xs) m ≡ Some y) × (p y ≡ true))))
  pick true t e more = (0, (let s : j ≡ i = same_Some j i e in omega (arith, s), (x, (refl, sym t))))
  pick false t e more = let r = more e in (suc r.0, (let s : i ≡ j + 1 + r.0 = r.1.0 in omega (arith, s), (r.1.1.0, (r.1.1.1.0, r.1.1.1.1))))

pub map_some : {A B : Type 0} (f : A → B) (o : Option A) (y : B) → option_map f o ≡ Some y → (x : A) × ((o ≡ Some x) × (f x ≡ y))
map_some f None y e = absurd (none-some y e)
map_some f (Some x) y e = (x, (refl, same_Some (f x) y e))

-- the fillings of all slots or fields from the j-th on
pub fillings_give : (k : Link) (r : Reads) (n : ℕ) (olds : List Slot) (declared : ℕ → Option LExpr) (wrap : ℕ → LExpr) (all news : List Slot) (j : ℕ) →
    ((i m : ℕ) (s : Slot) → m ≡ j + i → slice_get news i ≡ Some s → slice_get all m ≡ Some s) →
    ((i : ℕ) (e : LExpr) (s : Slot) → declared i ≡ Some e → slice_get all i ≡ Some s → Gives r n e s.ty) →
    ((i : ℕ) (o : Slot) (t : Ty) → slice_get olds i ≡ Some o → is_image k o.ty t ≡ true → Gives r n (wrap i) t) →
    AllZip (λ s e. Gives r n e s.ty) news (map (λ x. filling (declared x.0) (option_map wrap (carried k olds x.1))) (enumerate_from j news))
fillings_give k r n olds declared wrap all [] j h d w = tt
fillings_give k r n olds declared wrap all (s ∷ rest) j h d w = (
  filling_gives r n (declared j) (option_map wrap (carried k olds s)) s.ty (λ e g. d j e s g (h 0 j s (omega arith) refl)) kept,
  fillings_give k r n olds declared wrap all rest (j + 1) (λ i m q e g. h (suc i) m q (omega (arith, e)) g) d w,
)
  where
    kept : (e : LExpr) → option_map wrap (carried k olds s) ≡ Some e → Gives r n e s.ty
    kept e g =
        let c = map_some wrap (carried k olds s) e g in
        let f = position_found (λ o. is_same_name o.name s.name && is_image k o.ty s.ty) olds 0 c.0 c.1.0 in
        let same : c.0 ≡ f.0 = (let q : c.0 ≡ 0 + f.0 = f.1.0 in omega (arith, q)) in
        let at : slice_get olds c.0 ≡ Some f.1.1.0 = subst (λ i. slice_get olds i ≡ Some f.1.1.0) (sym same) f.1.1.1.0 in
        subst (λ y. Gives r n y s.ty) c.1.1
        (w c.0 f.1.1.0 s.ty at (and_both (is_same_name f.1.1.0.name s.name) (is_image k f.1.1.0.ty s.ty) f.1.1.1.1).1)

-- the values of fillings fit
pub filled_fits : (r : Reads) (n : ℕ) (x : View) (because : ℕ → ℕ → Reason) (i : ℕ) (slots : List Slot) (es : List LExpr) (vs : List ℤ) →
    Holds r n x → AllZip (λ s e. Gives r n e s.ty) slots es → filled x because i es ≡ Ok vs → Fits n slots vs
filled_fits r n x because i [] [] vs h z e = subst (λ w. Fits n [] w) (same_ok [] vs e) tt
filled_fits r n x because i [] (e ∷ es) vs h z w = absurd z
filled_fits r n x because i (s ∷ slots) [] vs h z w = absurd z
filled_fits r n x because i (s ∷ slots) (e ∷ es) vs h z w =
    let a = onward_known (with_reason (because i) (value x e)) (λ v. onward (filled x because (i + 1) es) (λ vs. Ok (v ∷ vs))) vs w in
    let b = onward_known (filled x because (i + 1) es) (λ vs. Ok (a.0 ∷ vs)) vs a.1.1 in
    subst (λ w. Fits n (s ∷ slots) w) (same_ok (a.0 ∷ b.0) vs b.1.1)
    (z.0 x a.0 h (reason_known (because i) (value x e) a.0 a.1.0), filled_fits r n x because (i + 1) slots es b.0 h z.1 b.1.0)
