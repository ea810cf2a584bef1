-- The sorts of values that are left of expressions.
use Rattle.std.proofs.Common.{◌≡◌, ℕ, zero, suc, ◌+◌, ℤ, Bool, true, false, ◌&&◌, ◌||◌, List, [], ◌∷◌, ◌++◌, length, Option, Some, None, refl, sym, ap, subst, ◌∙◌}
use Rattle.std.specs.Prelude.{slice_get, is_some, if◌then◌else◌, ⊤}
use Rattle.c_tree.specs.Compute.{literals}
use Rattle.c_tree.specs.declared.ty.Ty.{Ty}
use Rattle.c_tree.specs.declared.ty.Ty.TheVariants as ty
use Rattle.c_tree.specs.declared.op.UnOp.{UnOp}
use Rattle.c_tree.specs.declared.op.UnOp.TheVariants as un
use Rattle.c_tree.specs.declared.op.BinOp.{BinOp}
use Rattle.c_tree.specs.declared.op.BinOp.TheVariants as bin
use Rattle.c_tree.specs.declared.cause.CheckCause.TheVariants as c
use Rattle.c_tree.specs.declared.lifted.Slot.{Slot}
use Rattle.c_tree.specs.declared.lifted.Lifted.{Lifted}
use Rattle.c_tree.specs.declared.lifted.LExpr.{LExpr}
use Rattle.c_tree.specs.declared.lifted.LExpr as l
use Rattle.c_tree.specs.Fault.{fault, unless}
use Rattle.c_tree.specs.Types.{Side, is_int, is_thread, is_pointer, is_testable, may_be, takes, fits}
use Rattle.c_tree.specs.Typing.{ask, asked, anything, operand_test, test_for, is_freeable}
use Rattle.c_tree.specs.Lifting.{in_place, is_equality, is_lazy, literal}
use Rattle.c_tree.specs.Formed.{Sort, int, thread, pointer, sort_of_type, sort_of_slot, sort_of_scalar, sort_of_element, fields_in, is_int_sort, is_pointer_sort, is_testable_sort, are_alike_sorts, takes_one, takes_two, sort_if, sort_of, HasSort}
use Rattle.lift_laws.proofs.LimitLemmas.{both_true}
use Rattle.lift_laws.proofs.NoFaults.{passes}

-- form by form
pub sort-Num : (F : Lifted) (slots : List Slot) (n : ℤ) → sort_of F slots (l.Num n) ≡ Some int
unfolding literals sort_of
sort-Num F slots n = refl

pub sort-Null : (F : Lifted) (slots : List Slot) → sort_of F slots l.Null ≡ Some pointer
unfolding literals sort_of
sort-Null F slots = refl

pub sort-Slot : (F : Lifted) (slots : List Slot) (i : ℕ) → sort_of F slots (l.Slot i) ≡ sort_of_slot (slice_get slots i)
unfolding literals sort_of
sort-Slot F slots i = refl

pub sort-Global : (F : Lifted) (slots : List Slot) (g : ℕ) → sort_of F slots (l.Global g) ≡ sort_of_scalar (slice_get F.globals g)
unfolding literals sort_of
sort-Global F slots g = refl

pub sort-Elem : (F : Lifted) (slots : List Slot) (g : ℕ) (i : LExpr) → sort_of F slots (l.Elem g i) ≡ sort_if (is_int_sort (sort_of F slots i)) (sort_of_element (slice_get F.globals g))
unfolding literals sort_of
sort-Elem F slots g i = refl

pub sort-Field : (F : Lifted) (slots : List Slot) (o : LExpr) (owner field : ℕ) →
    sort_of F slots (l.Field o owner field) ≡ sort_if (is_pointer_sort (sort_of F slots o)) (sort_of_slot (slice_get (fields_in (slice_get F.structs owner)) field))
unfolding literals sort_of
sort-Field F slots o owner field = refl

pub sort-Un : (F : Lifted) (slots : List Slot) (op : UnOp) (a : LExpr) → sort_of F slots (l.Un op a) ≡ sort_if (takes_one op (sort_of F slots a)) (Some int)
unfolding literals sort_of
sort-Un F slots op a = refl

pub sort-Bin : (F : Lifted) (slots : List Slot) (op : BinOp) (a b : LExpr) → sort_of F slots (l.Bin op a b) ≡ sort_if (takes_two op (sort_of F slots a) (sort_of F slots b)) (Some int)
unfolding literals sort_of
sort-Bin F slots op a b = refl

pub sort-literal : (F : Lifted) (slots : List Slot) (minus : Bool) (n : ℤ) → sort_of F slots (literal minus n) ≡ Some int
unfolding literals sort_of
sort-literal F slots true n = refl
sort-literal F slots false n = refl

-- a type that is a value's
abbrev pub NotVoid : Option Ty → Type 0
NotVoid (Some ty.Void) = ⊥
NotVoid _ = ⊤

pub not_void : (test : Ty → Bool) (at : ℕ) (o : Option Ty) → ask test at o ≡ [] → NotVoid o
not_void test at None e = tt
not_void test at (Some ty.Void) e = cc
not_void test at (Some ty.Int) e = tt
not_void test at (Some ty.Thread) e = tt
not_void test at (Some ty.AnyPtr) e = tt
not_void test at (Some (ty.Ptr name)) e = tt

pub passed : (test : Ty → Bool) (at : ℕ) (T : Ty) → ask test at (Some T) ≡ [] → test T ≡ true
passed test at ty.Void e = cc
passed test at ty.Int e = passes (test ty.Int) _ e
passed test at ty.Thread e = passes (test ty.Thread) _ e
passed test at ty.AnyPtr e = passes (test ty.AnyPtr) _ e
passed test at (ty.Ptr name) e = passes (test (ty.Ptr name)) _ e

-- the sorts of types that pass a test
pub int_sort : (T : Ty) → is_int T ≡ true → sort_of_type T ≡ Some int
int_sort ty.Int e = refl
int_sort ty.Thread e = cc
int_sort ty.Void e = cc
int_sort ty.AnyPtr e = cc
int_sort (ty.Ptr name) e = cc

pub thread_sort : (T : Ty) → is_thread T ≡ true → sort_of_type T ≡ Some thread
thread_sort ty.Int e = cc
thread_sort ty.Thread e = refl
thread_sort ty.Void e = cc
thread_sort ty.AnyPtr e = cc
thread_sort (ty.Ptr name) e = cc

pub pointer_sort : (T : Ty) → is_pointer T ≡ true → sort_of_type T ≡ Some pointer
pointer_sort ty.Int e = cc
pointer_sort ty.Thread e = cc
pointer_sort ty.Void e = cc
pointer_sort ty.AnyPtr e = refl
pointer_sort (ty.Ptr name) e = refl

pub testable_sort : (T : Ty) → is_testable T ≡ true → is_testable_sort (sort_of_type T) ≡ true
testable_sort ty.Int e = refl
testable_sort ty.Thread e = cc
testable_sort ty.Void e = cc
testable_sort ty.AnyPtr e = refl
testable_sort (ty.Ptr name) e = refl

-- a value where one is asked
pub has_sort : (a b : Option Sort) (T : Ty) → a ≡ sort_of_type T → b ≡ sort_of_type T → NotVoid (Some T) → HasSort a b
has_sort a b T e h some = subst (λ o. HasSort o b) (sym e) (from T h some) where
  from : (T : Ty) → b ≡ sort_of_type T → NotVoid (Some T) → HasSort (sort_of_type T) b
  from ty.Int h some = h
  from ty.Thread h some = h
  from ty.Void h some = absurd some
  from ty.AnyPtr h some = h
  from (ty.Ptr name) h some = h

-- an operand
pub un_takes : (op : UnOp) (T : Ty) (a : Option Sort) → a ≡ sort_of_type T → operand_test op T ≡ true → takes_one op a ≡ true
un_takes un.Not T a e h = ap is_testable_sort e ∙ testable_sort T h
un_takes un.Neg T a e h = ap is_int_sort (e ∙ int_sort T h)
un_takes un.Flip T a e h = ap is_int_sort (e ∙ int_sort T h)

-- the literal 0 in a pointer's place
pub place_pointer : (F : Lifted) (slots : List Slot) (b z : Bool) (v : LExpr) → sort_of F slots v ≡ Some pointer → sort_of F slots (in_place b z v) ≡ Some pointer
place_pointer F slots true true v e = sort-Null F slots
place_pointer F slots true false v e = e
place_pointer F slots false z v e = e

pub place_zero : (F : Lifted) (slots : List Slot) (z : Bool) (v : LExpr) → z ≡ true → sort_of F slots (in_place true z v) ≡ Some pointer
place_zero F slots true v e = sort-Null F slots
place_zero F slots false v e = cc

abbrev pub side_of : Ty → Bool → Side
side_of T z = record { type = Some T; zero = z }

abbrev pub beside_value : BinOp → Ty → Bool → LExpr → LExpr
beside_value op other z v = in_place (is_equality op && is_pointer other) z v

pub either_false : (z : Bool) → (z || false || false) ≡ true → z ≡ true
either_false true e = refl
either_false false e = cc

module _ (F : Lifted) (slots : List Slot) (zx zy : Bool) (va vb : LExpr) where
  both_pointers : sort_of F slots va ≡ Some pointer → sort_of F slots vb ≡ Some pointer →
      are_alike_sorts (sort_of F slots (in_place true zx va)) (sort_of F slots (in_place true zy vb)) ≡ true
  both_pointers a b = ap (λ o. are_alike_sorts o (sort_of F slots (in_place true zy vb))) (place_pointer F slots true zx va a) ∙ ap is_pointer_sort (place_pointer F slots true zy vb b)

  left_zero : zx ≡ true → sort_of F slots vb ≡ Some pointer → are_alike_sorts (sort_of F slots (in_place true zx va)) (sort_of F slots vb) ≡ true
  left_zero z b = ap (λ o. are_alike_sorts o (sort_of F slots vb)) (place_zero F slots zx va z) ∙ ap is_pointer_sort b

  right_zero : zy ≡ true → sort_of F slots va ≡ Some pointer → are_alike_sorts (sort_of F slots va) (sort_of F slots (in_place true zy vb)) ≡ true
  right_zero z a = ap (λ o. are_alike_sorts o (sort_of F slots (in_place true zy vb))) a ∙ ap is_pointer_sort (place_zero F slots zy vb z)

  pub alike : (S T : Ty) → sort_of F slots va ≡ sort_of_type S → sort_of F slots vb ≡ sort_of_type T → NotVoid (Some S) → NotVoid (Some T) → takes bin.Eq (side_of S zx) (side_of T zy) ≡ true →
      are_alike_sorts (sort_of F slots (in_place (is_pointer T) zx va)) (sort_of F slots (in_place (is_pointer S) zy vb)) ≡ true
  alike ty.Void T a b m n e = absurd m
  alike S ty.Void a b m n e = absurd n
  alike ty.Int ty.Int a b m n e = ap (λ o. are_alike_sorts o (sort_of F slots vb)) a ∙ ap is_int_sort b
  alike ty.Int ty.Thread a b m n e = cc
  alike ty.Int ty.AnyPtr a b m n e = left_zero e b
  alike ty.Int (ty.Ptr q) a b m n e = left_zero e b
  alike ty.Thread ty.Int a b m n e = cc
  alike ty.Thread ty.Thread a b m n e = cc
  alike ty.Thread ty.AnyPtr a b m n e = left_zero e b
  alike ty.Thread (ty.Ptr q) a b m n e = left_zero e b
  alike ty.AnyPtr ty.Int a b m n e = right_zero (either_false zy e) a
  alike ty.AnyPtr ty.Thread a b m n e = right_zero (either_false zy e) a
  alike ty.AnyPtr ty.AnyPtr a b m n e = both_pointers a b
  alike ty.AnyPtr (ty.Ptr q) a b m n e = both_pointers a b
  alike (ty.Ptr r) ty.Int a b m n e = right_zero (either_false zy e) a
  alike (ty.Ptr r) ty.Thread a b m n e = right_zero (either_false zy e) a
  alike (ty.Ptr r) ty.AnyPtr a b m n e = both_pointers a b
  alike (ty.Ptr r) (ty.Ptr q) a b m n e = both_pointers a b

-- the sides of an operator
pub may : (test : Ty → Bool) (T : Ty) → NotVoid (Some T) → may_be test (Some T) ≡ true → test T ≡ true
may test ty.Int n e = e
may test ty.Thread n e = e
may test ty.Void n e = absurd n
may test ty.AnyPtr n e = e
may test (ty.Ptr name) n e = e

module _ (F : Lifted) (slots : List Slot) (S T : Ty) (zx zy : Bool) (va vb : LExpr)
    (a : sort_of F slots va ≡ sort_of_type S) (b : sort_of F slots vb ≡ sort_of_type T) (m : NotVoid (Some S)) (n : NotVoid (Some T)) where
  both_ints : (may_be is_int (Some S) && may_be is_int (Some T)) ≡ true → (is_int_sort (sort_of F slots va) && is_int_sort (sort_of F slots vb)) ≡ true
  both_ints e =
      let both = both_true (may_be is_int (Some S)) (may_be is_int (Some T)) e in
      ap (λ o. is_int_sort o && is_int_sort (sort_of F slots vb)) (a ∙ int_sort S (may is_int S m both.0)) ∙ ap is_int_sort (b ∙ int_sort T (may is_int T n both.1))

  both_testable : (may_be is_testable (Some S) && may_be is_testable (Some T)) ≡ true → (is_testable_sort (sort_of F slots va) ≡ true) × (is_testable_sort (sort_of F slots vb) ≡ true)
  both_testable e =
      let both = both_true (may_be is_testable (Some S)) (may_be is_testable (Some T)) e in
      (ap is_testable_sort a ∙ testable_sort S (may is_testable S m both.0), ap is_testable_sort b ∙ testable_sort T (may is_testable T n both.1))

  both_tests : (may_be is_testable (Some S) && may_be is_testable (Some T)) ≡ true → (is_testable_sort (sort_of F slots va) && is_testable_sort (sort_of F slots vb)) ≡ true
  both_tests e = let r = both_testable e in ap (λ x. x && is_testable_sort (sort_of F slots vb)) r.0 ∙ r.1

  pub bin_takes : (op : BinOp) → takes op (side_of S zx) (side_of T zy) ≡ true →
      takes_two op (sort_of F slots (beside_value op T zx va)) (sort_of F slots (beside_value op S zy vb)) ≡ true
  bin_takes bin.Mul e = both_ints e
  bin_takes bin.Div e = both_ints e
  bin_takes bin.Rem e = both_ints e
  bin_takes bin.Add e = both_ints e
  bin_takes bin.Sub e = both_ints e
  bin_takes bin.Shl e = both_ints e
  bin_takes bin.Shr e = both_ints e
  bin_takes bin.Lt e = both_ints e
  bin_takes bin.Le e = both_ints e
  bin_takes bin.Gt e = both_ints e
  bin_takes bin.Ge e = both_ints e
  bin_takes bin.Eq e = alike F slots zx zy va vb S T a b m n e
  bin_takes bin.Ne e = alike F slots zx zy va vb S T a b m n e
  bin_takes bin.BitAnd e = both_ints e
  bin_takes bin.BitXor e = both_ints e
  bin_takes bin.BitOr e = both_ints e
  bin_takes bin.And e = both_tests e
  bin_takes bin.Or e = both_tests e

  pub lazy_takes : (op : BinOp) → is_lazy op ≡ true → takes op (side_of S zx) (side_of T zy) ≡ true →
      (is_testable_sort (sort_of F slots va) ≡ true) × (is_testable_sort (sort_of F slots vb) ≡ true)
  lazy_takes bin.And h e = both_testable e
  lazy_takes bin.Or h e = both_testable e
  lazy_takes bin.Mul h e = cc
  lazy_takes bin.Div h e = cc
  lazy_takes bin.Rem h e = cc
  lazy_takes bin.Add h e = cc
  lazy_takes bin.Sub h e = cc
  lazy_takes bin.Shl h e = cc
  lazy_takes bin.Shr h e = cc
  lazy_takes bin.Lt h e = cc
  lazy_takes bin.Le h e = cc
  lazy_takes bin.Gt h e = cc
  lazy_takes bin.Ge h e = cc
  lazy_takes bin.Eq h e = cc
  lazy_takes bin.Ne h e = cc
  lazy_takes bin.BitAnd h e = cc
  lazy_takes bin.BitXor h e = cc
  lazy_takes bin.BitOr h e = cc

-- a value that fits a type, or is the literal 0 in a pointer's place
pub fitted_sort : (F : Lifted) (slots : List Slot) (want T : Ty) (z : Bool) (v : LExpr) → sort_of F slots v ≡ sort_of_type T → NotVoid (Some T) → fits want T z ≡ true →
    sort_of F slots (in_place (is_pointer want) z v) ≡ sort_of_type want
fitted_sort F slots want ty.Void z v a n e = absurd n
fitted_sort F slots ty.Int ty.Int z v a n e = a
fitted_sort F slots ty.Int ty.Thread z v a n e = cc
fitted_sort F slots ty.Int ty.AnyPtr z v a n e = cc
fitted_sort F slots ty.Int (ty.Ptr q) z v a n e = cc
fitted_sort F slots ty.Thread ty.Int z v a n e = cc
fitted_sort F slots ty.Thread ty.Thread z v a n e = a
fitted_sort F slots ty.Thread ty.AnyPtr z v a n e = cc
fitted_sort F slots ty.Thread (ty.Ptr q) z v a n e = cc
fitted_sort F slots ty.Void ty.Int z v a n e = cc
fitted_sort F slots ty.Void ty.Thread z v a n e = cc
fitted_sort F slots ty.Void ty.AnyPtr z v a n e = cc
fitted_sort F slots ty.Void (ty.Ptr q) z v a n e = cc
fitted_sort F slots ty.AnyPtr ty.Int true v a n e = sort-Null F slots
fitted_sort F slots ty.AnyPtr ty.Int false v a n e = cc
fitted_sort F slots ty.AnyPtr ty.Thread true v a n e = sort-Null F slots
fitted_sort F slots ty.AnyPtr ty.Thread false v a n e = cc
fitted_sort F slots ty.AnyPtr ty.AnyPtr z v a n e = place_pointer F slots true z v a
fitted_sort F slots ty.AnyPtr (ty.Ptr q) z v a n e = place_pointer F slots true z v a
fitted_sort F slots (ty.Ptr r) ty.Int true v a n e = sort-Null F slots
fitted_sort F slots (ty.Ptr r) ty.Int false v a n e = cc
fitted_sort F slots (ty.Ptr r) ty.Thread true v a n e = sort-Null F slots
fitted_sort F slots (ty.Ptr r) ty.Thread false v a n e = cc
fitted_sort F slots (ty.Ptr r) ty.AnyPtr z v a n e = place_pointer F slots true z v a
fitted_sort F slots (ty.Ptr r) (ty.Ptr q) z v a n e = place_pointer F slots true z v a
