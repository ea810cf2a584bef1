-- Taking the calls out, form by form.
use Rattle.std.proofs.Common.{◌≡◌, ℕ, ℤ, pos, ◌+◌, Bool, true, false, ◌&&◌, List, [], ◌∷◌, ◌++◌, length, drop, Option, Some, None, refl, sym, ◌∙◌, ap, subst, append_assoc}
use Rattle.std.specs.Prelude.{unwrap_or, if◌then◌else◌}
use Rattle.std.proofs.lemmas.List.{append-nil}
use Rattle.c_tree.specs.Compute.{literals}
use Rattle.c_tree.specs.declared.ty.Ty.{Ty}
use Rattle.c_tree.specs.declared.ty.Ty.TheVariants as ty
use Rattle.c_tree.specs.declared.op.UnOp.{UnOp}
use Rattle.c_tree.specs.declared.op.BinOp.{BinOp}
use Rattle.c_tree.specs.declared.scope.Meaning.{Meaning}
use Rattle.c_tree.specs.declared.lifted.LExpr.{LExpr}
use Rattle.c_tree.specs.declared.lifted.LExpr as l
use Rattle.c_tree.specs.declared.lifted.LStmt.{LStmt}
use Rattle.c_tree.specs.declared.lifted.LStmt.TheVariants as t
use Rattle.c_tree.specs.declared.program.At.{At}
use Rattle.c_tree.specs.declared.program.Expr.{Expr}
use Rattle.c_tree.specs.declared.program.ExprKind.{ExprKind}
use Rattle.c_tree.specs.declared.program.ExprKind.TheVariants as e
use Rattle.c_tree.specs.declared.program.Field.{Field}
use Rattle.c_tree.specs.declared.program.Function.{Function}
use Rattle.c_tree.specs.Scope.{meaning, routine}
use Rattle.c_tree.specs.Types.{type_of, name_type, element_type, member_type, result_type, is_zero}
use Rattle.c_tree.specs.Typing.{parameters}
use Rattle.c_tree.specs.Lifting.{Spot, Taken, AllTaken, take_calls, take_arguments, taken, with_value, with_zero, into_temporary, named, literal, array_number, field_in, has_call, is_lazy, is_equality, is_pointer_type, in_place, beside, fitted, fitted_first, joined, temporaries, deciding, destination, function_number, struct_number, mutex_number}
use Rattle.lift_laws.proofs.ArgumentLemmas.{list-more, list-none}
use Rattle.c_lift.specs.Taking.{Took, TookAll, take_list, Operates, operated}

-- what is taken from an expression of a form
pub took_form : {w : Spot} {x : ExprKind} {calls : List LStmt} {made : List Ty} {r : LExpr} {told : Option Ty} {calls' : List LStmt} {made' : List Ty} (form : ExprKind) (T : Taken) →
    x ≡ form → take_calls w made form ≡ T → told ≡ type_of w.scope form → r ≡ T.value → calls' ≡ calls ++ T.calls → made' ≡ T.made → Took w x calls made r told calls' made'
took_form {w = w} {calls = calls} {made = made} form T is whole typed value added all = record {
  left = value ∙ ap (λ y. y.value) (sym whole) ∙ ap (λ y. (take_calls w made y).value) (sym is);
  told = typed ∙ ap (type_of w.scope) (sym is);
  added = added ∙ ap (λ y. calls ++ y.calls) (sym whole) ∙ ap (λ y. calls ++ (take_calls w made y).calls) (sym is);
  all = all ∙ ap (λ y. y.made) (sym whole) ∙ ap (λ y. (take_calls w made y).made) (sym is);
}

-- an expression that has no operand and no call
pub took_leaf : {w : Spot} {x : ExprKind} {calls : List LStmt} {made : List Ty} {r : LExpr} {told : Option Ty} (form : ExprKind) (value : LExpr) →
    x ≡ form → take_calls w made form ≡ taken [] value made → told ≡ type_of w.scope form → r ≡ value → Took w x calls made r told calls made
took_leaf {calls = calls} {made = made} form value is whole typed same = took_form form (taken [] value made) is whole typed same (sym (append-nil calls)) refl

pub take-Num : (w : Spot) (made : List Ty) (n : ℤ) → take_calls w made (e.Num n) ≡ taken [] (l.Num n) made
unfolding literals take_calls
take-Num w made n = refl

pub take-Null : (w : Spot) (made : List Ty) → take_calls w made e.Null ≡ taken [] l.Null made
unfolding literals take_calls
take-Null w made = refl

pub take-Eof : (w : Spot) (made : List Ty) → take_calls w made e.Eof ≡ taken [] (literal true (pos 1)) made
unfolding literals take_calls
take-Eof w made = refl

pub take-Slot : (w : Spot) (made : List Ty) (name : List ℕ) (k : ℕ) → take_calls w made (e.Slot name k) ≡ taken [] l.Null made
unfolding literals take_calls
take-Slot w made name k = refl

pub take-Name : (w : Spot) (made : List Ty) (name : List ℕ) → take_calls w made (e.Name name) ≡ taken [] (named w.scope.program (meaning w.scope name)) made
unfolding literals take_calls
take-Name w made name = refl

-- one operand
pub take-Index : (w : Spot) (made : List Ty) (name : List ℕ) (i : Expr) →
    take_calls w made (e.Index name i) ≡ with_value (take_calls w made i.kind) (l.Elem (array_number (meaning w.scope name)) (take_calls w made i.kind).value)
unfolding literals take_calls
take-Index w made name i = refl

pub take-Field : (w : Spot) (made : List Ty) (base : Expr) (name : List ℕ) →
    take_calls w made (e.Field base name) ≡ with_value (take_calls w made base.kind) (field_in w.scope (take_calls w made base.kind).value (type_of w.scope base.kind) name)
unfolding literals take_calls
take-Field w made base name = refl

pub take-Un : (w : Spot) (made : List Ty) (op : UnOp) (a : Expr) → take_calls w made (e.Un op a) ≡ with_value (take_calls w made a.kind) (l.Un op (take_calls w made a.kind).value)
unfolding literals take_calls
take-Un w made op a = refl

pub take-Cast : (w : Spot) (made : List Ty) (s : Ty) (a : Expr) → take_calls w made (e.Cast s a) ≡ take_calls w made a.kind
unfolding literals take_calls
take-Cast w made s a = refl

pub type-Field : (w : Spot) (base : Expr) (name : List ℕ) → type_of w.scope (e.Field base name) ≡ member_type w.scope (type_of w.scope base.kind) name
unfolding literals
type-Field w base name = refl

pub took_index : {w : Spot} {x k : ExprKind} {calls : List LStmt} {made : List Ty} {v r : LExpr} {s told : Option Ty} {calls' : List LStmt} {made' : List Ty} (name : List ℕ) (i : Expr) →
    x ≡ e.Index name i → k ≡ i.kind → Took w k calls made v s calls' made' →
    r ≡ l.Elem (array_number (meaning w.scope name)) v → told ≡ element_type w.scope.program (meaning w.scope name) → Took w x calls made r told calls' made'
took_index {w = w} {calls = calls} {made = made} name i is same took value typed =
    took_form (e.Index name i) (with_value (take_calls w made i.kind) (l.Elem (array_number (meaning w.scope name)) (take_calls w made i.kind).value)) is (take-Index w made name i) typed
    (value ∙ ap (l.Elem (array_number (meaning w.scope name))) (took.left ∙ ap (λ y. (take_calls w made y).value) same))
    (took.added ∙ ap (λ y. calls ++ (take_calls w made y).calls) same) (took.all ∙ ap (λ y. (take_calls w made y).made) same)

pub took_field : {w : Spot} {x k : ExprKind} {calls : List LStmt} {made : List Ty} {v r : LExpr} {s told : Option Ty} {calls' : List LStmt} {made' : List Ty} (base : Expr) (name : List ℕ) →
    x ≡ e.Field base name → k ≡ base.kind → Took w k calls made v s calls' made' →
    r ≡ field_in w.scope v s name → told ≡ member_type w.scope s name → Took w x calls made r told calls' made'
took_field {w = w} {calls = calls} {made = made} {v = v} base name is same took value typed =
    took_form (e.Field base name) (with_value (take_calls w made base.kind) (field_in w.scope (take_calls w made base.kind).value (type_of w.scope base.kind) name)) is (take-Field w made base name)
    (typed ∙ ap (λ s. member_type w.scope s name) (took.told ∙ ap (type_of w.scope) same) ∙ sym (type-Field w base name))
    (value ∙ ap (λ s. field_in w.scope v s name) (took.told ∙ ap (type_of w.scope) same)
    ∙ ap (λ y. field_in w.scope y (type_of w.scope base.kind) name) (took.left ∙ ap (λ y. (take_calls w made y).value) same))
    (took.added ∙ ap (λ y. calls ++ (take_calls w made y).calls) same) (took.all ∙ ap (λ y. (take_calls w made y).made) same)

pub took_un : {w : Spot} {x k : ExprKind} {calls : List LStmt} {made : List Ty} {v r : LExpr} {s told : Option Ty} {calls' : List LStmt} {made' : List Ty} (op : UnOp) (a : Expr) →
    x ≡ e.Un op a → k ≡ a.kind → Took w k calls made v s calls' made' → r ≡ l.Un op v → told ≡ Some ty.Int → Took w x calls made r told calls' made'
took_un {w = w} {calls = calls} {made = made} op a is same took value typed =
    took_form (e.Un op a) (with_value (take_calls w made a.kind) (l.Un op (take_calls w made a.kind).value)) is (take-Un w made op a) typed
    (value ∙ ap (l.Un op) (took.left ∙ ap (λ y. (take_calls w made y).value) same))
    (took.added ∙ ap (λ y. calls ++ (take_calls w made y).calls) same) (took.all ∙ ap (λ y. (take_calls w made y).made) same)

pub took_cast : {w : Spot} {x k : ExprKind} {calls : List LStmt} {made : List Ty} {v r : LExpr} {s told : Option Ty} {calls' : List LStmt} {made' : List Ty} (to : Ty) (a : Expr) →
    x ≡ e.Cast to a → k ≡ a.kind → Took w k calls made v s calls' made' → r ≡ v → told ≡ Some to → Took w x calls made r told calls' made'
took_cast {w = w} {calls = calls} {made = made} to a is same took value typed =
    took_form (e.Cast to a) (take_calls w made a.kind) is (take-Cast w made to a) typed
    (value ∙ took.left ∙ ap (λ y. (take_calls w made y).value) same)
    (took.added ∙ ap (λ y. calls ++ (take_calls w made y).calls) same) (took.all ∙ ap (λ y. (take_calls w made y).made) same)

-- one operand after the other
pub record Both (w : Spot) (a b : ExprKind) (calls : List LStmt) (made : List Ty) (v1 v2 : LExpr) (s1 s2 : Option Ty) (calls2 : List LStmt) (made2 : List Ty) : Type 0 where
  pub one : v1 ≡ (take_calls w made a).value
  pub two : v2 ≡ (take_calls w (take_calls w made a).made b).value
  pub told_one : s1 ≡ type_of w.scope a
  pub told_two : s2 ≡ type_of w.scope b
  pub added : calls2 ≡ calls ++ ((take_calls w made a).calls ++ (take_calls w (take_calls w made a).made b).calls)
  pub all : made2 ≡ (take_calls w (take_calls w made a).made b).made

pub took_both : {w : Spot} {j k : ExprKind} {calls calls1 calls2 : List LStmt} {made made1 made2 : List Ty} {v1 v2 : LExpr} {s1 s2 : Option Ty} (a b : ExprKind) →
    j ≡ a → k ≡ b → Took w j calls made v1 s1 calls1 made1 → Took w k calls1 made1 v2 s2 calls2 made2 → Both w a b calls made v1 v2 s1 s2 calls2 made2
took_both {w = w} {calls = calls} {calls1 = calls1} {made = made} {made1 = made1} a b is_a is_b t1 t2 =
    let all1 : made1 ≡ (take_calls w made a).made = t1.all ∙ ap (λ y. (take_calls w made y).made) is_a in
    let next : (take_calls w made1 _) ≡ take_calls w (take_calls w made a).made b = ap (λ y. take_calls w made1 y) is_b ∙ ap (λ m. take_calls w m b) all1 in
    record {
      one = t1.left ∙ ap (λ y. (take_calls w made y).value) is_a;
      two = t2.left ∙ ap (λ y. y.value) next;
      told_one = t1.told ∙ ap (type_of w.scope) is_a;
      told_two = t2.told ∙ ap (type_of w.scope) is_b;
      added = t2.added ∙ ap (λ y. calls1 ++ y.calls) next ∙ ap (λ c. c ++ (take_calls w (take_calls w made a).made b).calls) (t1.added ∙ ap (λ y. calls ++ (take_calls w made y).calls) is_a)
          ∙ append_assoc calls (take_calls w made a).calls (take_calls w (take_calls w made a).made b).calls;
      all = t2.all ∙ ap (λ y. y.made) next;
    }

-- what an operator gives, by whether the left side decides if the right one is made
abbrev pub bin_taken : Spot → List Ty → BinOp → ExprKind → ExprKind → Bool → Taken
bin_taken w made op x y splits =
    let a = take_calls w made x in
    let b = take_calls w (temporaries splits a.made) y in
    joined splits op (w.slots + length a.made) a b (l.Bin op (beside w.scope op x y a.value) (beside w.scope op y x b.value))

pub take-Bin : (w : Spot) (made : List Ty) (op : BinOp) (a b : Expr) → take_calls w made (e.Bin op a b) ≡ bin_taken w made op a.kind b.kind (is_lazy op && has_call b.kind)
unfolding literals take_calls
take-Bin w made op a b = refl

-- the sides of an operator, beside one another
abbrev pub sides : Spot → BinOp → ExprKind → ExprKind → LExpr → LExpr → Option Ty → Option Ty → LExpr
sides w op a b v1 v2 s1 s2 =
    l.Bin op (in_place (is_equality op && is_pointer_type s2) (is_zero w.scope a) v1) (in_place (is_equality op && is_pointer_type s1) (is_zero w.scope b) v2)

-- an operator whose sides are both made
pub took_bin : {w : Spot} {x : ExprKind} {calls : List LStmt} {made : List Ty} {v1 v2 r : LExpr} {s1 s2 told : Option Ty} {calls2 : List LStmt} {made2 : List Ty} (op : BinOp) (a b : Expr) →
    x ≡ e.Bin op a b → (is_lazy op && has_call b.kind) ≡ false → Both w a.kind b.kind calls made v1 v2 s1 s2 calls2 made2 →
    r ≡ sides w op a.kind b.kind v1 v2 s1 s2 → told ≡ Some ty.Int → Took w x calls made r told calls2 made2
took_bin {w = w} {made = made} {v1 = v1} {v2 = v2} {s1 = s1} {s2 = s2} op a b is plain took value typed =
    took_form (e.Bin op a b) (bin_taken w made op a.kind b.kind false) is (take-Bin w made op a b ∙ ap (bin_taken w made op a.kind b.kind) plain) typed
    (value ∙ ap (λ s. sides w op a.kind b.kind v1 v2 s s2) took.told_one ∙ ap (λ s. sides w op a.kind b.kind v1 v2 (type_of w.scope a.kind) s) took.told_two
    ∙ ap (λ v. sides w op a.kind b.kind v v2 (type_of w.scope a.kind) (type_of w.scope b.kind)) took.one
    ∙ ap (λ v. sides w op a.kind b.kind (take_calls w made a.kind).value v (type_of w.scope a.kind) (type_of w.scope b.kind)) took.two)
    took.added took.all

-- `&&` and `||` whose right side has a call
pub took_lazy : {w : Spot} {x j k : ExprKind} {calls calls1 branch calls2 : List LStmt} {made made1 made2 made3 : List Ty} {v1 v2 r : LExpr} {s1 s2 told : Option Ty} (op : BinOp) (a b : Expr) (slot : ℕ) →
    x ≡ e.Bin op a b → j ≡ a.kind → k ≡ b.kind → (is_lazy op && has_call b.kind) ≡ true →
    Took w j calls made v1 s1 calls1 made1 → slot ≡ w.slots + length made1 → made2 ≡ made1 ++ ty.Int ∷ [] → Took w k [] made2 v2 s2 branch made3 →
    calls2 ≡ calls1 ++ deciding op slot v1 branch v2 → r ≡ l.Slot slot → told ≡ Some ty.Int → Took w x calls made r told calls2 made3
took_lazy {w = w} {k = k} {calls = calls} {calls1 = calls1} {branch = branch} {made = made} {made1 = made1} {made2 = made2} {v1 = v1} {v2 = v2} op a b slot is is_a is_b lazy t1 at more t2 added value typed =
    took_form (e.Bin op a b) (bin_taken w made op a.kind b.kind true) is (take-Bin w made op a b ∙ ap (bin_taken w made op a.kind b.kind) lazy) typed
    (value ∙ ap l.Slot place)
    (added ∙ ap (λ c. c ++ deciding op slot v1 branch v2) (t1.added ∙ ap (λ y. calls ++ (take_calls w made y).calls) is_a)
    ∙ append_assoc calls A.calls (deciding op slot v1 branch v2)
    ∙ ap (λ n. calls ++ (A.calls ++ deciding op n v1 branch v2)) place
    ∙ ap (λ v. calls ++ (A.calls ++ deciding op K v branch v2)) (t1.left ∙ ap (λ y. (take_calls w made y).value) is_a)
    ∙ ap (λ c. calls ++ (A.calls ++ deciding op K A.value c v2)) (t2.added ∙ ap (λ y. y.calls) next)
    ∙ ap (λ v. calls ++ (A.calls ++ deciding op K A.value B.calls v)) (t2.left ∙ ap (λ y. y.value) next))
    (t2.all ∙ ap (λ y. y.made) next) where
      A : Taken
      A = take_calls w made a.kind

      K : ℕ
      K = w.slots + length A.made

      B : Taken
      B = take_calls w (A.made ++ ty.Int ∷ []) b.kind

      all1 : made1 ≡ A.made
      all1 = t1.all ∙ ap (λ y. (take_calls w made y).made) is_a

      place : slot ≡ K
      place = at ∙ ap (λ m. w.slots + length m) all1

      next : take_calls w made2 k ≡ B
      next = ap (take_calls w made2) is_b ∙ ap (λ m. take_calls w m b.kind) (more ∙ ap (λ m. m ++ ty.Int ∷ []) all1)

-- an operator, of which the sides were taken
pub took_operator : {w : Spot} {x : ExprKind} {calls calls1 more calls2 : List LStmt} {made made1 made2 made3 : List Ty} {v1 v2 r : LExpr} {s1 s2 told : Option Ty} {slot : Option ℕ} (op : BinOp) (a b : Expr) →
    x ≡ e.Bin op a b → Took w a.kind calls made v1 s1 calls1 made1 → slot ≡ (if is_lazy op && has_call b.kind then Some (w.slots + length made1) else None) →
    made2 ≡ temporaries (is_lazy op && has_call b.kind) made1 → Took w b.kind [] made2 v2 s2 more made3 →
    Operates w op a.kind v1 s1 b.kind v2 s2 slot more calls1 r told calls2 → Took w x calls made r told calls2 made3
took_operator {w = w} {x = x} {calls = calls} {calls1 = calls1} {more = more} {calls2 = calls2} {made = made} {made1 = made1} {made2 = made2} {made3 = made3} {v1 = v1} {v2 = v2} {r = r} {s1 = s1} {s2 = s2} {told = told} {slot = slot} op a b is t1 slot_is made_is t2 done =
    pick (is_lazy op && has_call b.kind) refl slot_is made_is where
      pick : (p : Bool) → (is_lazy op && has_call b.kind) ≡ p → slot ≡ (if p then Some (w.slots + length made1) else None) → made2 ≡ temporaries p made1 → Took w x calls made r told calls2 made3
      pick false plain none same =
          let o = λ (n : Option ℕ). operated w op a.kind v1 s1 b.kind v2 s2 n more calls1 in
          let right : Took w b.kind calls1 made1 v2 s2 calls2 made3 = record {
            left = t2.left ∙ ap (λ m. (take_calls w m b.kind).value) same;
            told = t2.told;
            added = done.added ∙ ap (λ n. (o n).1) none ∙ ap (λ c. calls1 ++ c) (t2.added ∙ ap (λ m. (take_calls w m b.kind).calls) same);
            all = t2.all ∙ ap (λ m. (take_calls w m b.kind).made) same;
          } in
          took_bin op a b is plain (took_both a.kind b.kind refl refl t1 right) (done.left ∙ ap (λ n. (o n).0) none) done.told
      pick true lazy some more_is =
          let o = λ (n : Option ℕ). operated w op a.kind v1 s1 b.kind v2 s2 n more calls1 in
          took_lazy op a b (w.slots + length made1) is refl refl lazy t1 refl more_is t2 (done.added ∙ ap (λ n. (o n).1) some) (done.left ∙ ap (λ n. (o n).0) some) done.told

-- calls
pub take-Call : (w : Spot) (made : List Ty) (name : List ℕ) (args : List Expr) → take_calls w made (e.Call name args) ≡
    (let a = take_list w made (parameters (routine w.scope.program (meaning w.scope name))) args in
    into_temporary w a.calls (unwrap_or (result_type (routine w.scope.program (meaning w.scope name))) ty.Int) a.made (λ k. t.Call (Some k) (function_number w.scope.program name) a.values))
unfolding literals take_calls
take-Call w made name args = refl

pub take-Malloc : (w : Spot) (made : List Ty) (name : At (List ℕ)) →
    take_calls w made (e.Malloc name) ≡ into_temporary w [] (ty.Ptr name.it) made (λ k. t.New k (struct_number w.scope.program name.it))
unfolding literals take_calls
take-Malloc w made name = refl

pub take-Getchar : (w : Spot) (made : List Ty) → take_calls w made e.Getchar ≡ into_temporary w [] ty.Int made (λ k. t.Getc k)
unfolding literals take_calls
take-Getchar w made = refl

pub take-Create : (w : Spot) (made : List Ty) (dest : Expr) (name : At (List ℕ)) (x : Expr) → take_calls w made (e.Create dest name x) ≡
    (let a = take_calls w made dest.kind in
    let b = take_calls w a.made x.kind in
    with_zero (a.calls ++ b.calls) b.made (t.Spawn (destination a.value) (function_number w.scope.program name.it) (fitted w.scope ty.AnyPtr x.kind b.value)))
unfolding literals take_calls
take-Create w made dest name x = refl

pub take-Join : (w : Spot) (made : List Ty) (x : Expr) → take_calls w made (e.Join x) ≡ with_zero (take_calls w made x.kind).calls (take_calls w made x.kind).made (t.Join (take_calls w made x.kind).value)
unfolding literals take_calls
take-Join w made x = refl

pub take-Lock : (w : Spot) (made : List Ty) (name : At (List ℕ)) → take_calls w made (e.Lock name) ≡ with_zero [] made (t.Lock (mutex_number (meaning w.scope name.it)))
unfolding literals take_calls
take-Lock w made name = refl

pub take-Unlock : (w : Spot) (made : List Ty) (name : At (List ℕ)) → take_calls w made (e.Unlock name) ≡ with_zero [] made (t.Unlock (mutex_number (meaning w.scope name.it)))
unfolding literals take_calls
take-Unlock w made name = refl

-- a call that gives 0
pub took_zero : {w : Spot} {x : ExprKind} {calls calls1 calls2 : List LStmt} {made made1 : List Ty} {r : LExpr} {told : Option Ty} (form : ExprKind) (before : List LStmt) (made' : List Ty) (call : LStmt) →
    x ≡ form → take_calls w made form ≡ with_zero before made' call → told ≡ type_of w.scope form → r ≡ l.Num (pos 0) → calls1 ≡ calls ++ before → calls2 ≡ calls1 ++ call ∷ [] → made1 ≡ made' →
    Took w x calls made r told calls2 made1
took_zero {calls = calls} form before made' call is whole typed value first added all =
    took_form form (with_zero before made' call) is whole typed value (added ∙ ap (λ c. c ++ call ∷ []) first ∙ append_assoc calls before (call ∷ [])) all

-- the start of a thread
pub took_start : {w : Spot} {x j k : ExprKind} {calls calls1 calls2 calls3 : List LStmt} {made made1 made2 : List Ty} {v1 v2 r : LExpr} {s1 s2 told : Option Ty} (dest : Expr) (name : At (List ℕ)) (arg : Expr) →
    x ≡ e.Create dest name arg → j ≡ dest.kind → k ≡ arg.kind → Took w j calls made v1 s1 calls1 made1 → Took w k calls1 made1 v2 s2 calls2 made2 →
    calls3 ≡ calls2 ++ t.Spawn (destination v1) (function_number w.scope.program name.it) (fitted w.scope ty.AnyPtr arg.kind v2) ∷ [] →
    r ≡ l.Num (pos 0) → told ≡ Some ty.Int → Took w x calls made r told calls3 made2
took_start {w = w} {calls = calls} {calls2 = calls2} {made = made} {v1 = v1} {v2 = v2} dest name arg is is_d is_a t1 t2 added value typed =
    let both = took_both dest.kind arg.kind is_d is_a t1 t2 in
    let f = function_number w.scope.program name.it in
    took_zero (e.Create dest name arg) _ _ _ is (take-Create w made dest name arg) typed value both.added
    (added ∙ ap (λ v. calls2 ++ t.Spawn (destination v) f (fitted w.scope ty.AnyPtr arg.kind v2) ∷ []) both.one
    ∙ ap (λ v. calls2 ++ t.Spawn (destination (take_calls w made dest.kind).value) f (fitted w.scope ty.AnyPtr arg.kind v) ∷ []) both.two) both.all

-- a call whose result is a new temporary
pub took_temporary : {w : Spot} {x : ExprKind} {calls calls1 calls2 : List LStmt} {made made1 made2 : List Ty} {r : LExpr} {told : Option Ty} (form : ExprKind) (before : List LStmt) (made' : List Ty) (s s' : Ty) (call : ℕ → LStmt) (slot : ℕ) →
    x ≡ form → take_calls w made form ≡ into_temporary w before s' made' call → told ≡ type_of w.scope form → r ≡ l.Slot slot → calls1 ≡ calls ++ before → made1 ≡ made' → s ≡ s' →
    slot ≡ w.slots + length made1 → made2 ≡ made1 ++ s ∷ [] → calls2 ≡ calls1 ++ call slot ∷ [] → Took w x calls made r told calls2 made2
took_temporary {w = w} {calls = calls} {made1 = made1} form before made' s s' call slot is whole typed value first all kept at more added =
    let place : slot ≡ w.slots + length made' = at ∙ ap (λ m. w.slots + length m) all in
    took_form form (into_temporary w before s' made' call) is whole typed (value ∙ ap l.Slot place)
    (added ∙ ap (λ c. c ++ call slot ∷ []) first ∙ append_assoc calls before (call slot ∷ []) ∙ ap (λ n. calls ++ (before ++ call n ∷ [])) place)
    (more ∙ ap (λ m. m ++ s ∷ []) all ∙ ap (λ u. made' ++ u ∷ []) kept)

-- one argument more, and none
-- what was taken from the first arguments and what is taken from those that are left make the whole
pub record Whole (w : Spot) (qs : List Field) (args : List Expr) (values : List LExpr) (calls : List LStmt) (made : List Ty) (vs : List LExpr) (cs : List LStmt) (ms : List Ty) : Type 0 where
  pub values_so : values ++ (take_list w made qs args).values ≡ vs
  pub calls_so : calls ++ (take_list w made qs args).calls ≡ cs
  pub made_so : (take_list w made qs args).made ≡ ms

pub whole_more : {w : Spot} {k : ExprKind} {qs ps : List Field} {values values1 vs : List LExpr} {calls calls1 cs : List LStmt} {made made1 ms : List Ty} {v r : LExpr} {s : Option Ty} (x : Expr) (rest left : List Expr) →
    left ≡ x ∷ rest → k ≡ x.kind → Whole w qs left values calls made vs cs ms → Took w k calls made v s calls1 made1 → r ≡ fitted_first w.scope qs k v → values1 ≡ values ++ r ∷ [] → ps ≡ drop 1 qs →
    Whole w ps rest values1 calls1 made1 vs cs ms
whole_more {w = w} {k = k} {qs = qs} {ps = ps} {values = values} {calls = calls} {made = made} {made1 = made1} {v = v} {r = r} x rest left is is_x so took fitted_is more others = record {
  values_so = ap (λ u. u ++ (take_list w made1 ps rest).values) (more ∙ ap (λ u. values ++ u ∷ []) here) ∙ ap (λ y. (values ++ fitted_first w.scope qs x.kind A.value ∷ []) ++ y.values) next
      ∙ append_assoc values (fitted_first w.scope qs x.kind A.value ∷ []) B.values ∙ ap (λ y. values ++ y.values) (sym whole) ∙ so.values_so;
  calls_so = ap (λ c. c ++ (take_list w made1 ps rest).calls) (took.added ∙ ap (λ y. calls ++ (take_calls w made y).calls) is_x) ∙ ap (λ y. (calls ++ A.calls) ++ y.calls) next
      ∙ append_assoc calls A.calls B.calls ∙ ap (λ y. calls ++ y.calls) (sym whole) ∙ so.calls_so;
  made_so = ap (λ y. y.made) next ∙ ap (λ y. y.made) (sym whole) ∙ so.made_so;
} where
  A : Taken
  A = take_calls w made x.kind

  B : AllTaken
  B = take_list w A.made (drop 1 qs) rest

  whole : take_list w made qs left ≡ record { calls = A.calls ++ B.calls; values = fitted_first w.scope qs x.kind A.value ∷ B.values; made = B.made }
  whole = ap (take_list w made qs) is ∙ list-more w made qs x rest

  here : r ≡ fitted_first w.scope qs x.kind A.value
  here = fitted_is ∙ ap (λ y. fitted_first w.scope qs y v) is_x ∙ ap (fitted_first w.scope qs x.kind) (took.left ∙ ap (λ y. (take_calls w made y).value) is_x)

  next : take_list w made1 ps rest ≡ B
  next = ap (λ q. take_list w made1 q rest) others ∙ ap (λ m. take_list w m (drop 1 qs) rest) (took.all ∙ ap (λ y. (take_calls w made y).made) is_x)

pub whole_all : {w : Spot} {qs ps : List Field} {values : List LExpr} {calls calls0 : List LStmt} {made made0 : List Ty} (args left : List Expr) →
    left ≡ [] → Whole w ps left values calls made (take_list w made0 qs args).values (calls0 ++ (take_list w made0 qs args).calls) (take_list w made0 qs args).made →
    TookAll w qs args calls0 made0 values calls made
whole_all {w = w} {ps = ps} {values = values} {calls = calls} {made = made} args left is so =
    let whole = ap (take_list w made ps) is ∙ list-none w made ps in
    record {
      left = sym (append-nil values) ∙ ap (λ y. values ++ y.values) (sym whole) ∙ so.values_so;
      added = sym (append-nil calls) ∙ ap (λ y. calls ++ y.calls) (sym whole) ∙ so.calls_so;
      all = ap (λ y. y.made) (sym whole) ∙ so.made_so;
    }
