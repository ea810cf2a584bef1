-- What is left of an expression without faults, and the statements of its calls, have the sorts that their places ask.
use Rattle.std.proofs.Common.{◌≡◌, ℕ, zero, suc, ◌+◌, ◌<◌, pos, Bool, true, false, ◌&&◌, List, [], ◌∷◌, ◌++◌, length, drop, Option, Some, None, refl, sym, ap, subst, ◌∙◌, arith, append_assoc}
use Rattle.std.specs.Prelude.{slice_get, is_some, unwrap_or, not, ◌==◌, if◌then◌else◌, map, codes, ⊤, All}
use Rattle.std.specs.List.{AllZip}
use Rattle.std.proofs.lemmas.Bool.{eqb-true}
use Rattle.std.proofs.lemmas.List.{append-nil}
use Rattle.c_tree.specs.Compute.{literals}
use Rattle.c_tree.specs.declared.ty.Ty.{Ty}
use Rattle.c_tree.specs.declared.ty.Ty.TheVariants as ty
use Rattle.c_tree.specs.declared.op.UnOp.{UnOp}
use Rattle.c_tree.specs.declared.op.UnOp.TheVariants as un
use Rattle.c_tree.specs.declared.op.BinOp.{BinOp}
use Rattle.c_tree.specs.declared.op.BinOp.TheVariants as bin
use Rattle.c_tree.specs.declared.cause.CheckCause.TheVariants as c
use Rattle.c_tree.specs.declared.scope.Meaning.{Meaning}
use Rattle.c_tree.specs.declared.scope.Meaning.TheVariants as m
use Rattle.c_tree.specs.declared.program.Program.{Program}
use Rattle.c_tree.specs.declared.program.Field.{Field}
use Rattle.c_tree.specs.declared.program.Function.{Function}
use Rattle.c_tree.specs.declared.program.Define.{Define}
use Rattle.c_tree.specs.declared.program.At.{At}
use Rattle.c_tree.specs.declared.program.ExprKind.{ExprKind, Row_of-Expr, end_of-Expr, more_of-Expr, more_of-Expr as only}
use Rattle.c_tree.specs.declared.program.ExprKind.TheVariants as e
use Rattle.c_tree.specs.declared.lifted.Slot.{Slot}
use Rattle.c_tree.specs.declared.lifted.Dest.{Dest}
use Rattle.c_tree.specs.declared.lifted.Dest.TheVariants as d
use Rattle.c_tree.specs.declared.lifted.LExpr.{LExpr}
use Rattle.c_tree.specs.declared.lifted.LExpr as l
use Rattle.c_tree.specs.declared.lifted.LStmt.{LStmt}
use Rattle.c_tree.specs.declared.lifted.LStmt.TheBlock.{hidden-the_row-LStmt-0 as lrow_of}
use Rattle.c_tree.specs.declared.lifted.LStmt as t
use Rattle.c_tree.specs.declared.lifted.LFunction.{LFunction}
use Rattle.c_tree.specs.declared.lifted.Lifted.{Lifted}
use Rattle.c_tree.specs.Fault.{fault, unless}
use Rattle.c_tree.specs.Scope.{Scope, meaning, routine, is_same_name, is_defined, struct_named, field_named}
use Rattle.c_tree.specs.Types.{is_int, is_thread, is_pointer, is_any_pointer, type_of, name_type, scalar_type, array_type, element_type, result_type, member_type, type_of_field, define, is_zero, takes, side, fits}
use Rattle.c_tree.specs.Typing.{faults, argument_faults, length_of, ask, asks, asks_fit, test_for, anything, operand_test, name_faults, is_nothing, field_faults, lvalue_faults, call_faults, start_faults, lock_faults, parameters, takes_any_pointer, type_faults}
use Rattle.c_tree.specs.Lifting.{Spot, Taken, take_calls, take_arguments, joined, deciding, truth, goes_on, temporaries, is_lazy, has_call, beside, in_place, is_equality, is_pointer_type, fitted, named, literal_of, array_number, field_in, mutex_number, destination, function_number, struct_number, field_number}
use Rattle.c_tree.specs.Formed.{Sort, int, thread, pointer, sort_of_type, sort_of_slot, sort_of_scalar, sort_of_element, fields_in, is_int_sort, is_pointer_sort, is_testable_sort, takes_one, takes_two, sort_if, sort_of, sort_at, HasSort, AreArguments, TakesResult, IsCall, HasStartForm, IsReturn, HasSortsIn, HaveSortsIn}
use Rattle.c_tree.specs.StartForm.{parameters_of}
use Rattle.c_tree.specs.ReadForm.{IsReadExpr, AreReadExprs, IsPlace, IsCastType}
use Rattle.lift_laws.proofs.LimitLemmas.{both_true}
use Rattle.lift_laws.proofs.NoFaults.{no_left, no_right, passes}
use Rattle.lift_laws.proofs.ValueSorts.{NotVoid, not_void, passed, int_sort, thread_sort, pointer_sort, testable_sort, has_sort, un_takes, side_of, bin_takes, lazy_takes, fitted_sort, sort-Num, sort-Null, sort-Slot, sort-Global, sort-Elem, sort-Field, sort-Un, sort-Bin, sort-literal}

-- a function that is called
pub record Callee (F : Lifted) (n : ℕ) (f : Function) : Type 0 where
  pub function : LFunction
  pub is : slice_get F.functions n ≡ Some function
  pub ret : function.ret ≡ f.ret
  pub params : map (λ q. q.ty) (parameters_of function) ≡ map (λ q. q.ty) f.params

-- what a scope says of slots, globals and the rest holds of the lifted program
pub record Knows (F : Lifted) (slots : List Slot) (sc : Scope) : Type 0 where
  pub local : (i : ℕ) (T : Ty) → slice_get sc.slots i ≡ Some T → sort_of_slot (slice_get slots i) ≡ sort_of_type T
  pub constant : (name : List ℕ) (i : ℕ) → meaning sc name ≡ m.Constant i → is_some (slice_get sc.program.defines i) ≡ true
  pub scalar : (i : ℕ) (T : Ty) → scalar_type (slice_get sc.program.globals i) ≡ Some T → sort_of_scalar (slice_get F.globals i) ≡ sort_of_type T
  pub element : (i : ℕ) (T : Ty) → array_type (slice_get sc.program.globals i) ≡ Some T → sort_of_element (slice_get F.globals i) ≡ sort_of_type T
  pub field : (owner name : List ℕ) (T : Ty) → member_type sc (Some (ty.Ptr owner)) name ≡ Some T →
      sort_of_slot (slice_get (fields_in (slice_get F.structs (struct_number sc.program owner))) (field_number sc owner name)) ≡ sort_of_type T
  pub owner : (name : List ℕ) → is_some (struct_named sc name) ≡ true → struct_number sc.program name < length F.structs
  pub callee : (name : List ℕ) (f : Function) → routine sc.program (meaning sc name) ≡ Some f → is_defined sc.program name ≡ true → Callee F (function_number sc.program name) f
  pub mutex : (name : List ℕ) (i : ℕ) → meaning sc name ≡ m.Mutex i → i < length F.mutexes

-- temporaries have the sorts of their types
abbrev pub Shows : List Slot → ℕ → List Ty → Type 0
Shows slots base ts = (i : ℕ) (T : Ty) → slice_get ts i ≡ Some T → sort_of_slot (slice_get slots (base + i)) ≡ sort_of_type T

pub record Grows (a b : List Ty) : Type 0 where
  pub more : List Ty
  pub is : b ≡ a ++ more

pub grows_not : (a : List Ty) → Grows a a
grows_not a = record { more = []; is = sym (append-nil a) }

pub grows_by : (a more : List Ty) → Grows a (a ++ more)
grows_by a more = record { more = more; is = refl }

pub grows_then : (a b d : List Ty) → Grows a b → Grows b d → Grows a d
grows_then a b d g h = record { more = g.more ++ h.more; is = h.is ∙ ap (λ x. x ++ h.more) g.is ∙ append_assoc a g.more h.more }

pub get_left : (xs ys : List Ty) (i : ℕ) (T : Ty) → slice_get xs i ≡ Some T → slice_get (xs ++ ys) i ≡ Some T
get_left [] ys i T e = cc
get_left (x ∷ xs) ys zero T e = e
get_left (x ∷ xs) ys (suc i) T e = get_left xs ys i T e

pub get_end : (xs : List Ty) (T : Ty) → slice_get (xs ++ T ∷ []) (length xs) ≡ Some T
get_end [] T = refl
get_end (x ∷ xs) T = get_end xs T

pub shows_less : (slots : List Slot) (base : ℕ) (a b : List Ty) → Grows a b → Shows slots base b → Shows slots base a
shows_less slots base a b g s i T e = s i T (subst (λ x. slice_get x i ≡ Some T) (sym g.is) (get_left a g.more i T e))

pub shows_last : (slots : List Slot) (base : ℕ) (a b : List Ty) (T : Ty) → Grows (a ++ T ∷ []) b → Shows slots base b → sort_of_slot (slice_get slots (base + length a)) ≡ sort_of_type T
shows_last slots base a b T g s = shows_less slots base (a ++ T ∷ []) b g s (length a) T (get_end a T)

-- lists of statements
abbrev pub HaveSorts : Lifted → List Slot → Ty → List LStmt → Type 0
HaveSorts F slots ret xs = HaveSortsIn F slots ret (lrow_of xs)

module _ (F : Lifted) (slots : List Slot) (ret : Ty) where
  pub have_none : HaveSorts F slots ret []
  unfolding literals HasSortsIn HaveSortsIn
  have_none = tt

  pub have_append : (xs ys : List LStmt) → HaveSorts F slots ret xs → HaveSorts F slots ret ys → HaveSorts F slots ret (xs ++ ys)
  unfolding literals HasSortsIn HaveSortsIn
  have_append [] ys a b = b
  have_append (x ∷ xs) ys a b = (a.0, have_append xs ys a.1 b)

  pub have_assign : (to : Dest) (x : LExpr) → HasSort (sort_at F slots to) (sort_of F slots x) → HaveSorts F slots ret (t.Assign to x ∷ [])
  unfolding literals HasSortsIn HaveSortsIn
  have_assign to x h = (h, tt)

  pub have_new : (k owner : ℕ) → sort_of_slot (slice_get slots k) ≡ Some pointer → owner < length F.structs → HaveSorts F slots ret (t.New k owner ∷ [])
  unfolding literals HasSortsIn HaveSortsIn
  have_new k owner h low = ((h, low), tt)

  pub have_getc : (k : ℕ) → sort_of_slot (slice_get slots k) ≡ Some int → HaveSorts F slots ret (t.Getc k ∷ [])
  unfolding literals HasSortsIn HaveSortsIn
  have_getc k h = (h, tt)

  pub have_print : (text : List ℕ) (args : List LExpr) → All (λ x. sort_of F slots x ≡ Some int) args → HaveSorts F slots ret (t.Print text args ∷ [])
  unfolding literals HasSortsIn HaveSortsIn
  have_print text args h = (h, tt)

  pub have_free : (x : LExpr) → sort_of F slots x ≡ Some pointer → HaveSorts F slots ret (t.Free x ∷ [])
  unfolding literals HasSortsIn HaveSortsIn
  have_free x h = (h, tt)

  pub have_call : (to : Option ℕ) (f : ℕ) (args : List LExpr) → IsCall F slots to (slice_get F.functions f) args → HaveSorts F slots ret (t.Call to f args ∷ [])
  unfolding literals HasSortsIn HaveSortsIn
  have_call to f args h = (h, tt)

  pub have_spawn : (to : Dest) (f : ℕ) (x : LExpr) → sort_at F slots to ≡ Some thread → HasStartForm (slice_get F.functions f) → sort_of F slots x ≡ Some pointer → HaveSorts F slots ret (t.Spawn to f x ∷ [])
  unfolding literals HasSortsIn HaveSortsIn
  have_spawn to f x h s p = ((h, s, p), tt)

  pub have_join : (x : LExpr) → sort_of F slots x ≡ Some thread → HaveSorts F slots ret (t.Join x ∷ [])
  unfolding literals HasSortsIn HaveSortsIn
  have_join x h = (h, tt)

  pub have_lock : (i : ℕ) → i < length F.mutexes → HaveSorts F slots ret (t.Lock i ∷ [])
  unfolding literals HasSortsIn HaveSortsIn
  have_lock i h = (h, tt)

  pub have_unlock : (i : ℕ) → i < length F.mutexes → HaveSorts F slots ret (t.Unlock i ∷ [])
  unfolding literals HasSortsIn HaveSortsIn
  have_unlock i h = (h, tt)

  pub have_return : (x : Option LExpr) → IsReturn F slots ret x → HaveSorts F slots ret (t.Return x ∷ [])
  unfolding literals HasSortsIn HaveSortsIn
  have_return x h = (h, tt)

  pub have_if : (x : LExpr) (as' bs : List LStmt) → is_testable_sort (sort_of F slots x) ≡ true → HaveSorts F slots ret as' → HaveSorts F slots ret bs → HaveSorts F slots ret (t.If x as' bs ∷ [])
  unfolding literals HasSortsIn HaveSortsIn
  have_if x as' bs h a b = ((h, a, b), tt)

  pub have_loop : (calls : List LStmt) (x : LExpr) (body step : List LStmt) → HaveSorts F slots ret calls → is_testable_sort (sort_of F slots x) ≡ true → HaveSorts F slots ret body → HaveSorts F slots ret step →
      HaveSorts F slots ret (t.Loop calls x body step ∷ [])
  unfolding literals HasSortsIn HaveSortsIn
  have_loop calls x body step a h b s = ((a, h, b, s), tt)

  pub have_break : HaveSorts F slots ret (t.Break ∷ [])
  unfolding literals HasSortsIn HaveSortsIn
  have_break = (tt, tt)

  pub have_continue : HaveSorts F slots ret (t.Continue ∷ [])
  unfolding literals HasSortsIn HaveSortsIn
  have_continue = (tt, tt)

-- temporaries are only added
pub grows_temporaries : (splits : Bool) (made : List Ty) → Grows made (temporaries splits made)
grows_temporaries true made = grows_by made (ty.Int ∷ [])
grows_temporaries false made = grows_not made

pub joined_made : (splits : Bool) (op : BinOp) (k : ℕ) (a b : Taken) (value : LExpr) → (joined splits op k a b value).made ≡ b.made
joined_made true op k a b value = refl
joined_made false op k a b value = refl

mutual
  unfolding literals take_calls take_arguments

  pub grows_calls : (w : Spot) (made : List Ty) (x : ExprKind) → Grows made (take_calls w made x).made
  grows_calls w made (e.Num n) = grows_not made
  grows_calls w made e.Null = grows_not made
  grows_calls w made e.Eof = grows_not made
  grows_calls w made (e.Slot name k) = grows_not made
  grows_calls w made (e.Name name) = grows_not made
  grows_calls w made (e.Index' name _ (only _ x _)) = grows_calls w made x
  grows_calls w made (e.Field' _ (only _ x _) name) = grows_calls w made x
  grows_calls w made (e.Un' op _ (only _ x _)) = grows_calls w made x
  grows_calls w made (e.Bin' op _ (only _ x _) _ (only _ y _)) =
      let splits = is_lazy op && has_call y in
      let a = take_calls w made x in
      let b = take_calls w (temporaries splits a.made) y in
      subst (λ o. Grows made o) (sym (joined_made splits op (w.slots + length a.made) a b (l.Bin op (beside w.scope op x y a.value) (beside w.scope op y x b.value))))
      (grows_then made a.made b.made (grows_calls w made x) (grows_then a.made (temporaries splits a.made) b.made (grows_temporaries splits a.made) (grows_calls w (temporaries splits a.made) y)))
  grows_calls w made (e.Cast' s _ (only _ x _)) = grows_calls w made x
  grows_calls w made (e.Call' name _ args) =
      let a = take_arguments w made (parameters (routine w.scope.program (meaning w.scope name))) args in
      grows_then made a.made (a.made ++ _ ∷ []) (grows_arguments w made (parameters (routine w.scope.program (meaning w.scope name))) args) (grows_by a.made (_ ∷ []))
  grows_calls w made (e.Malloc name) = grows_by made (_ ∷ [])
  grows_calls w made e.Getchar = grows_by made (_ ∷ [])
  grows_calls w made (e.Create' _ (only _ dest _) name _ (only _ x _)) =
      let a = take_calls w made dest in
      grows_then made a.made (take_calls w a.made x).made (grows_calls w made dest) (grows_calls w a.made x)
  grows_calls w made (e.Join' _ (only _ x _)) = grows_calls w made x
  grows_calls w made (e.Lock name) = grows_not made
  grows_calls w made (e.Unlock name) = grows_not made

  pub grows_arguments : (w : Spot) (made : List Ty) (qs : List Field) → {m : _} → (args : Row_of-Expr m) → Grows made (take_arguments w made qs args).made
  grows_arguments w made qs end_of-Expr = grows_not made
  grows_arguments w made qs (more_of-Expr _ x rest) =
      let a = take_calls w made x in
      grows_then made a.made (take_arguments w a.made (drop 1 qs) rest).made (grows_calls w made x) (grows_arguments w a.made (drop 1 qs) rest)

-- an expression's value, with its calls
pub record Sorted (F : Lifted) (slots : List Slot) (ret : Ty) (calls : List LStmt) (value : LExpr) (o : Option Ty) : Type 0 where
  pub kept : HaveSorts F slots ret calls
  pub type : Ty
  pub told : o ≡ Some type
  pub sort : sort_of F slots value ≡ sort_of_type type

pub same_type_told : (S T : Ty) → Some S ≡ Some T → S ≡ T
same_type_told S T e = cc

pub not_told : (T : Ty) → None ≡ Some T → ⊥
not_told T e = cc

pub asked_type : (test : Ty → Bool) (at : ℕ) (o : Option Ty) (T : Ty) → o ≡ Some T → ask test at o ≡ [] → test T ≡ true
asked_type test at o T told e = passed test at T (subst (λ x. ask test at x ≡ []) told e)

-- names
pub record Told (o : Option Ty) : Type 0 where
  pub type : Ty
  pub is : o ≡ Some type

pub name_told : (at : ℕ) (name : List ℕ) (what : Meaning) (o : Option Ty) → name_faults at name what o ≡ [] → Told o
name_told at name what (Some T) e = record { type = T; is = refl }
name_told at name what None e = absurd (pick (is_nothing what) e) where
  pick : (b : Bool) → (if b then fault at (c.Unknown name) else fault at c.BadType) ≡ [] → ⊥
  pick true e = cc
  pick false e = cc

pub literal_sort : (F : Lifted) (slots : List Slot) (o : Option Define) → is_some o ≡ true → sort_of F slots (literal_of o) ≡ Some int
literal_sort F slots None e = cc
literal_sort F slots (Some x) e = sort-literal F slots x.minus x.value

pub named_sorted : (F : Lifted) (slots : List Slot) (ret : Ty) (sc : Scope) (at : ℕ) (name : List ℕ) → Knows F slots sc → name_faults at name (meaning sc name) (name_type sc (meaning sc name)) ≡ [] →
    Sorted F slots ret [] (named sc.program (meaning sc name)) (name_type sc (meaning sc name))
named_sorted F slots ret sc at name K e = record { kept = have_none F slots ret; type = told.type; told = told.is; sort = pick (meaning sc name) refl told.is } where
  told : Told (name_type sc (meaning sc name))
  told = name_told at name (meaning sc name) (name_type sc (meaning sc name)) e

  pick : (what : Meaning) → what ≡ meaning sc name → name_type sc what ≡ Some told.type → sort_of F slots (named sc.program what) ≡ sort_of_type told.type
  pick (m.Local i) is e = sort-Slot F slots i ∙ K.local i told.type e
  pick (m.Global i) is e = sort-Global F slots i ∙ K.scalar i told.type e
  pick (m.Constant i) is e = literal_sort F slots (slice_get sc.program.defines i) (K.constant name i (sym is)) ∙ ap sort_of_type (same_type_told ty.Int told.type e)
  pick (m.Mutex i) is e = absurd (not_told told.type e)
  pick (m.Routine i) is e = absurd (not_told told.type e)
  pick m.Nothing is e = absurd (not_told told.type e)

-- parts of the forms
module _ (F : Lifted) (slots : List Slot) (ret : Ty) (calls : List LStmt) (v : LExpr) (o : Option Ty) (s : Sorted F slots ret calls v o) where
  pub elem_sorted : (sc : Scope) (at i : ℕ) (name : List ℕ) (what : Meaning) → Knows F slots sc → ask is_int i o ≡ [] → name_faults at name what (element_type sc.program what) ≡ [] →
      Sorted F slots ret calls (l.Elem (array_number what) v) (element_type sc.program what)
  elem_sorted sc at i name what K asks e = record { kept = s.kept; type = told.type; told = told.is; sort = pick what told.is } where
    told : Told (element_type sc.program what)
    told = name_told at name what (element_type sc.program what) e

    index : is_int_sort (sort_of F slots v) ≡ true
    index = ap is_int_sort (s.sort ∙ int_sort s.type (asked_type is_int i o s.type s.told asks))

    pick : (what : Meaning) → element_type sc.program what ≡ Some told.type → sort_of F slots (l.Elem (array_number what) v) ≡ sort_of_type told.type
    pick (m.Global g) e = sort-Elem F slots g v ∙ ap (λ b. sort_if b (sort_of_element (slice_get F.globals g))) index ∙ K.element g told.type e
    pick (m.Local g) e = absurd (not_told told.type e)
    pick (m.Constant g) e = absurd (not_told told.type e)
    pick (m.Mutex g) e = absurd (not_told told.type e)
    pick (m.Routine g) e = absurd (not_told told.type e)
    pick m.Nothing e = absurd (not_told told.type e)

  pub un_sorted : (op : UnOp) (at : ℕ) → ask (operand_test op) at o ≡ [] → Sorted F slots ret calls (l.Un op v) (Some ty.Int)
  un_sorted op at e = record {
    kept = s.kept;
    type = ty.Int;
    told = refl;
    sort = sort-Un F slots op v ∙ ap (λ b. sort_if b (Some int)) (un_takes op s.type (sort_of F slots v) s.sort (asked_type (operand_test op) at o s.type s.told e));
  }

  pub cast_sorted : (T : Ty) (at : ℕ) → IsCastType T → ask is_pointer at o ≡ [] → Sorted F slots ret calls v (Some T)
  cast_sorted T at cast e = record { kept = s.kept; type = T; told = refl; sort = s.sort ∙ pointer_sort s.type (asked_type is_pointer at o s.type s.told e) ∙ pick T cast } where
    pick : (T : Ty) → IsCastType T → Some pointer ≡ sort_of_type T
    pick ty.AnyPtr h = refl
    pick (ty.Ptr name) h = refl
    pick ty.Int h = absurd h
    pick ty.Thread h = absurd h
    pick ty.Void h = absurd h

pub some_field : (at : ℕ) (o : Option Ty) → unless (is_some o) (fault at c.BadType) ≡ [] → Told o
some_field at None e = absurd (let h : false ≡ true = passes false _ e in let k : ⊥ = cc in k)
some_field at (Some T) e = record { type = T; is = refl }

pub field_sorted : (F : Lifted) (slots : List Slot) (ret : Ty) (calls : List LStmt) (v : LExpr) (o : Option Ty) → Sorted F slots ret calls v o → (sc : Scope) (at : ℕ) (name : List ℕ) → Knows F slots sc → NotVoid o →
    field_faults at o (member_type sc o name) ≡ [] → Sorted F slots ret calls (field_in sc v o name) (member_type sc o name)
field_sorted F slots ret calls v None s sc at name K n e = absurd (not_told s.type s.told)
field_sorted F slots ret calls v (Some ty.Void) s sc at name K n e = absurd n
field_sorted F slots ret calls v (Some ty.Int) s sc at name K n e = absurd (not_told _ (some_field at None e).is)
field_sorted F slots ret calls v (Some ty.Thread) s sc at name K n e = absurd (not_told _ (some_field at None e).is)
field_sorted F slots ret calls v (Some ty.AnyPtr) s sc at name K n e = absurd (not_told _ (some_field at None e).is)
field_sorted F slots ret calls v (Some (ty.Ptr owner)) s sc at name K n e = record {
  kept = s.kept;
  type = told.type;
  told = told.is;
  sort = sort-Field F slots v (struct_number sc.program owner) (field_number sc owner name)
      ∙ ap (λ b. sort_if b (sort_of_slot (slice_get (fields_in (slice_get F.structs (struct_number sc.program owner))) (field_number sc owner name)))) base
      ∙ K.field owner name told.type told.is;
} where
  told : Told (member_type sc (Some (ty.Ptr owner)) name)
  told = some_field at (member_type sc (Some (ty.Ptr owner)) name) e

  base : is_pointer_sort (sort_of F slots v) ≡ true
  base = ap is_pointer_sort (s.sort ∙ ap sort_of_type (sym (same_type_told (ty.Ptr owner) s.type s.told)))

-- operators
pub sort_told : (F : Lifted) (slots : List Slot) (ret : Ty) (calls : List LStmt) (v : LExpr) (T : Ty) → Sorted F slots ret calls v (Some T) → sort_of F slots v ≡ sort_of_type T
sort_told F slots ret calls v T s = s.sort ∙ ap sort_of_type (sym (same_type_told T s.type s.told))

pub and_left : (a b : Bool) → (a && b) ≡ true → a ≡ true
and_left a b e = (both_true a b e).0

pub have_deciding : (F : Lifted) (slots : List Slot) (ret : Ty) (op : BinOp) (k : ℕ) (left : LExpr) (branch : List LStmt) (right : LExpr) → sort_of_slot (slice_get slots k) ≡ Some int →
    is_testable_sort (sort_of F slots left) ≡ true → is_testable_sort (sort_of F slots right) ≡ true → HaveSorts F slots ret branch → HaveSorts F slots ret (deciding op k left branch right)
have_deciding F slots ret op k left branch right slot a b inner =
    have_append F slots ret (t.Assign (d.Slot k) (truth left) ∷ []) (t.If (goes_on op k) (branch ++ t.Assign (d.Slot k) (truth right) ∷ []) [] ∷ []) (decides left a)
    (have_if F slots ret (goes_on op k) (branch ++ t.Assign (d.Slot k) (truth right) ∷ []) [] (goes op)
    (have_append F slots ret branch (t.Assign (d.Slot k) (truth right) ∷ []) inner (decides right b)) (have_none F slots ret)) where
      slot_int : sort_of F slots (l.Slot k) ≡ Some int
      slot_int = sort-Slot F slots k ∙ slot

      true_int : (x : LExpr) → is_testable_sort (sort_of F slots x) ≡ true → sort_of F slots (truth x) ≡ Some int
      true_int x h =
          let once : sort_of F slots (l.Un un.Not x) ≡ Some int = sort-Un F slots un.Not x ∙ ap (λ b. sort_if b (Some int)) h in
          sort-Un F slots un.Not (l.Un un.Not x) ∙ ap (λ o. sort_if (is_testable_sort o) (Some int)) once

      decides : (x : LExpr) → is_testable_sort (sort_of F slots x) ≡ true → HaveSorts F slots ret (t.Assign (d.Slot k) (truth x) ∷ [])
      decides x h = have_assign F slots ret (d.Slot k) (truth x) (has_sort (sort_of_slot (slice_get slots k)) (sort_of F slots (truth x)) ty.Int slot (true_int x h) tt)

      turned : is_testable_sort (sort_of F slots (l.Un un.Not (l.Slot k))) ≡ true
      turned = ap is_testable_sort (sort-Un F slots un.Not (l.Slot k) ∙ ap (λ o. sort_if (is_testable_sort o) (Some int)) slot_int)

      goes : (op : BinOp) → is_testable_sort (sort_of F slots (goes_on op k)) ≡ true
      goes bin.And = ap is_testable_sort slot_int
      goes bin.Or = turned
      goes bin.Mul = turned
      goes bin.Div = turned
      goes bin.Rem = turned
      goes bin.Add = turned
      goes bin.Sub = turned
      goes bin.Shl = turned
      goes bin.Shr = turned
      goes bin.Lt = turned
      goes bin.Le = turned
      goes bin.Gt = turned
      goes bin.Ge = turned
      goes bin.Eq = turned
      goes bin.Ne = turned
      goes bin.BitAnd = turned
      goes bin.BitXor = turned
      goes bin.BitOr = turned

pub bin_sorted : (F : Lifted) (slots : List Slot) (ret : Ty) (op : BinOp) (splits has : Bool) (k : ℕ) (a b : Taken) (o r : Option Ty) (zx zy : Bool) → splits ≡ (is_lazy op && has) →
    Sorted F slots ret a.calls a.value o → Sorted F slots ret b.calls b.value r → NotVoid o → NotVoid r → takes op (record { type = o; zero = zx }) (record { type = r; zero = zy }) ≡ true →
    (splits ≡ true → sort_of_slot (slice_get slots k) ≡ Some int) →
    let whole = joined splits op k a b (l.Bin op (in_place (is_equality op && is_pointer_type r) zx a.value) (in_place (is_equality op && is_pointer_type o) zy b.value)) in
    Sorted F slots ret whole.calls whole.value (Some ty.Int)
bin_sorted F slots ret op splits has k a b None r zx zy is s u m n e slot = absurd (not_told s.type s.told)
bin_sorted F slots ret op splits has k a b o None zx zy is s u m n e slot = absurd (not_told u.type u.told)
bin_sorted F slots ret op true has k a b (Some S) (Some T) zx zy is s u m n e slot =
    let both = lazy_takes F slots S T zx zy a.value b.value (sort_told F slots ret a.calls a.value S s) (sort_told F slots ret b.calls b.value T u) m n op (and_left (is_lazy op) has (sym is)) e in
    record {
      kept = have_append F slots ret a.calls (deciding op k a.value b.calls b.value) s.kept (have_deciding F slots ret op k a.value b.calls b.value (slot refl) both.0 both.1 u.kept);
      type = ty.Int;
      told = refl;
      sort = sort-Slot F slots k ∙ slot refl;
    }
bin_sorted F slots ret op false has k a b (Some S) (Some T) zx zy is s u m n e slot = record {
  kept = have_append F slots ret a.calls b.calls s.kept u.kept;
  type = ty.Int;
  told = refl;
  sort = sort-Bin F slots op (in_place (is_equality op && is_pointer T) zx a.value) (in_place (is_equality op && is_pointer S) zy b.value)
      ∙ ap (λ x. sort_if x (Some int)) (bin_takes F slots S T zx zy a.value b.value (sort_told F slots ret a.calls a.value S s) (sort_told F slots ret b.calls b.value T u) m n op e);
}
