-- Statements without faults: what they are lifted to has the sorts that are asked.
use Rattle.std.proofs.Common.{◌≡◌, ℕ, zero, suc, ◌+◌, ◌<◌, pos, Bool, true, false, cond, ◌&&◌, List, [], ◌∷◌, ◌++◌, length, drop, Option, Some, None, refl, sym, ap, subst, ◌∙◌, arith, append_assoc}
use Rattle.std.specs.Prelude.{find, slice_get, is_some, unwrap_or, not, ◌==◌, if◌then◌else◌, map, codes, ⊤, All}
use Rattle.std.specs.List.{AllZip}
use Rattle.std.proofs.lemmas.Bool.{eqb-true}
use Rattle.std.proofs.lemmas.List.{append-nil}
use Rattle.c_tree.specs.Compute.{literals}
use Rattle.c_tree.specs.declared.ty.Ty.{Ty}
use Rattle.c_tree.specs.declared.ty.Ty.TheVariants as ty
use Rattle.c_tree.specs.declared.op.UnOp.{UnOp}
use Rattle.c_tree.specs.declared.op.UnOp.TheVariants as un
use Rattle.c_tree.specs.declared.op.BinOp.{BinOp}
use Rattle.c_tree.specs.declared.op.BinOp.TheVariants as bin
use Rattle.c_tree.specs.declared.cause.CheckCause.TheVariants as c
use Rattle.c_tree.specs.declared.scope.Meaning.{Meaning}
use Rattle.c_tree.specs.declared.scope.Meaning.TheVariants as m
use Rattle.c_tree.specs.declared.program.Program.{Program}
use Rattle.c_tree.specs.declared.program.Field.{Field}
use Rattle.c_tree.specs.declared.program.Function.{Function}
use Rattle.c_tree.specs.declared.program.Define.{Define}
use Rattle.c_tree.specs.declared.program.At.{At}
use Rattle.c_tree.specs.declared.program.ExprKind.{ExprKind, Row_of-Expr, end_of-Expr, more_of-Expr, more_of-Expr as only}
use Rattle.c_tree.specs.declared.program.ExprKind.TheVariants as e
use Rattle.c_tree.specs.declared.lifted.Slot.{Slot}
use Rattle.c_tree.specs.declared.lifted.Dest.{Dest}
use Rattle.c_tree.specs.declared.lifted.Dest.TheVariants as d
use Rattle.c_tree.specs.declared.lifted.LExpr.{LExpr}
use Rattle.c_tree.specs.declared.lifted.LExpr as l
use Rattle.c_tree.specs.declared.lifted.LStmt.{LStmt}
use Rattle.c_tree.specs.declared.lifted.LStmt.TheBlock.{hidden-the_row-LStmt-0 as lrow_of}
use Rattle.c_tree.specs.declared.lifted.LStmt as t
use Rattle.c_tree.specs.declared.lifted.LFunction.{LFunction}
use Rattle.c_tree.specs.declared.lifted.Lifted.{Lifted}
use Rattle.c_tree.specs.Fault.{fault, unless}
use Rattle.c_tree.specs.declared.scope.Fault.{Fault}
use Rattle.c_tree.specs.Scope.{Scope, meaning, routine, is_same_name, is_defined, struct_named, field_named}
use Rattle.c_tree.specs.Types.{is_int, is_thread, is_pointer, is_any_pointer, type_of, name_type, scalar_type, array_type, element_type, result_type, member_type, type_of_field, define, is_zero, takes, side, fits}
use Rattle.c_tree.specs.Typing.{faults, argument_faults, length_of, ask, asks, asks_fit, test_for, anything, operand_test, name_faults, is_nothing, field_faults, lvalue_faults, is_constant, call_faults, start_faults, lock_faults, parameters, takes_any_pointer, type_faults}
use Rattle.c_tree.specs.Lifting.{Spot, Taken, take_calls, take_arguments, joined, deciding, truth, goes_on, temporaries, is_lazy, has_call, beside, in_place, is_equality, is_pointer_type, fitted, named, literal_of, array_number, field_in, mutex_number, destination, function_number, struct_number, field_number}
use Rattle.c_tree.specs.Formed.{Sort, int, thread, pointer, sort_of_type, sort_of_slot, sort_of_scalar, sort_of_element, fields_in, is_int_sort, is_pointer_sort, is_testable_sort, takes_one, takes_two, sort_if, sort_of, sort_at, HasSort, AreArguments, TakesResult, IsCall, HasStartForm, IsReturn, HasSortsIn, HaveSortsIn}
use Rattle.c_tree.specs.StartForm.{parameters_of}
use Rattle.c_tree.specs.ReadForm.{IsReadExpr, AreReadExprs, IsPlace, IsCastType}
use Rattle.lift_laws.proofs.LimitLemmas.{both_true}
use Rattle.lift_laws.proofs.NoFaults.{no_left, no_right, passes}
use Rattle.lift_laws.proofs.ValueSorts.{NotVoid, not_void, passed, int_sort, thread_sort, pointer_sort, testable_sort, has_sort, un_takes, side_of, bin_takes, lazy_takes, fitted_sort, sort-Num, sort-Null, sort-Slot, sort-Global, sort-Elem, sort-Field, sort-Un, sort-Bin, sort-literal}
use Rattle.lift_laws.proofs.CallSorts.{Callee, Knows, Shows, Grows, grows_not, grows_by, grows_then, shows_less, shows_last, HaveSorts, have_none, have_append, have_new, have_getc, have_call, have_spawn, have_join, have_lock, have_unlock, grows_temporaries, joined_made, grows_calls, grows_arguments, Sorted, sort_told, same_type_told, not_told, asked_type, Told, named_sorted, elem_sorted, un_sorted, cast_sorted, field_sorted, bin_sorted}
use Rattle.std.specs.List.{flat_map, AllByRecursion}
use Rattle.std.proofs.lemmas.List.{map-append}
use Rattle.std.proofs.lemmas.List.Elements.{recursion_from_All, All-from_recursion}
use Rattle.c_tree.specs.declared.program.Expr.{Expr}
use Rattle.c_tree.specs.declared.program.ExprKind.TheBlock.{hidden-the_row-Expr-1 as args_of}
use Rattle.c_tree.specs.declared.program.StmtKind.{StmtKind, Row_of-Stmt, end_of-Stmt, more_of-Stmt, more_of-Stmt as one, Held-StmtKind-If-2, None', Some'}
use Rattle.c_tree.specs.declared.program.StmtKind.TheVariants as s
use Rattle.c_tree.specs.declared.scope.Named.{Named}
use Rattle.c_tree.specs.Scope.{Variable, with_local, after, after_all, locals, locals_of, locals_else, has_name, meaning_in}
use Rattle.c_tree.specs.Types.{is_testable}
use Rattle.c_tree.specs.Typing.{Stand, directives, is_count, value_faults, fit_faults, place_faults, start_value_faults, return_faults, test_faults, assign_faults, local_faults, is_freeable, stmt_faults, block_faults, else_faults, next, next_all, in_block, in_body}
use Rattle.c_tree.specs.Lifting.{Lift, at_scope, bare, store_bare, store, call_into, run, assign, start_value, give_back, freed, printed, take_all, take_test, lift_stmt, lift_all, lift_else}
use Rattle.c_tree.specs.ReadForm.{IsReadValue, IsSimple, IsReadStmt, AreReadStmts, IsReadElse, IsReadStep}
use Rattle.c_tree.specs.ReadForm as read
use Rattle.lift_laws.proofs.CallSorts.{get_left, get_end, have_assign, have_print, have_free, have_return, have_if, have_loop, have_break, have_continue, name_told, some_field}
use Rattle.lift_laws.proofs.ExprSorts.{Called, called, FitAll, SortedAll, call_sorted, takes_result, destination_sort, fit_value, wanted, locked, sorted_calls, sorted_arguments}
use Rattle.lift_laws.proofs.StoreSorts.{told_faults, grows_store_bare, store_sorted}

-- what is known after a statement
abbrev pub tys : List Variable → List Ty
tys xs = map (λ x. x.ty) xs

abbrev pub Sees : List Slot → List Ty → Type 0
Sees slots ts = (i : ℕ) (T : Ty) → slice_get ts i ≡ Some T → sort_of_slot (slice_get slots i) ≡ sort_of_type T

pub sees_left : (slots : List Slot) (a b : List Ty) → Sees slots (a ++ b) → Sees slots a
sees_left slots a b s i T e = s i T (get_left a b i T e)

pub sees_parts : (slots : List Slot) (xs : List Ty) (a b : List Variable) → Sees slots (xs ++ tys (a ++ b)) → Sees slots ((xs ++ tys a) ++ tys b)
sees_parts slots xs a b s = subst (λ ts. Sees slots ts) (ap (λ ts. xs ++ ts) (map-append (λ x. x.ty) a b) ∙ sym (append_assoc xs (tys a) (tys b))) s

pub sees_first : (slots : List Slot) (xs : List Ty) (a b : List Variable) → Sees slots (xs ++ tys (a ++ b)) → Sees slots (xs ++ tys a)
sees_first slots xs a b s = sees_left slots (xs ++ tys a) (tys b) (sees_parts slots xs a b s)

abbrev pub local_name : ℕ → List ℕ → ℕ → Named
local_name at name k = record { at = at; name = name; meaning = m.Local k }

pub knows_local : (F : Lifted) (slots : List Slot) (sc : Scope) (at : ℕ) (name : List ℕ) (T : Ty) → Knows F slots sc → Sees slots (sc.slots ++ T ∷ []) → Knows F slots (with_local sc at name T)
knows_local F slots sc at name T K S = record {
  local = S;
  constant = λ n i e. constant n i (has_name n (local_name at name (length sc.slots))) e;
  scalar = K.scalar;
  element = K.element;
  field = K.field;
  owner = K.owner;
  callee = λ n f e d. callee n f (has_name n (local_name at name (length sc.slots))) e d;
  mutex = λ n i e. mutex n i (has_name n (local_name at name (length sc.slots))) e;
} where
  constant : (n : List ℕ) (i : ℕ) (b : Bool) → meaning_in (cond b (Some (local_name at name (length sc.slots))) (find (has_name n) sc.names)) ≡ m.Constant i → is_some (slice_get sc.program.defines i) ≡ true
  constant n i true e = cc
  constant n i false e = K.constant n i e

  callee : (n : List ℕ) (f : Function) (b : Bool) → routine sc.program (meaning_in (cond b (Some (local_name at name (length sc.slots))) (find (has_name n) sc.names))) ≡ Some f → is_defined sc.program n ≡ true →
      Callee F (function_number sc.program n) f
  callee n f true e d = cc
  callee n f false e d = K.callee n f e d

  mutex : (n : List ℕ) (i : ℕ) (b : Bool) → meaning_in (cond b (Some (local_name at name (length sc.slots))) (find (has_name n) sc.names)) ≡ m.Mutex i → i < length F.mutexes
  mutex n i true e = cc
  mutex n i false e = K.mutex n i e

pub knows_slots : (F : Lifted) (slots : List Slot) (sc : Scope) (ts : List Ty) → Knows F slots sc → Sees slots ts → Knows F slots (record sc { slots = ts })
knows_slots F slots sc ts K S = record {
  local = S;
  constant = K.constant;
  scalar = K.scalar;
  element = K.element;
  field = K.field;
  owner = K.owner;
  callee = K.callee;
  mutex = K.mutex;
}

pub knows_after : (F : Lifted) (slots : List Slot) (sc : Scope) (at : ℕ) (kind : StmtKind) → Knows F slots sc → Sees slots (sc.slots ++ tys (locals kind)) → Knows F slots (after sc at kind)
knows_after F slots sc at (s.Declare T name value) K S = knows_local F slots sc at name T K S
knows_after F slots sc at s.Empty K S = knows_slots F slots sc (sc.slots ++ tys (locals s.Empty)) K S
knows_after F slots sc at (s.Block' a body) K S = knows_slots F slots sc (sc.slots ++ tys (locals (s.Block' a body))) K S
knows_after F slots sc at (s.If' test a body other) K S = knows_slots F slots sc (sc.slots ++ tys (locals (s.If' test a body other))) K S
knows_after F slots sc at (s.While' test a body) K S = knows_slots F slots sc (sc.slots ++ tys (locals (s.While' test a body))) K S
knows_after F slots sc at (s.For' a starts test step b body) K S = knows_slots F slots sc (sc.slots ++ tys (locals (s.For' a starts test step b body))) K S
knows_after F slots sc at s.Break K S = knows_slots F slots sc (sc.slots ++ tys (locals s.Break)) K S
knows_after F slots sc at s.Continue K S = knows_slots F slots sc (sc.slots ++ tys (locals s.Continue)) K S
knows_after F slots sc at (s.Return value) K S = knows_slots F slots sc (sc.slots ++ tys (locals (s.Return value))) K S
knows_after F slots sc at (s.Assign x op y) K S = knows_slots F slots sc (sc.slots ++ tys (locals (s.Assign x op y))) K S
knows_after F slots sc at (s.Run x) K S = knows_slots F slots sc (sc.slots ++ tys (locals (s.Run x))) K S
knows_after F slots sc at (s.Free x) K S = knows_slots F slots sc (sc.slots ++ tys (locals (s.Free x))) K S
knows_after F slots sc at (s.Print text args) K S = knows_slots F slots sc (sc.slots ++ tys (locals (s.Print text args))) K S

pub after_slots : (sc : Scope) (at : ℕ) (kind : StmtKind) → (after sc at kind).slots ≡ sc.slots ++ tys (locals kind)
after_slots sc at (s.Declare T name value) = refl
after_slots sc at s.Empty = refl
after_slots sc at (s.Block' a body) = refl
after_slots sc at (s.If' test a body other) = refl
after_slots sc at (s.While' test a body) = refl
after_slots sc at (s.For' a starts test step b body) = refl
after_slots sc at s.Break = refl
after_slots sc at s.Continue = refl
after_slots sc at (s.Return value) = refl
after_slots sc at (s.Assign x op y) = refl
after_slots sc at (s.Run x) = refl
after_slots sc at (s.Free x) = refl
after_slots sc at (s.Print text args) = refl

pub next_scope : (st : Stand) (at : ℕ) (kind : StmtKind) → (next st at kind).scope ≡ after st.scope at kind
next_scope st at (s.Declare T name value) = refl
next_scope st at s.Empty = refl
next_scope st at (s.Block' a body) = refl
next_scope st at (s.If' test a body other) = refl
next_scope st at (s.While' test a body) = refl
next_scope st at (s.For' a starts test step b body) = refl
next_scope st at s.Break = refl
next_scope st at s.Continue = refl
next_scope st at (s.Return value) = refl
next_scope st at (s.Assign x op y) = refl
next_scope st at (s.Run x) = refl
next_scope st at (s.Free x) = refl
next_scope st at (s.Print text args) = refl

pub next_ret : (st : Stand) (at : ℕ) (kind : StmtKind) → (next st at kind).ret ≡ st.ret
next_ret st at (s.Declare T name value) = refl
next_ret st at s.Empty = refl
next_ret st at (s.Block' a body) = refl
next_ret st at (s.If' test a body other) = refl
next_ret st at (s.While' test a body) = refl
next_ret st at (s.For' a starts test step b body) = refl
next_ret st at s.Break = refl
next_ret st at s.Continue = refl
next_ret st at (s.Return value) = refl
next_ret st at (s.Assign x op y) = refl
next_ret st at (s.Run x) = refl
next_ret st at (s.Free x) = refl
next_ret st at (s.Print text args) = refl

pub next_all_scope : (st : Stand) → {m : _} → (body : Row_of-Stmt m) → (next_all st body).scope ≡ after_all st.scope body
next_all_scope st end_of-Stmt = refl
next_all_scope st (more_of-Stmt at kind rest) = next_all_scope (next st at kind) rest ∙ ap (λ sc. after_all sc rest) (next_scope st at kind)

pub next_all_ret : (st : Stand) → {m : _} → (body : Row_of-Stmt m) → (next_all st body).ret ≡ st.ret
next_all_ret st end_of-Stmt = refl
next_all_ret st (more_of-Stmt at kind rest) = next_all_ret (next st at kind) rest ∙ next_ret st at kind

pub after_all_slots : (sc : Scope) → {m : _} → (body : Row_of-Stmt m) → (after_all sc body).slots ≡ sc.slots ++ tys (locals_of body)
after_all_slots sc end_of-Stmt = sym (append-nil sc.slots)
after_all_slots sc (more_of-Stmt at kind rest) =
    after_all_slots (after sc at kind) rest ∙ ap (λ ts. ts ++ tys (locals_of rest)) (after_slots sc at kind) ∙ append_assoc sc.slots (tys (locals kind)) (tys (locals_of rest))
    ∙ ap (λ ts. sc.slots ++ ts) (sym (map-append (λ x. x.ty) (locals kind) (locals_of rest)))

pub sees_next : (slots : List Slot) (sc : Scope) (at : ℕ) (kind : StmtKind) (more : List Variable) → Sees slots (sc.slots ++ tys (locals kind ++ more)) → Sees slots ((after sc at kind).slots ++ tys more)
sees_next slots sc at kind more S = subst (λ ts. Sees slots (ts ++ tys more)) (sym (after_slots sc at kind)) (sees_parts slots sc.slots (locals kind) more S)

pub knows_after_all : (F : Lifted) (slots : List Slot) (sc : Scope) → {m : _} → (body : Row_of-Stmt m) → Knows F slots sc → Sees slots (sc.slots ++ tys (locals_of body)) → Knows F slots (after_all sc body)
knows_after_all F slots sc end_of-Stmt K S = K
knows_after_all F slots sc (more_of-Stmt at kind rest) K S =
    knows_after_all F slots (after sc at kind) rest (knows_after F slots sc at kind K (sees_first slots sc.slots (locals kind) (locals_of rest) S)) (sees_next slots sc at kind (locals_of rest) S)

-- temporaries of statements are only added
pub grows_assign : (w : Spot) (made : List Ty) (x : Expr) (op : Option BinOp) (y : Expr) → Grows made (assign w made x op y).made
grows_assign w made x None y =
    let a = take_calls w made x.kind in
    grows_then made a.made (store w a.made (destination a.value) (unwrap_or (type_of w.scope x.kind) ty.Int) y.kind).made (grows_calls w made x.kind) (grows_store_bare w a.made (destination a.value) (unwrap_or (type_of w.scope x.kind) ty.Int) (bare y.kind))
grows_assign w made x (Some op) y = let a = take_calls w made x.kind in grows_then made a.made (take_calls w a.made y.kind).made (grows_calls w made x.kind) (grows_calls w a.made y.kind)

pub grows_start : (w : Spot) (made : List Ty) (i : ℕ) (want : Ty) (value : Option Expr) → Grows made (start_value w made i want value).made
grows_start w made i want None = grows_not made
grows_start w made i want (Some x) = grows_store_bare w made (d.Slot i) want (bare x.kind)

pub grows_run : (w : Spot) (made : List Ty) (x : ExprKind) → Grows made (run w made x).made
grows_run w made (e.Call' name _ args) = grows_arguments w made (parameters (routine w.scope.program (meaning w.scope name))) args
grows_run w made (e.Num n) = grows_calls w made (e.Num n)
grows_run w made e.Null = grows_calls w made e.Null
grows_run w made e.Eof = grows_calls w made e.Eof
grows_run w made (e.Slot name k) = grows_calls w made (e.Slot name k)
grows_run w made (e.Name name) = grows_calls w made (e.Name name)
grows_run w made (e.Index' name a1 b1) = grows_calls w made (e.Index' name a1 b1)
grows_run w made (e.Field' a1 b1 name) = grows_calls w made (e.Field' a1 b1 name)
grows_run w made (e.Un' op a1 b1) = grows_calls w made (e.Un' op a1 b1)
grows_run w made (e.Bin' op a1 b1 f1 g1) = grows_calls w made (e.Bin' op a1 b1 f1 g1)
grows_run w made (e.Cast' s1 a1 b1) = grows_calls w made (e.Cast' s1 a1 b1)
grows_run w made (e.Malloc name) = grows_calls w made (e.Malloc name)
grows_run w made e.Getchar = grows_calls w made e.Getchar
grows_run w made (e.Create' a1 b1 name f1 g1) = grows_calls w made (e.Create' a1 b1 name f1 g1)
grows_run w made (e.Join' a1 b1) = grows_calls w made (e.Join' a1 b1)
grows_run w made (e.Lock name) = grows_calls w made (e.Lock name)
grows_run w made (e.Unlock name) = grows_calls w made (e.Unlock name)

pub grows_give_back : (w : Spot) (made : List Ty) (value : Option Expr) → Grows made (give_back w made value).made
grows_give_back w made None = grows_not made
grows_give_back w made (Some x) = grows_calls w made x.kind

pub grows_test : (w : Spot) (made : List Ty) (test : Option Expr) → Grows made (take_test w made test).made
grows_test w made None = grows_not made
grows_test w made (Some x) = grows_calls w made x.kind

mutual
  unfolding literals lift_stmt lift_all lift_else

  pub grows_stmt : (w : Spot) (made : List Ty) (at : ℕ) (kind : StmtKind) → Grows made (lift_stmt w made at kind).made
  grows_stmt w made at s.Empty = grows_not made
  grows_stmt w made at (s.Block' _ body) = grows_all w made body
  grows_stmt w made at (s.Declare T name value) = grows_start (at_scope w (with_local w.scope at name T)) made (length w.scope.slots) T value
  grows_stmt w made at (s.If' test _ (one b body _) other) =
      let a = take_calls w made test.kind in
      let y = lift_stmt w a.made b body in
      let v = at_scope w (after w.scope b body) in
      grows_then made a.made (lift_else v y.made other).made (grows_calls w made test.kind) (grows_then a.made y.made (lift_else v y.made other).made (grows_stmt w a.made b body) (grows_else v y.made other))
  grows_stmt w made at (s.While' test _ (one b body _)) =
      let a = take_calls w made test.kind in
      grows_then made a.made (lift_stmt w a.made b body).made (grows_calls w made test.kind) (grows_stmt w a.made b body)
  grows_stmt w made at (s.For' _ starts test step _ (one b body _)) =
      let start = lift_all w made starts in
      let v = at_scope w (after_all w.scope starts) in
      let a = take_test v start.made test in
      let more = lift_else v a.made step in
      let inner = lift_stmt v more.made b body in
      grows_then made start.made inner.made (grows_all w made starts) (grows_then start.made a.made inner.made (grows_test v start.made test)
      (grows_then a.made more.made inner.made (grows_else v a.made step) (grows_stmt v more.made b body)))
  grows_stmt w made at s.Break = grows_not made
  grows_stmt w made at s.Continue = grows_not made
  grows_stmt w made at (s.Return value) = grows_give_back w made value
  grows_stmt w made at (s.Assign x op y) = grows_assign w made x op y
  grows_stmt w made at (s.Run x) = grows_run w made x.kind
  grows_stmt w made at (s.Free x) = grows_calls w made x.kind
  grows_stmt w made at (s.Print text args) = grows_arguments w made [] (args_of args)

  pub grows_all : (w : Spot) (made : List Ty) → {m : _} → (body : Row_of-Stmt m) → Grows made (lift_all w made body).made
  grows_all w made end_of-Stmt = grows_not made
  grows_all w made (more_of-Stmt at kind rest) =
      let a = lift_stmt w made at kind in
      let v = at_scope w (after w.scope at kind) in
      grows_then made a.made (lift_all v a.made rest).made (grows_stmt w made at kind) (grows_all v a.made rest)

  pub grows_else : (w : Spot) (made : List Ty) (other : Held-StmtKind-If-2) → Grows made (lift_else w made other).made
  grows_else w made None' = grows_not made
  grows_else w made (Some' _ (one b body _)) = grows_stmt w made b body

-- statements without statements inside
module _ (F : Lifted) (slots : List Slot) (w : Spot) (made : List Ty) (K : Knows F slots w.scope) where
  pub value_sorted : (test : Ty → Bool) (x : Expr) → Shows slots w.slots (take_calls w made x.kind).made → value_faults w.scope test x ≡ [] → IsReadExpr x.kind →
      Sorted F slots w.ret (take_calls w made x.kind).calls (take_calls w made x.kind).value (type_of w.scope x.kind)
  value_sorted test x S e h =
      let A = faults w.scope x.at x.kind in
      let Q = asks w.scope test x.at x.kind in
      sorted_calls F slots w.ret w made x.at x.kind K S (no_left A Q e) h (not_void test x.at (type_of w.scope x.kind) (no_right A Q e))

  pub value_passes : (test : Ty → Bool) (x : Expr) (T : Ty) → type_of w.scope x.kind ≡ Some T → value_faults w.scope test x ≡ [] → test T ≡ true
  value_passes test x T told e = asked_type test x.at (type_of w.scope x.kind) T told (no_right (faults w.scope x.at x.kind) (asks w.scope test x.at x.kind) e)

  pub start_sorted : (i : ℕ) (want : Ty) (value : Option Expr) → Shows slots w.slots (start_value w made i want value).made → start_value_faults w.scope want value ≡ [] → IsReadValue value →
      sort_of_slot (slice_get slots i) ≡ sort_of_type want → HaveSorts F slots w.ret (start_value w made i want value).body
  start_sorted i want None S e h place = have_none F slots w.ret
  start_sorted i want (Some x) S e h place =
      let A = faults w.scope x.at x.kind in
      let Q = asks_fit w.scope (Some want) x.at x.kind in
      store_sorted F slots w.ret w made (d.Slot i) want x.at x.kind K S (no_left A Q e) (no_right A Q e) h place

  pub free_sorted : (x : Expr) → Shows slots w.slots (freed w made x).made → value_faults w.scope (is_freeable (is_zero w.scope x.kind)) x ≡ [] → IsReadExpr x.kind → HaveSorts F slots w.ret (freed w made x).body
  free_sorted x S e h =
      let a = take_calls w made x.kind in
      let s = value_sorted (is_freeable (is_zero w.scope x.kind)) x S e h in
      have_append F slots w.ret a.calls (t.Free (fitted w.scope ty.AnyPtr x.kind a.value) ∷ []) s.kept
      (have_free F slots w.ret (fitted w.scope ty.AnyPtr x.kind a.value) (pick (is_zero w.scope x.kind) a.value s.type s.sort (value_passes (is_freeable (is_zero w.scope x.kind)) x s.type s.told e))) where
        pick : (z : Bool) (v : LExpr) (T : Ty) → sort_of F slots v ≡ sort_of_type T → is_freeable z T ≡ true → sort_of F slots (in_place true z v) ≡ Some pointer
        pick true v T e f = sort-Null F slots
        pick false v T e f = e ∙ pointer_sort T f

  pub back_sorted : (at : ℕ) (value : Option Expr) → Shows slots w.slots (give_back w made value).made → return_faults w.scope at w.ret value ≡ [] → IsReadValue value → HaveSorts F slots w.ret (give_back w made value).body
  back_sorted at None S e h = have_return F slots w.ret None (pick w.ret e) where
    pick : (T : Ty) → return_faults w.scope at T None ≡ [] → T ≡ ty.Void
    pick ty.Void e = refl
    pick ty.Int e = cc
    pick ty.Thread e = cc
    pick ty.AnyPtr e = cc
    pick (ty.Ptr name) e = cc
  back_sorted at (Some x) S e h =
      let a = take_calls w made x.kind in
      let A = faults w.scope x.at x.kind in
      let Q = asks_fit w.scope (Some w.ret) x.at x.kind in
      let fine = pick w.ret e in
      let q = no_right A Q fine in
      let s = sorted_calls F slots w.ret w made x.at x.kind K S (no_left A Q fine) h (not_void (test_for (Some w.ret) (is_zero w.scope x.kind)) x.at (type_of w.scope x.kind) q) in
      let f = fit_value F slots w.ret w.ret a.calls a.value (type_of w.scope x.kind) (is_zero w.scope x.kind) x.at s q in
      have_append F slots w.ret a.calls (t.Return (Some (fitted w.scope w.ret x.kind a.value)) ∷ []) s.kept
      (have_return F slots w.ret (Some (fitted w.scope w.ret x.kind a.value)) (has_sort (sort_of_type w.ret) (sort_of F slots (fitted w.scope w.ret x.kind a.value)) w.ret refl f.0 f.1)) where
        pick : (T : Ty) → return_faults w.scope at T (Some x) ≡ [] → fit_faults w.scope (Some T) x ≡ []
        pick ty.Void e = absurd (let k : ⊥ = cc in k)
        pick ty.Int e = e
        pick ty.Thread e = e
        pick ty.AnyPtr e = e
        pick (ty.Ptr name) e = e

  pub run_sorted : (at : ℕ) (x : ExprKind) → Shows slots w.slots (run w made x).made → faults w.scope at x ≡ [] → read.IsCall x → IsReadExpr x → HaveSorts F slots w.ret (run w made x).body
  unfolding IsReadExpr
  run_sorted at (e.Call' name _ args) S fine c h =
      let o = routine w.scope.program (meaning w.scope name) in
      let C = call_faults w.scope.program at name (length_of args) o in
      let A = argument_faults w.scope (parameters o) args in
      let values = take_arguments w made (parameters o) args in
      call_sorted F slots w.ret w.scope at name (length_of args) None values.calls values.values K (no_left C A fine) (sorted_arguments F slots w.ret w made (parameters o) args K S (no_right C A fine) h) (λ T t. tt)
  run_sorted at (e.Malloc name) S fine c h = (sorted_calls F slots w.ret w made at (e.Malloc name) K S fine h tt).kept
  run_sorted at e.Getchar S fine c h = (sorted_calls F slots w.ret w made at e.Getchar K S fine h tt).kept
  run_sorted at (e.Create' a1 b1 name f1 g1) S fine c h = (sorted_calls F slots w.ret w made at (e.Create' a1 b1 name f1 g1) K S fine h tt).kept
  run_sorted at (e.Join' a1 b1) S fine c h = (sorted_calls F slots w.ret w made at (e.Join' a1 b1) K S fine h tt).kept
  run_sorted at (e.Lock name) S fine c h = (sorted_calls F slots w.ret w made at (e.Lock name) K S fine h tt).kept
  run_sorted at (e.Unlock name) S fine c h = (sorted_calls F slots w.ret w made at (e.Unlock name) K S fine h tt).kept
  run_sorted at (e.Num n) S fine c h = absurd c
  run_sorted at e.Null S fine c h = absurd c
  run_sorted at e.Eof S fine c h = absurd c
  run_sorted at (e.Slot name k) S fine c h = absurd c
  run_sorted at (e.Name name) S fine c h = absurd c
  run_sorted at (e.Index' name a1 b1) S fine c h = absurd c
  run_sorted at (e.Field' a1 b1 name) S fine c h = absurd c
  run_sorted at (e.Un' op a1 b1) S fine c h = absurd c
  run_sorted at (e.Bin' op a1 b1 f1 g1) S fine c h = absurd c
  run_sorted at (e.Cast' s1 a1 b1) S fine c h = absurd c

  pub test_sorted : (test : Option Expr) → Shows slots w.slots (take_test w made test).made → test_faults w.scope test ≡ [] → IsReadValue test →
      HaveSorts F slots w.ret (take_test w made test).calls × (is_testable_sort (sort_of F slots (take_test w made test).value) ≡ true)
  test_sorted None S e h = (have_none F slots w.ret, ap is_testable_sort (sort-Num F slots (pos 1)))
  test_sorted (Some x) S e h = let s = value_sorted is_testable x S e h in (s.kept, ap is_testable_sort s.sort ∙ testable_sort s.type (value_passes is_testable x s.type s.told e))

pub ints_take : (op : BinOp) → takes_two op (Some int) (Some int) ≡ true
ints_take bin.Mul = refl
ints_take bin.Div = refl
ints_take bin.Rem = refl
ints_take bin.Add = refl
ints_take bin.Sub = refl
ints_take bin.Shl = refl
ints_take bin.Shr = refl
ints_take bin.Lt = refl
ints_take bin.Le = refl
ints_take bin.Gt = refl
ints_take bin.Ge = refl
ints_take bin.Eq = refl
ints_take bin.Ne = refl
ints_take bin.BitAnd = refl
ints_take bin.BitXor = refl
ints_take bin.BitOr = refl
ints_take bin.And = refl
ints_take bin.Or = refl

pub assign_sorted : (F : Lifted) (slots : List Slot) (w : Spot) (made : List Ty) (x : Expr) (op : Option BinOp) (y : Expr) → Knows F slots w.scope → Shows slots w.slots (assign w made x op y).made → assign_faults w.scope x op y ≡ [] →
    IsPlace x.kind → IsReadExpr x.kind → IsReadExpr y.kind → HaveSorts F slots w.ret (assign w made x op y).body
assign_sorted F slots w made x None y K S e place hx hy =
    let A = faults w.scope x.at x.kind in
    let L = lvalue_faults w.scope x.at x.kind in
    let o = type_of w.scope x.kind in
    let Y = fit_faults w.scope o y in
    let e1 = no_left (A ++ L) Y e in
    let e2 = no_right (A ++ L) Y e in
    let X = told_faults w.scope x.at x.kind (no_left A L e1) hx in
    let a = take_calls w made x.kind in
    let want : unwrap_or o ty.Int ≡ X.type = ap (λ r. unwrap_or r ty.Int) X.is in
    let e3 : fit_faults w.scope (Some X.type) y ≡ [] = subst (λ r. fit_faults w.scope r y ≡ []) X.is e2 in
    let B = faults w.scope y.at y.kind in
    let Q = asks_fit w.scope (Some X.type) y.at y.kind in
    let q = no_right B Q e3 in
    let Z = told_faults w.scope y.at y.kind (no_left B Q e3) hy in
    let n = subst NotVoid Z.is (not_void (test_for (Some X.type) (is_zero w.scope y.kind)) y.at (type_of w.scope y.kind) q) in
    let f = asked_type (test_for (Some X.type) (is_zero w.scope y.kind)) y.at (type_of w.scope y.kind) Z.type Z.is q in
    let some : NotVoid o = subst NotVoid (sym X.is) (wanted X.type Z.type (is_zero w.scope y.kind) n f) in
    let b = store w a.made (destination a.value) X.type y.kind in
    let S2 : Shows slots w.slots b.made = subst (λ T. Shows slots w.slots (store w a.made (destination a.value) T y.kind).made) want S in
    let s = sorted_calls F slots w.ret w made x.at x.kind K (shows_less slots w.slots a.made b.made (grows_store_bare w a.made (destination a.value) X.type (bare y.kind)) S2) (no_left A L e1) hx some in
    let at = destination_sort F slots w made x.at x.kind X.type X.is (no_right A L e1) place ∙ s.sort ∙ ap sort_of_type (same_type_told s.type X.type (sym s.told ∙ X.is)) in
    have_append F slots w.ret a.calls (store w a.made (destination a.value) (unwrap_or o ty.Int) y.kind).body s.kept
    (subst (λ T. HaveSorts F slots w.ret (store w a.made (destination a.value) T y.kind).body) (sym want)
    (store_sorted F slots w.ret w a.made (destination a.value) X.type y.at y.kind K S2 (no_left B Q e3) q hy at))
assign_sorted F slots w made x (Some op) y K S e place hx hy =
    let A = faults w.scope x.at x.kind in
    let L = lvalue_faults w.scope x.at x.kind in
    let Q = asks w.scope is_int x.at x.kind in
    let Y = value_faults w.scope is_int y in
    let a = take_calls w made x.kind in
    let b = take_calls w a.made y.kind in
    let e1 = no_left (A ++ L ++ Q) Y e in
    let q = no_right (A ++ L) Q e1 in
    let s = sorted_calls F slots w.ret w made x.at x.kind K (shows_less slots w.slots a.made b.made (grows_calls w a.made y.kind) S) (no_left A L (no_left (A ++ L) Q e1)) hx (not_void is_int x.at (type_of w.scope x.kind) q) in
    let r = value_sorted F slots w a.made K is_int y S (no_right (A ++ L ++ Q) Y e) hy in
    let i : sort_of F slots a.value ≡ Some int = s.sort ∙ int_sort s.type (asked_type is_int x.at (type_of w.scope x.kind) s.type s.told q) in
    let j : sort_of F slots b.value ≡ Some int = r.sort ∙ int_sort r.type (value_passes F slots w a.made K is_int y r.type r.told (no_right (A ++ L ++ Q) Y e)) in
    let both : takes_two op (sort_of F slots a.value) (sort_of F slots b.value) ≡ true = ap (λ u. takes_two op u (sort_of F slots b.value)) i ∙ ap (λ u. takes_two op (Some int) u) j ∙ ints_take op in
    have_append F slots w.ret (a.calls ++ b.calls) (t.Assign (destination a.value) (l.Bin op a.value b.value) ∷ []) (have_append F slots w.ret a.calls b.calls s.kept r.kept)
    (have_assign F slots w.ret (destination a.value) (l.Bin op a.value b.value) (has_sort (sort_at F slots (destination a.value)) (sort_of F slots (l.Bin op a.value b.value)) ty.Int
    (destination_sort F slots w made x.at x.kind s.type s.told (no_right A L (no_left (A ++ L) Q e1)) place ∙ i) (sort-Bin F slots op a.value b.value ∙ ap (λ u. sort_if u (Some int)) both) tt))

-- the arguments of a printf
pub record Printed (F : Lifted) (slots : List Slot) (ret : Ty) (calls : List LStmt) (values : List LExpr) : Type 0 where
  pub kept : HaveSorts F slots ret calls
  pub ints : AllByRecursion (λ x. sort_of F slots x ≡ Some int) values

pub arguments_sorted : (F : Lifted) (slots : List Slot) (w : Spot) (made : List Ty) (args : List Expr) → Knows F slots w.scope → Shows slots w.slots (take_all w made args).made → flat_map (value_faults w.scope is_int) args ≡ [] →
    AllByRecursion (λ x. IsReadExpr x.kind) args → Printed F slots w.ret (take_all w made args).calls (take_all w made args).values
unfolding literals take_arguments
arguments_sorted F slots w made [] K S e h = record { kept = have_none F slots w.ret; ints = tt }
arguments_sorted F slots w made (x ∷ args) K S e h =
    let a = take_calls w made x.kind in
    let b = take_all w a.made args in
    let V = value_faults w.scope is_int x in
    let s = value_sorted F slots w made K is_int x (shows_less slots w.slots a.made b.made (grows_arguments w a.made [] (args_of args)) S) (no_left V (flat_map (value_faults w.scope is_int) args) e) h.0 in
    let r = arguments_sorted F slots w a.made args K S (no_right V (flat_map (value_faults w.scope is_int) args) e) h.1 in
    record {
      kept = have_append F slots w.ret a.calls b.calls s.kept r.kept;
      ints = (s.sort ∙ int_sort s.type (value_passes F slots w made K is_int x s.type s.told (no_left V (flat_map (value_faults w.scope is_int) args) e)), r.ints);
    }

pub print_sorted : (F : Lifted) (slots : List Slot) (w : Spot) (made : List Ty) (text : List ℕ) (args : List Expr) → Knows F slots w.scope → Shows slots w.slots (printed w made text args).made →
    flat_map (value_faults w.scope is_int) args ≡ [] → All (λ x. IsReadExpr x.kind) args → HaveSorts F slots w.ret (printed w made text args).body
print_sorted F slots w made text args K S e h =
    let a = take_all w made args in
    let r = arguments_sorted F slots w made args K S e (recursion_from_All (λ x. IsReadExpr x.kind) args h) in
    have_append F slots w.ret a.calls (t.Print text a.values ∷ []) r.kept (have_print F slots w.ret text a.values (All-from_recursion (λ x. sort_of F slots x ≡ Some int) a.values r.ints))

-- what is known where a statement stands
pub record Standing (F : Lifted) (slots : List Slot) (w : Spot) (st : Stand) (variables : List Variable) (made : List Ty) (found : List Fault) (form : Type 0) : Type 0 where
  pub same : w.scope ≡ st.scope
  pub ret : st.ret ≡ w.ret
  pub knows : Knows F slots w.scope
  pub sees : Sees slots (w.scope.slots ++ tys variables)
  pub shows : Shows slots w.slots made
  pub fine : found ≡ []
  pub form_is : form

pub declare_sorted : (F : Lifted) (slots : List Slot) (w : Spot) (made : List Ty) (st : Stand) (at : ℕ) (T : Ty) (name : List ℕ) (value : Option Expr) →
    Standing F slots w st (locals (s.Declare T name value)) (lift_stmt w made at (s.Declare T name value)).made (stmt_faults st at (s.Declare T name value)) (IsReadStmt (s.Declare T name value)) →
    HaveSorts F slots w.ret (lift_stmt w made at (s.Declare T name value)).body
unfolding literals lift_stmt IsReadStmt
declare_sorted F slots w made st at T name value k =
    let v = at_scope w (with_local w.scope at name T) in
    let there = with_local st.scope at name T in
    let fine : start_value_faults v.scope T value ≡ [] = subst (λ sc. start_value_faults (with_local sc at name T) T value ≡ []) (sym k.same) (no_right (local_faults st at name T) (start_value_faults there T value) k.fine) in
    start_sorted F slots v made (knows_local F slots w.scope at name T k.knows k.sees) (length w.scope.slots) T value k.shows fine k.form_is.2 (k.sees (length w.scope.slots) T (get_end w.scope.slots T))

pub simple_sorted : (F : Lifted) (slots : List Slot) (w : Spot) (made : List Ty) (st : Stand) (at : ℕ) (kind : StmtKind) → w.scope ≡ st.scope → Knows F slots w.scope → Shows slots w.slots (lift_stmt w made at kind).made →
    stmt_faults st at kind ≡ [] → IsSimple kind → IsReadStmt kind → HaveSorts F slots w.ret (lift_stmt w made at kind).body
unfolding literals lift_stmt IsReadStmt
simple_sorted F slots w made st at (s.Assign x op y) same K S e simple h = assign_sorted F slots w made x op y K S (subst (λ sc. assign_faults sc x op y ≡ []) (sym same) e) h.0 h.1 h.2
simple_sorted F slots w made st at (s.Run x) same K S e simple h = run_sorted F slots w made K x.at x.kind S (subst (λ sc. faults sc x.at x.kind ≡ []) (sym same) e) h.0 h.1
simple_sorted F slots w made st at (s.Free x) same K S e simple h = free_sorted F slots w made K x S (subst (λ sc. value_faults sc (is_freeable (is_zero sc x.kind)) x ≡ []) (sym same) e) h
simple_sorted F slots w made st at (s.Print text args) same K S e simple h =
    print_sorted F slots w made text args K S (subst (λ sc. flat_map (value_faults sc is_int) args ≡ []) (sym same)
    (no_right (unless (is_count (length args) (directives text)) (fault at c.BadCall)) (flat_map (value_faults st.scope is_int) args) e)) h
simple_sorted F slots w made st at s.Empty same K S e simple h = absurd simple
simple_sorted F slots w made st at (s.Block' a body) same K S e simple h = absurd simple
simple_sorted F slots w made st at (s.Declare T name value) same K S e simple h = absurd simple
simple_sorted F slots w made st at (s.If' test a body other) same K S e simple h = absurd simple
simple_sorted F slots w made st at (s.While' test a body) same K S e simple h = absurd simple
simple_sorted F slots w made st at (s.For' a starts test step b body) same K S e simple h = absurd simple
simple_sorted F slots w made st at s.Break same K S e simple h = absurd simple
simple_sorted F slots w made st at s.Continue same K S e simple h = absurd simple
simple_sorted F slots w made st at (s.Return value) same K S e simple h = absurd simple

pub step_sorted : (F : Lifted) (slots : List Slot) (w : Spot) (made : List Ty) (st : Stand) (step : Held-StmtKind-If-2) → w.scope ≡ st.scope → Knows F slots w.scope → Shows slots w.slots (lift_else w made step).made →
    else_faults st step ≡ [] → IsReadStep step → HaveSorts F slots w.ret (lift_else w made step).body
unfolding literals lift_else IsReadStep
step_sorted F slots w made st None' same K S e h = have_none F slots w.ret
step_sorted F slots w made st (Some' _ (one b kind _)) same K S e h = simple_sorted F slots w made st b kind same K S e h.0 h.1

-- statements
mutual
  unfolding literals lift_stmt lift_all lift_else IsReadStmt AreReadStmts IsReadElse

  pub sorted_stmt : (F : Lifted) (slots : List Slot) (w : Spot) (made : List Ty) (st : Stand) (at : ℕ) (kind : StmtKind) → Standing F slots w st (locals kind) (lift_stmt w made at kind).made (stmt_faults st at kind) (IsReadStmt kind) →
      HaveSorts F slots w.ret (lift_stmt w made at kind).body
  sorted_stmt F slots w made st at s.Empty k = have_none F slots w.ret
  sorted_stmt F slots w made st at (s.Block' _ body) k = sorted_block F slots w made (in_block st) body (record { same = k.same; ret = k.ret; knows = k.knows; sees = k.sees; shows = k.shows; fine = k.fine; form_is = k.form_is })
  sorted_stmt F slots w made st at (s.Declare T name value) k = declare_sorted F slots w made st at T name value k
  sorted_stmt F slots w made st at (s.If' test _ (one b body _) other) k =
      let a = take_calls w made test.kind in
      let y = lift_stmt w a.made b body in
      let v = at_scope w (after w.scope b body) in
      let n = lift_else v y.made other in
      let X = value_faults st.scope is_testable test in
      let I = stmt_faults st b body in
      let O = else_faults (next st b body) other in
      let e2 = no_left (X ++ I) O k.fine in
      let SY = shows_less slots w.slots y.made n.made (grows_else v y.made other) k.shows in
      let SA = shows_less slots w.slots a.made y.made (grows_stmt w a.made b body) SY in
      let x = test_sorted F slots w made k.knows (Some test) SA (subst (λ sc. value_faults sc is_testable test ≡ []) (sym k.same) (no_left X I e2)) k.form_is.0 in
      let V1 = sees_first slots w.scope.slots (locals body) (locals_else other) k.sees in
      have_append F slots w.ret a.calls (t.If a.value y.body n.body ∷ []) x.0
      (have_if F slots w.ret a.value y.body n.body x.1
      (sorted_stmt F slots w a.made st b body (record { same = k.same; ret = k.ret; knows = k.knows; sees = V1; shows = SY; fine = no_right X I e2; form_is = k.form_is.2 }))
      (sorted_else F slots v y.made (next st b body) other (record {
        same = ap (λ sc. after sc b body) k.same ∙ sym (next_scope st b body);
        ret = next_ret st b body ∙ k.ret;
        knows = knows_after F slots w.scope b body k.knows V1;
        sees = sees_next slots w.scope b body (locals_else other) k.sees;
        shows = k.shows;
        fine = no_right (X ++ I) O k.fine;
        form_is = k.form_is.3;
      })))
  sorted_stmt F slots w made st at (s.While' test _ (one b body _)) k =
      let a = take_calls w made test.kind in
      let y = lift_stmt w a.made b body in
      let X = value_faults st.scope is_testable test in
      let I = stmt_faults (in_body st) b body in
      let x = test_sorted F slots w made k.knows (Some test) (shows_less slots w.slots a.made y.made (grows_stmt w a.made b body) k.shows) (subst (λ sc. value_faults sc is_testable test ≡ []) (sym k.same) (no_left X I k.fine)) k.form_is.0 in
      have_loop F slots w.ret a.calls a.value y.body [] x.0 x.1
      (sorted_stmt F slots w a.made (in_body st) b body (record { same = k.same; ret = k.ret; knows = k.knows; sees = k.sees; shows = k.shows; fine = no_right X I k.fine; form_is = k.form_is.2 })) (have_none F slots w.ret)
  sorted_stmt F slots w made st at (s.For' _ starts test step _ (one b body _)) k =
      let start = lift_all w made starts in
      let v = at_scope w (after_all w.scope starts) in
      let a = take_test v start.made test in
      let more = lift_else v a.made step in
      let inner = lift_stmt v more.made b body in
      let there = next_all (in_block st) starts in
      let X = block_faults (in_block st) starts in
      let T = test_faults there.scope test in
      let P = else_faults there step in
      let B = stmt_faults (in_body there) b body in
      let same2 : v.scope ≡ there.scope = ap (λ sc. after_all sc starts) k.same ∙ sym (next_all_scope (in_block st) starts) in
      let SM = shows_less slots w.slots more.made inner.made (grows_stmt v more.made b body) k.shows in
      let SA = shows_less slots w.slots a.made more.made (grows_else v a.made step) SM in
      let SS = shows_less slots w.slots start.made a.made (grows_test v start.made test) SA in
      let V1 = sees_first slots w.scope.slots (locals_of starts) (locals body) k.sees in
      let V2 = subst (λ ts. Sees slots (ts ++ tys (locals body))) (sym (after_all_slots w.scope starts)) (sees_parts slots w.scope.slots (locals_of starts) (locals body) k.sees) in
      let K2 = knows_after_all F slots w.scope starts k.knows V1 in
      let e3 = no_left (X ++ T ++ P) B k.fine in
      let e2 = no_left (X ++ T) P e3 in
      let x = test_sorted F slots v start.made K2 test SA (subst (λ sc. test_faults sc test ≡ []) (sym same2) (no_right X T e2)) k.form_is.2 in
      have_append F slots w.ret start.body (t.Loop a.calls a.value inner.body more.body ∷ [])
      (sorted_block F slots w made (in_block st) starts (record { same = k.same; ret = k.ret; knows = k.knows; sees = V1; shows = SS; fine = no_left X T e2; form_is = k.form_is.1 }))
      (have_loop F slots w.ret a.calls a.value inner.body more.body x.0 x.1
      (sorted_stmt F slots v more.made (in_body there) b body (record { same = same2; ret = next_all_ret (in_block st) starts ∙ k.ret; knows = K2; sees = V2; shows = k.shows; fine = no_right (X ++ T ++ P) B k.fine; form_is = k.form_is.5 }))
      (step_sorted F slots v a.made there step same2 K2 SM (no_right (X ++ T) P e3) k.form_is.3))
  sorted_stmt F slots w made st at s.Break k = have_break F slots w.ret
  sorted_stmt F slots w made st at s.Continue k = have_continue F slots w.ret
  sorted_stmt F slots w made st at (s.Return value) k =
      back_sorted F slots w made k.knows at value k.shows (subst (λ T. return_faults w.scope at T value ≡ []) k.ret (subst (λ sc. return_faults sc at st.ret value ≡ []) (sym k.same) k.fine)) k.form_is
  sorted_stmt F slots w made st at (s.Assign x op y) k = simple_sorted F slots w made st at (s.Assign x op y) k.same k.knows k.shows k.fine tt k.form_is
  sorted_stmt F slots w made st at (s.Run x) k = simple_sorted F slots w made st at (s.Run x) k.same k.knows k.shows k.fine tt k.form_is
  sorted_stmt F slots w made st at (s.Free x) k = simple_sorted F slots w made st at (s.Free x) k.same k.knows k.shows k.fine tt k.form_is
  sorted_stmt F slots w made st at (s.Print text args) k = simple_sorted F slots w made st at (s.Print text args) k.same k.knows k.shows k.fine tt k.form_is

  pub sorted_block : (F : Lifted) (slots : List Slot) (w : Spot) (made : List Ty) (st : Stand) → {m : _} → (body : Row_of-Stmt m) → Standing F slots w st (locals_of body) (lift_all w made body).made (block_faults st body) (AreReadStmts body) →
      HaveSorts F slots w.ret (lift_all w made body).body
  sorted_block F slots w made st end_of-Stmt k = have_none F slots w.ret
  sorted_block F slots w made st (more_of-Stmt at kind rest) k =
      let a = lift_stmt w made at kind in
      let v = at_scope w (after w.scope at kind) in
      let V1 = sees_first slots w.scope.slots (locals kind) (locals_of rest) k.sees in
      have_append F slots w.ret a.body (lift_all v a.made rest).body
      (sorted_stmt F slots w made st at kind (record {
        same = k.same;
        ret = k.ret;
        knows = k.knows;
        sees = V1;
        shows = shows_less slots w.slots a.made (lift_all v a.made rest).made (grows_all v a.made rest) k.shows;
        fine = no_left (stmt_faults st at kind) (block_faults (next st at kind) rest) k.fine;
        form_is = k.form_is.0;
      }))
      (sorted_block F slots v a.made (next st at kind) rest (record {
        same = ap (λ sc. after sc at kind) k.same ∙ sym (next_scope st at kind);
        ret = next_ret st at kind ∙ k.ret;
        knows = knows_after F slots w.scope at kind k.knows V1;
        sees = sees_next slots w.scope at kind (locals_of rest) k.sees;
        shows = k.shows;
        fine = no_right (stmt_faults st at kind) (block_faults (next st at kind) rest) k.fine;
        form_is = k.form_is.1;
      }))

  pub sorted_else : (F : Lifted) (slots : List Slot) (w : Spot) (made : List Ty) (st : Stand) (other : Held-StmtKind-If-2) → Standing F slots w st (locals_else other) (lift_else w made other).made (else_faults st other) (IsReadElse other) →
      HaveSorts F slots w.ret (lift_else w made other).body
  sorted_else F slots w made st None' k = have_none F slots w.ret
  sorted_else F slots w made st (Some' _ (one b body _)) k =
      sorted_stmt F slots w made st b body (record { same = k.same; ret = k.ret; knows = k.knows; sees = k.sees; shows = k.shows; fine = k.fine; form_is = k.form_is.1 })
