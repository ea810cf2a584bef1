-- Expressions without faults: their calls and what is left of them have the sorts that are asked.
use Rattle.std.proofs.Common.{◌≡◌, ℕ, zero, suc, ◌+◌, ◌<◌, pos, Bool, true, false, ◌&&◌, List, [], ◌∷◌, ◌++◌, length, drop, Option, Some, None, refl, sym, ap, subst, ◌∙◌, arith, append_assoc}
use Rattle.std.specs.Prelude.{slice_get, is_some, unwrap_or, not, ◌==◌, if◌then◌else◌, map, codes, ⊤, All}
use Rattle.std.specs.List.{AllZip}
use Rattle.std.proofs.lemmas.Bool.{eqb-true}
use Rattle.std.proofs.lemmas.List.{append-nil}
use Rattle.c_tree.specs.Compute.{literals}
use Rattle.c_tree.specs.declared.ty.Ty.{Ty}
use Rattle.c_tree.specs.declared.ty.Ty.TheVariants as ty
use Rattle.c_tree.specs.declared.op.UnOp.{UnOp}
use Rattle.c_tree.specs.declared.op.UnOp.TheVariants as un
use Rattle.c_tree.specs.declared.op.BinOp.{BinOp}
use Rattle.c_tree.specs.declared.op.BinOp.TheVariants as bin
use Rattle.c_tree.specs.declared.cause.CheckCause.TheVariants as c
use Rattle.c_tree.specs.declared.scope.Meaning.{Meaning}
use Rattle.c_tree.specs.declared.scope.Meaning.TheVariants as m
use Rattle.c_tree.specs.declared.program.Program.{Program}
use Rattle.c_tree.specs.declared.program.Field.{Field}
use Rattle.c_tree.specs.declared.program.Function.{Function}
use Rattle.c_tree.specs.declared.program.Define.{Define}
use Rattle.c_tree.specs.declared.program.At.{At}
use Rattle.c_tree.specs.declared.program.ExprKind.{ExprKind, Row_of-Expr, end_of-Expr, more_of-Expr, more_of-Expr as only}
use Rattle.c_tree.specs.declared.program.ExprKind.TheVariants as e
use Rattle.c_tree.specs.declared.lifted.Slot.{Slot}
use Rattle.c_tree.specs.declared.lifted.Dest.{Dest}
use Rattle.c_tree.specs.declared.lifted.Dest.TheVariants as d
use Rattle.c_tree.specs.declared.lifted.LExpr.{LExpr}
use Rattle.c_tree.specs.declared.lifted.LExpr as l
use Rattle.c_tree.specs.declared.lifted.LStmt.{LStmt}
use Rattle.c_tree.specs.declared.lifted.LStmt.TheBlock.{hidden-the_row-LStmt-0 as lrow_of}
use Rattle.c_tree.specs.declared.lifted.LStmt as t
use Rattle.c_tree.specs.declared.lifted.LFunction.{LFunction}
use Rattle.c_tree.specs.declared.lifted.Lifted.{Lifted}
use Rattle.c_tree.specs.Fault.{fault, unless}
use Rattle.c_tree.specs.Scope.{Scope, meaning, routine, is_same_name, is_defined, struct_named, field_named}
use Rattle.c_tree.specs.Types.{is_int, is_thread, is_pointer, is_any_pointer, type_of, name_type, scalar_type, array_type, element_type, result_type, member_type, type_of_field, define, is_zero, takes, side, fits}
use Rattle.c_tree.specs.Typing.{faults, argument_faults, length_of, ask, asks, asks_fit, test_for, anything, operand_test, name_faults, is_nothing, field_faults, lvalue_faults, is_constant, call_faults, start_faults, lock_faults, parameters, takes_any_pointer, type_faults}
use Rattle.c_tree.specs.Lifting.{Spot, Taken, take_calls, take_arguments, joined, deciding, truth, goes_on, temporaries, is_lazy, has_call, beside, in_place, is_equality, is_pointer_type, fitted, named, literal_of, array_number, field_in, mutex_number, destination, function_number, struct_number, field_number}
use Rattle.c_tree.specs.Formed.{Sort, int, thread, pointer, sort_of_type, sort_of_slot, sort_of_scalar, sort_of_element, fields_in, is_int_sort, is_pointer_sort, is_testable_sort, takes_one, takes_two, sort_if, sort_of, sort_at, HasSort, AreArguments, TakesResult, IsCall, HasStartForm, IsReturn, HasSortsIn, HaveSortsIn}
use Rattle.c_tree.specs.StartForm.{parameters_of, takes_one_pointer}
use Rattle.c_tree.specs.ReadForm.{IsReadExpr, AreReadExprs, IsPlace, IsCastType}
use Rattle.lift_laws.proofs.LimitLemmas.{both_true}
use Rattle.lift_laws.proofs.NoFaults.{no_left, no_right, passes}
use Rattle.lift_laws.proofs.ValueSorts.{NotVoid, not_void, passed, int_sort, thread_sort, pointer_sort, testable_sort, has_sort, un_takes, side_of, bin_takes, lazy_takes, fitted_sort, sort-Num, sort-Null, sort-Slot, sort-Global, sort-Elem, sort-Field, sort-Un, sort-Bin, sort-literal}
use Rattle.lift_laws.proofs.CallSorts.{Callee, Knows, Shows, Grows, grows_not, grows_by, grows_then, shows_less, shows_last, HaveSorts, have_none, have_append, have_new, have_getc, have_call, have_spawn, have_join, have_lock, have_unlock, grows_temporaries, joined_made, grows_calls, grows_arguments, Sorted, same_type_told, not_told, asked_type, Told, named_sorted, elem_sorted, un_sorted, cast_sorted, field_sorted, bin_sorted}

-- a call
pub record Called (p : Program) (name : List ℕ) (count : ℕ) (o : Option Function) : Type 0 where
  pub function : Function
  pub is : o ≡ Some function
  pub defined : is_defined p name ≡ true
  pub few : count ≡ length function.params

pub called : (p : Program) (at : ℕ) (name : List ℕ) (count : ℕ) (o : Option Function) → call_faults p at name count o ≡ [] → Called p name count o
called p at name count None e = absurd (let k : ⊥ = cc in k)
called p at name count (Some f) e =
    let defined = unless (is_defined p name) (fault at (c.Unknown name)) in
    let test = not (is_same_name name (codes "main")) && count == length f.params in
    record {
      function = f;
      is = refl;
      defined = passes (is_defined p name) _ (no_left defined (unless test (fault at c.BadCall)) e);
      few = eqb-true count (length f.params) (both_true (not (is_same_name name (codes "main"))) (count == length f.params) (passes test _ (no_right defined (unless test (fault at c.BadCall)) e))).1;
    }

abbrev pub FitAll : Lifted → List Slot → List Ty → List LExpr → Type 0
FitAll F slots ts values = AllZip (λ T x. HasSort (sort_of_type T) (sort_of F slots x)) ts values

pub arguments_fit : (F : Lifted) (slots : List Slot) (params : List Slot) (values : List LExpr) → FitAll F slots (map (λ q. q.ty) params) values → AreArguments F slots params values
arguments_fit F slots [] [] h = tt
arguments_fit F slots [] (x ∷ values) h = h
arguments_fit F slots (q ∷ params) [] h = h
arguments_fit F slots (q ∷ params) (x ∷ values) h = (h.0, arguments_fit F slots params values h.1)

pub takes_result : (slots : List Slot) (T : Ty) (k : ℕ) → NotVoid (Some T) → sort_of_slot (slice_get slots k) ≡ sort_of_type T → TakesResult slots T (Some k)
takes_result slots T k some e = has_sort (sort_of_slot (slice_get slots k)) (sort_of_type T) T e refl some

pub call_fits : (F : Lifted) (slots : List Slot) (n : ℕ) (f : Function) (to : Option ℕ) (values : List LExpr) → Callee F n f → FitAll F slots (map (λ q. q.ty) f.params) values → TakesResult slots f.ret to →
    IsCall F slots to (slice_get F.functions n) values
call_fits F slots n f to values g fit result =
    subst (λ o. IsCall F slots to o values) (sym g.is)
    (arguments_fit F slots (parameters_of g.function) values (subst (λ ts. FitAll F slots ts values) (sym g.params) fit), subst (λ T. TakesResult slots T to) (sym g.ret) result)

-- a started function
pub one_pointer : (qs : List Field) (xs : List Slot) → map (λ x. x.ty) xs ≡ map (λ q. q.ty) qs → takes_any_pointer qs ≡ true → takes_one_pointer xs ≡ true
one_pointer [] xs same e = cc
one_pointer (q ∷ []) [] same e = cc
one_pointer (q ∷ []) (x ∷ []) same e = let t : x.ty ≡ q.ty = cc in ap is_any_pointer t ∙ e
one_pointer (q ∷ []) (x ∷ y ∷ xs) same e = cc
one_pointer (q ∷ r ∷ qs) xs same e = cc

pub started : (F : Lifted) (p : Program) (at n : ℕ) (name : List ℕ) (o : Option Function) → start_faults p at name o ≡ [] →
    ((f : Function) → o ≡ Some f → is_defined p name ≡ true → Callee F n f) → HasStartForm (slice_get F.functions n)
started F p at n name None e callee = absurd (let k : ⊥ = cc in k)
started F p at n name (Some f) e callee =
    let defined = unless (is_defined p name) (fault at (c.Unknown name)) in
    let test = is_any_pointer f.ret && takes_any_pointer f.params in
    let g = callee f refl (passes (is_defined p name) _ (no_left defined (unless test (fault at c.BadStart)) e)) in
    let form = both_true (is_any_pointer f.ret) (takes_any_pointer f.params) (passes test _ (no_right defined (unless test (fault at c.BadStart)) e)) in
    let params = parameters_of g.function in
    subst HasStartForm (sym g.is) (ap (λ r. is_any_pointer r && takes_one_pointer params) g.ret ∙ (ap (λ b. b && takes_one_pointer params) form.0 ∙ one_pointer f.params params g.params form.1))

-- a mutex
pub locked : (at : ℕ) (name : At (List ℕ)) (what : Meaning) (n : ℕ) → lock_faults at name what ≡ [] → ((i : ℕ) → what ≡ m.Mutex i → i < n) → mutex_number what < n
locked at name (m.Mutex i) n e low = low i refl
locked at name m.Nothing n e low = absurd (let k : ⊥ = cc in k)
locked at name (m.Local i) n e low = absurd (let k : ⊥ = cc in k)
locked at name (m.Constant i) n e low = absurd (let k : ⊥ = cc in k)
locked at name (m.Global i) n e low = absurd (let k : ⊥ = cc in k)
locked at name (m.Routine i) n e low = absurd (let k : ⊥ = cc in k)

-- an lvalue asks the sort that its value has
pub destination_sort : (F : Lifted) (slots : List Slot) (w : Spot) (made : List Ty) (at : ℕ) (x : ExprKind) (T : Ty) → type_of w.scope x ≡ Some T → lvalue_faults w.scope at x ≡ [] → IsPlace x →
    sort_at F slots (destination (take_calls w made x).value) ≡ sort_of F slots (take_calls w made x).value
unfolding literals take_calls sort_of
destination_sort F slots w made at (e.Name name) T told fine h = pick (meaning w.scope name) told fine where
  pick : (what : Meaning) → name_type w.scope what ≡ Some T → unless (not (is_constant what)) (fault at c.BadInit) ≡ [] → sort_at F slots (destination (named w.scope.program what)) ≡ sort_of F slots (named w.scope.program what)
  pick (m.Local i) told fine = refl
  pick (m.Global i) told fine = refl
  pick (m.Constant i) told fine = cc
  pick (m.Mutex i) told fine = absurd (not_told T told)
  pick (m.Routine i) told fine = absurd (not_told T told)
  pick m.Nothing told fine = absurd (not_told T told)
destination_sort F slots w made at (e.Index' name _ (only _ x _)) T told fine h = refl
destination_sort F slots w made at (e.Field' _ (only _ x _) name) T told fine h = pick (type_of w.scope x) told where
  pick : (o : Option Ty) → member_type w.scope o name ≡ Some T → sort_at F slots (destination (field_in w.scope (take_calls w made x).value o name)) ≡ sort_of F slots (field_in w.scope (take_calls w made x).value o name)
  pick (Some (ty.Ptr owner)) told = refl
  pick None told = absurd (not_told T told)
  pick (Some ty.Int) told = absurd (not_told T told)
  pick (Some ty.Thread) told = absurd (not_told T told)
  pick (Some ty.Void) told = absurd (not_told T told)
  pick (Some ty.AnyPtr) told = absurd (not_told T told)
destination_sort F slots w made at (e.Num n) T told fine h = absurd h
destination_sort F slots w made at e.Null T told fine h = absurd h
destination_sort F slots w made at e.Eof T told fine h = absurd h
destination_sort F slots w made at (e.Slot name k) T told fine h = absurd h
destination_sort F slots w made at (e.Un' op a b) T told fine h = absurd h
destination_sort F slots w made at (e.Bin' op a b f g) T told fine h = absurd h
destination_sort F slots w made at (e.Cast' s a b) T told fine h = absurd h
destination_sort F slots w made at (e.Call' name a b) T told fine h = absurd h
destination_sort F slots w made at (e.Malloc name) T told fine h = absurd h
destination_sort F slots w made at e.Getchar T told fine h = absurd h
destination_sort F slots w made at (e.Create' a b name f g) T told fine h = absurd h
destination_sort F slots w made at (e.Join' a b) T told fine h = absurd h
destination_sort F slots w made at (e.Lock name) T told fine h = absurd h
destination_sort F slots w made at (e.Unlock name) T told fine h = absurd h

-- the arguments of a call
pub record SortedAll (F : Lifted) (slots : List Slot) (ret : Ty) (ts : List Ty) (calls : List LStmt) (values : List LExpr) : Type 0 where
  pub kept : HaveSorts F slots ret calls
  pub fit : FitAll F slots ts values

pub asked_void : (T : Ty) (z : Bool) → NotVoid (Some T) → fits ty.Void T z ≡ true → ⊥
asked_void ty.Void z n e = absurd n
asked_void ty.Int z n e = cc
asked_void ty.Thread z n e = cc
asked_void ty.AnyPtr z n e = cc
asked_void (ty.Ptr name) z n e = cc

pub wanted : (want T : Ty) (z : Bool) → NotVoid (Some T) → fits want T z ≡ true → NotVoid (Some want)
wanted ty.Void T z n e = absurd (asked_void T z n e)
wanted ty.Int T z n e = tt
wanted ty.Thread T z n e = tt
wanted ty.AnyPtr T z n e = tt
wanted (ty.Ptr name) T z n e = tt

-- a value that is asked to fit
pub fit_value : (F : Lifted) (slots : List Slot) (ret want : Ty) (calls : List LStmt) (v : LExpr) (o : Option Ty) (z : Bool) (at : ℕ) → Sorted F slots ret calls v o → ask (test_for (Some want) z) at o ≡ [] →
    (sort_of F slots (in_place (is_pointer want) z v) ≡ sort_of_type want) × NotVoid (Some want)
fit_value F slots ret want calls v o z at s e =
    let n = subst NotVoid s.told (not_void (test_for (Some want) z) at o e) in
    let f = asked_type (test_for (Some want) z) at o s.type s.told e in
    (fitted_sort F slots want s.type z v s.sort n f, wanted want s.type z n f)

pub more_sorted : (F : Lifted) (slots : List Slot) (ret want : Ty) (ts : List Ty) (calls more : List LStmt) (v : LExpr) (values : List LExpr) (o : Option Ty) (z : Bool) (at : ℕ) → Sorted F slots ret calls v o →
    ask (test_for (Some want) z) at o ≡ [] → SortedAll F slots ret ts more values → SortedAll F slots ret (want ∷ ts) (calls ++ more) (in_place (is_pointer want) z v ∷ values)
more_sorted F slots ret want ts calls more v values o z at s e others =
    let f = fit_value F slots ret want calls v o z at s e in
    record { kept = have_append F slots ret calls more s.kept others.kept; fit = (has_sort (sort_of_type want) (sort_of F slots (in_place (is_pointer want) z v)) want refl f.0 f.1, others.fit) }

pub call_sorted : (F : Lifted) (slots : List Slot) (ret : Ty) (sc : Scope) (at : ℕ) (name : List ℕ) (count : ℕ) (to : Option ℕ) (calls : List LStmt) (values : List LExpr) → Knows F slots sc →
    call_faults sc.program at name count (routine sc.program (meaning sc name)) ≡ [] → (count ≡ length (parameters (routine sc.program (meaning sc name))) → SortedAll F slots ret (map (λ q. q.ty) (parameters (routine sc.program (meaning sc name)))) calls values) →
    ((T : Ty) → result_type (routine sc.program (meaning sc name)) ≡ Some T → TakesResult slots T to) → HaveSorts F slots ret (calls ++ t.Call to (function_number sc.program name) values ∷ [])
call_sorted F slots ret sc at name count to calls values K e all result =
    have_append F slots ret calls (t.Call to (function_number sc.program name) values ∷ []) sorted.kept
    (have_call F slots ret to (function_number sc.program name) values (call_fits F slots (function_number sc.program name) f.function to values (K.callee name f.function f.is f.defined) sorted.fit (result f.function.ret (ap result_type f.is)))) where
      f : Called sc.program name count (routine sc.program (meaning sc name))
      f = called sc.program at name count (routine sc.program (meaning sc name)) e

      sorted : SortedAll F slots ret (map (λ q. q.ty) f.function.params) calls values
      sorted = subst (λ qs. SortedAll F slots ret (map (λ q. q.ty) qs) calls values) (ap parameters f.is) (all (f.few ∙ ap (λ o. length (parameters o)) (sym f.is)))

pub slot_joined : (slots : List Slot) (base : ℕ) (splits : Bool) (amade bmade : List Ty) → Shows slots base bmade → Grows (temporaries splits amade) bmade → splits ≡ true →
    sort_of_slot (slice_get slots (base + length amade)) ≡ Some int
slot_joined slots base true amade bmade s g e = shows_last slots base amade bmade ty.Int g s
slot_joined slots base false amade bmade s g e = cc

mutual
  unfolding literals take_calls take_arguments IsReadExpr AreReadExprs

  pub sorted_calls : (F : Lifted) (slots : List Slot) (ret : Ty) (w : Spot) (made : List Ty) (at : ℕ) (x : ExprKind) → Knows F slots w.scope → Shows slots w.slots (take_calls w made x).made → faults w.scope at x ≡ [] → IsReadExpr x →
      NotVoid (type_of w.scope x) → Sorted F slots ret (take_calls w made x).calls (take_calls w made x).value (type_of w.scope x)
  sorted_calls F slots ret w made at (e.Num n) K S e h v = record { kept = have_none F slots ret; type = ty.Int; told = refl; sort = sort-Num F slots n }
  sorted_calls F slots ret w made at e.Null K S e h v = record { kept = have_none F slots ret; type = ty.AnyPtr; told = refl; sort = sort-Null F slots }
  sorted_calls F slots ret w made at e.Eof K S e h v = record { kept = have_none F slots ret; type = ty.Int; told = refl; sort = sort-literal F slots true (pos 1) }
  sorted_calls F slots ret w made at (e.Slot name k) K S e h v = absurd h
  sorted_calls F slots ret w made at (e.Name name) K S e h v = named_sorted F slots ret w.scope at name K e
  sorted_calls F slots ret w made at (e.Index' name _ (only i x _)) K S e h v =
      let N = name_faults at name (meaning w.scope name) (element_type w.scope.program (meaning w.scope name)) in
      let A = faults w.scope i x in
      let Q = asks w.scope is_int i x in
      let q = no_right A Q (no_left (A ++ Q) N e) in
      elem_sorted F slots ret (take_calls w made x).calls (take_calls w made x).value (type_of w.scope x)
      (sorted_calls F slots ret w made i x K S (no_left A Q (no_left (A ++ Q) N e)) h (not_void is_int i (type_of w.scope x) q))
      w.scope at i name (meaning w.scope name) K q (no_right (A ++ Q) N e)
  sorted_calls F slots ret w made at (e.Field' _ (only b x _) name) K S e h v =
      let N = field_faults at (type_of w.scope x) (member_type w.scope (type_of w.scope x) name) in
      let A = faults w.scope b x in
      let Q = asks w.scope anything b x in
      let n = not_void anything b (type_of w.scope x) (no_right A Q (no_left (A ++ Q) N e)) in
      field_sorted F slots ret (take_calls w made x).calls (take_calls w made x).value (type_of w.scope x)
      (sorted_calls F slots ret w made b x K S (no_left A Q (no_left (A ++ Q) N e)) h n)
      w.scope at name K n (no_right (A ++ Q) N e)
  sorted_calls F slots ret w made at (e.Un' op _ (only a x _)) K S e h v =
      let A = faults w.scope a x in
      let Q = asks w.scope (operand_test op) a x in
      let q = no_right A Q e in
      un_sorted F slots ret (take_calls w made x).calls (take_calls w made x).value (type_of w.scope x)
      (sorted_calls F slots ret w made a x K S (no_left A Q e) h (not_void (operand_test op) a (type_of w.scope x) q)) op a q
  sorted_calls F slots ret w made at (e.Bin' op _ (only a x _) _ (only b y _)) K S e h v =
      let splits = is_lazy op && has_call y in
      let A = take_calls w made x in
      let made1 = temporaries splits A.made in
      let B = take_calls w made1 y in
      let k = w.slots + length A.made in
      let X = faults w.scope a x in
      let P = asks w.scope anything a x in
      let Y = faults w.scope b y in
      let Q = asks w.scope anything b y in
      let U = unless (takes op (side w.scope x) (side w.scope y)) (fault at c.BadType) in
      let e1 = no_left (X ++ P) (Y ++ Q) (no_left ((X ++ P) ++ (Y ++ Q)) U e) in
      let e2 = no_right (X ++ P) (Y ++ Q) (no_left ((X ++ P) ++ (Y ++ Q)) U e) in
      let n1 = not_void anything a (type_of w.scope x) (no_right X P e1) in
      let n2 = not_void anything b (type_of w.scope y) (no_right Y Q e2) in
      let SB : Shows slots w.slots B.made = subst (λ o. Shows slots w.slots o) (joined_made splits op k A B (l.Bin op (beside w.scope op x y A.value) (beside w.scope op y x B.value))) S in
      let G = grows_calls w made1 y in
      let SA = shows_less slots w.slots A.made B.made (grows_then A.made made1 B.made (grows_temporaries splits A.made) G) SB in
      bin_sorted F slots ret op splits (has_call y) k A B (type_of w.scope x) (type_of w.scope y) (is_zero w.scope x) (is_zero w.scope y) refl
      (sorted_calls F slots ret w made a x K SA (no_left X P e1) h.0 n1)
      (sorted_calls F slots ret w made1 b y K SB (no_left Y Q e2) h.1 n2)
      n1 n2 (passes (takes op (side w.scope x) (side w.scope y)) _ (no_right ((X ++ P) ++ (Y ++ Q)) U e))
      (slot_joined slots w.slots splits A.made B.made SB G)
  sorted_calls F slots ret w made at (e.Cast' T _ (only a x _)) K S e h v =
      let R = type_faults w.scope at T in
      let A = faults w.scope a x in
      let Q = asks w.scope is_pointer a x in
      let q = no_right (R ++ A) Q e in
      cast_sorted F slots ret (take_calls w made x).calls (take_calls w made x).value (type_of w.scope x)
      (sorted_calls F slots ret w made a x K S (no_right R A (no_left (R ++ A) Q e)) h.1 (not_void is_pointer a (type_of w.scope x) q)) T a h.0 q
  sorted_calls F slots ret w made at (e.Call' name _ args) K S e h v =
      let o = routine w.scope.program (meaning w.scope name) in
      let f = called w.scope.program at name (length_of args) o (no_left (call_faults w.scope.program at name (length_of args) o) (argument_faults w.scope (parameters o) args) e) in
      let A = take_arguments w made (parameters o) args in
      let made1 = A.made ++ unwrap_or (result_type o) ty.Int ∷ [] in
      let last = shows_last slots w.slots A.made made1 (unwrap_or (result_type o) ty.Int) (grows_not made1) S in
      let told : unwrap_or (result_type o) ty.Int ≡ f.function.ret = ap (λ r. unwrap_or (result_type r) ty.Int) f.is in
      let is : sort_of_slot (slice_get slots (w.slots + length A.made)) ≡ sort_of_type f.function.ret = last ∙ ap sort_of_type told in
      let some : NotVoid (Some f.function.ret) = subst NotVoid (ap result_type f.is) v in
      record {
        kept = call_sorted F slots ret w.scope at name (length_of args) (Some (w.slots + length A.made)) A.calls A.values K (no_left (call_faults w.scope.program at name (length_of args) o) (argument_faults w.scope (parameters o) args) e)
            (λ few. sorted_arguments F slots ret w made (parameters o) args K (shows_less slots w.slots A.made made1 (grows_by A.made (unwrap_or (result_type o) ty.Int ∷ [])) S)
            (no_right (call_faults w.scope.program at name (length_of args) o) (argument_faults w.scope (parameters o) args) e) h few)
            (λ T t. let same : f.function.ret ≡ T = same_type_told f.function.ret T (sym (ap result_type f.is) ∙ t) in
            takes_result slots T (w.slots + length A.made) (subst (λ u. NotVoid (Some u)) same some) (is ∙ ap sort_of_type same));
        type = f.function.ret;
        told = ap result_type f.is;
        sort = sort-Slot F slots (w.slots + length A.made) ∙ is;
      }
  sorted_calls F slots ret w made at (e.Malloc name) K S e h v =
      let last = shows_last slots w.slots made (made ++ ty.Ptr name.it ∷ []) (ty.Ptr name.it) (grows_not (made ++ ty.Ptr name.it ∷ [])) S in
      record {
        kept = have_new F slots ret (w.slots + length made) (struct_number w.scope.program name.it) last (K.owner name.it (passes (is_some (struct_named w.scope name.it)) _ e));
        type = ty.Ptr name.it;
        told = refl;
        sort = sort-Slot F slots (w.slots + length made) ∙ last;
      }
  sorted_calls F slots ret w made at e.Getchar K S e h v =
      let last = shows_last slots w.slots made (made ++ ty.Int ∷ []) ty.Int (grows_not (made ++ ty.Int ∷ [])) S in
      record { kept = have_getc F slots ret (w.slots + length made) last; type = ty.Int; told = refl; sort = sort-Slot F slots (w.slots + length made) ∙ last }
  sorted_calls F slots ret w made at (e.Create' _ (only d dest _) name _ (only a x _)) K S e h v =
      let A = take_calls w made dest in
      let B = take_calls w A.made x in
      let o = routine w.scope.program (meaning w.scope name.it) in
      let E1 = faults w.scope d dest in
      let E2 = lvalue_faults w.scope d dest in
      let E3 = asks w.scope is_thread d dest in
      let E4 = start_faults w.scope.program name.at name.it o in
      let E5 = faults w.scope a x in
      let E6 = asks_fit w.scope (Some ty.AnyPtr) a x in
      let e5 = no_left (E1 ++ E2 ++ E3 ++ E4 ++ E5) E6 e in
      let e4 = no_left (E1 ++ E2 ++ E3 ++ E4) E5 e5 in
      let e3 = no_left (E1 ++ E2 ++ E3) E4 e4 in
      let e2 = no_left (E1 ++ E2) E3 e3 in
      let q = no_right (E1 ++ E2) E3 e3 in
      let r = no_right (E1 ++ E2 ++ E3 ++ E4 ++ E5) E6 e in
      let s1 = sorted_calls F slots ret w made d dest K (shows_less slots w.slots A.made B.made (grows_calls w A.made x) S) (no_left E1 E2 e2) h.1 (not_void is_thread d (type_of w.scope dest) q) in
      let s2 = sorted_calls F slots ret w A.made a x K S (no_right (E1 ++ E2 ++ E3 ++ E4) E5 e5) h.2 (not_void (test_for (Some ty.AnyPtr) (is_zero w.scope x)) a (type_of w.scope x) r) in
      let f = fit_value F slots ret ty.AnyPtr B.calls B.value (type_of w.scope x) (is_zero w.scope x) a s2 r in
      record {
        kept = have_append F slots ret (A.calls ++ B.calls) _ (have_append F slots ret A.calls B.calls s1.kept s2.kept)
            (have_spawn F slots ret (destination A.value) (function_number w.scope.program name.it) (fitted w.scope ty.AnyPtr x B.value)
            (destination_sort F slots w made d dest s1.type s1.told (no_right E1 E2 e2) h.0 ∙ s1.sort ∙ thread_sort s1.type (asked_type is_thread d (type_of w.scope dest) s1.type s1.told q))
            (started F w.scope.program name.at (function_number w.scope.program name.it) name.it o (no_right (E1 ++ E2 ++ E3) E4 e4) (K.callee name.it)) f.0);
        type = ty.Int;
        told = refl;
        sort = sort-Num F slots (pos 0);
      }
  sorted_calls F slots ret w made at (e.Join' _ (only a x _)) K S e h v =
      let A = faults w.scope a x in
      let Q = asks w.scope is_thread a x in
      let q = no_right A Q e in
      let s = sorted_calls F slots ret w made a x K S (no_left A Q e) h (not_void is_thread a (type_of w.scope x) q) in
      record {
        kept = have_append F slots ret (take_calls w made x).calls _ s.kept (have_join F slots ret (take_calls w made x).value (s.sort ∙ thread_sort s.type (asked_type is_thread a (type_of w.scope x) s.type s.told q)));
        type = ty.Int;
        told = refl;
        sort = sort-Num F slots (pos 0);
      }
  sorted_calls F slots ret w made at (e.Lock name) K S e h v =
      record { kept = have_lock F slots ret (mutex_number (meaning w.scope name.it)) (locked at name (meaning w.scope name.it) (length F.mutexes) e (K.mutex name.it)); type = ty.Int; told = refl; sort = sort-Num F slots (pos 0) }
  sorted_calls F slots ret w made at (e.Unlock name) K S e h v =
      record { kept = have_unlock F slots ret (mutex_number (meaning w.scope name.it)) (locked at name (meaning w.scope name.it) (length F.mutexes) e (K.mutex name.it)); type = ty.Int; told = refl; sort = sort-Num F slots (pos 0) }

  pub sorted_arguments : (F : Lifted) (slots : List Slot) (ret : Ty) (w : Spot) (made : List Ty) (qs : List Field) → {m : _} → (args : Row_of-Expr m) → Knows F slots w.scope → Shows slots w.slots (take_arguments w made qs args).made →
      argument_faults w.scope qs args ≡ [] → AreReadExprs args → length_of args ≡ length qs → SortedAll F slots ret (map (λ q. q.ty) qs) (take_arguments w made qs args).calls (take_arguments w made qs args).values
  sorted_arguments F slots ret w made [] end_of-Expr K S e h few = record { kept = have_none F slots ret; fit = tt }
  sorted_arguments F slots ret w made (q ∷ qs) end_of-Expr K S e h few = absurd (omega (arith, few))
  sorted_arguments F slots ret w made [] (more_of-Expr a x rest) K S e h few = absurd (omega (arith, few))
  sorted_arguments F slots ret w made (q ∷ qs) (more_of-Expr a x rest) K S e h few =
      let A = take_calls w made x in
      let B = take_arguments w A.made qs rest in
      let X = faults w.scope a x in
      let Q = asks_fit w.scope (Some q.ty) a x in
      let R = argument_faults w.scope qs rest in
      let r = no_right X Q (no_left (X ++ Q) R e) in
      more_sorted F slots ret q.ty (map (λ q. q.ty) qs) A.calls B.calls A.value B.values (type_of w.scope x) (is_zero w.scope x) a
      (sorted_calls F slots ret w made a x K (shows_less slots w.slots A.made B.made (grows_arguments w A.made qs rest) S) (no_left X Q (no_left (X ++ Q) R e)) h.0
      (not_void (test_for (Some q.ty) (is_zero w.scope x)) a (type_of w.scope x) r))
      r (sorted_arguments F slots ret w A.made qs rest K S (no_right (X ++ Q) R e) h.1 (omega (arith, few)))
