-- Statements without faults: what they are lifted to has the sorts that are asked.
use Rattle.std.proofs.Common.{◌≡◌, ℕ, zero, suc, ◌+◌, ◌<◌, pos, Bool, true, false, ◌&&◌, List, [], ◌∷◌, ◌++◌, length, drop, Option, Some, None, refl, sym, ap, subst, ◌∙◌, arith, append_assoc}
use Rattle.std.specs.Prelude.{slice_get, is_some, unwrap_or, not, ◌==◌, if◌then◌else◌, map, codes, ⊤, All}
use Rattle.std.specs.List.{AllZip}
use Rattle.std.proofs.lemmas.Bool.{eqb-true}
use Rattle.std.proofs.lemmas.List.{append-nil}
use Rattle.c_tree.specs.Compute.{literals}
use Rattle.c_tree.specs.declared.ty.Ty.{Ty}
use Rattle.c_tree.specs.declared.ty.Ty.TheVariants as ty
use Rattle.c_tree.specs.declared.op.UnOp.{UnOp}
use Rattle.c_tree.specs.declared.op.UnOp.TheVariants as un
use Rattle.c_tree.specs.declared.op.BinOp.{BinOp}
use Rattle.c_tree.specs.declared.op.BinOp.TheVariants as bin
use Rattle.c_tree.specs.declared.cause.CheckCause.TheVariants as c
use Rattle.c_tree.specs.declared.scope.Meaning.{Meaning}
use Rattle.c_tree.specs.declared.scope.Meaning.TheVariants as m
use Rattle.c_tree.specs.declared.program.Program.{Program}
use Rattle.c_tree.specs.declared.program.Field.{Field}
use Rattle.c_tree.specs.declared.program.Function.{Function}
use Rattle.c_tree.specs.declared.program.Define.{Define}
use Rattle.c_tree.specs.declared.program.At.{At}
use Rattle.c_tree.specs.declared.program.ExprKind.{ExprKind, Row_of-Expr, end_of-Expr, more_of-Expr, more_of-Expr as only}
use Rattle.c_tree.specs.declared.program.ExprKind.TheVariants as e
use Rattle.c_tree.specs.declared.lifted.Slot.{Slot}
use Rattle.c_tree.specs.declared.lifted.Dest.{Dest}
use Rattle.c_tree.specs.declared.lifted.Dest.TheVariants as d
use Rattle.c_tree.specs.declared.lifted.LExpr.{LExpr}
use Rattle.c_tree.specs.declared.lifted.LExpr as l
use Rattle.c_tree.specs.declared.lifted.LStmt.{LStmt}
use Rattle.c_tree.specs.declared.lifted.LStmt.TheBlock.{hidden-the_row-LStmt-0 as lrow_of}
use Rattle.c_tree.specs.declared.lifted.LStmt as t
use Rattle.c_tree.specs.declared.lifted.LFunction.{LFunction}
use Rattle.c_tree.specs.declared.lifted.Lifted.{Lifted}
use Rattle.c_tree.specs.Fault.{fault, unless}
use Rattle.c_tree.specs.Scope.{Scope, meaning, routine, is_same_name, is_defined, struct_named, field_named}
use Rattle.c_tree.specs.Types.{is_int, is_thread, is_pointer, is_any_pointer, type_of, name_type, scalar_type, array_type, element_type, result_type, member_type, type_of_field, define, is_zero, takes, side, fits}
use Rattle.c_tree.specs.Typing.{faults, argument_faults, length_of, ask, asks, asks_fit, test_for, anything, operand_test, name_faults, is_nothing, field_faults, lvalue_faults, is_constant, call_faults, start_faults, lock_faults, parameters, takes_any_pointer, type_faults}
use Rattle.c_tree.specs.Lifting.{Spot, Taken, take_calls, take_arguments, joined, deciding, truth, goes_on, temporaries, is_lazy, has_call, beside, in_place, is_equality, is_pointer_type, fitted, named, literal_of, array_number, field_in, mutex_number, destination, function_number, struct_number, field_number}
use Rattle.c_tree.specs.Formed.{Sort, int, thread, pointer, sort_of_type, sort_of_slot, sort_of_scalar, sort_of_element, fields_in, is_int_sort, is_pointer_sort, is_testable_sort, takes_one, takes_two, sort_if, sort_of, sort_at, HasSort, AreArguments, TakesResult, IsCall, HasStartForm, IsReturn, HasSortsIn, HaveSortsIn}
use Rattle.c_tree.specs.StartForm.{parameters_of}
use Rattle.c_tree.specs.ReadForm.{IsReadExpr, AreReadExprs, IsPlace, IsCastType}
use Rattle.lift_laws.proofs.LimitLemmas.{both_true}
use Rattle.lift_laws.proofs.NoFaults.{no_left, no_right, passes}
use Rattle.lift_laws.proofs.ValueSorts.{NotVoid, not_void, passed, int_sort, thread_sort, pointer_sort, testable_sort, has_sort, un_takes, side_of, bin_takes, lazy_takes, fitted_sort, sort-Num, sort-Null, sort-Slot, sort-Global, sort-Elem, sort-Field, sort-Un, sort-Bin, sort-literal}
use Rattle.lift_laws.proofs.CallSorts.{Callee, Knows, Shows, Grows, grows_not, grows_by, grows_then, shows_less, shows_last, HaveSorts, have_none, have_append, have_new, have_getc, have_call, have_spawn, have_join, have_lock, have_unlock, grows_temporaries, joined_made, grows_calls, grows_arguments, Sorted, sort_told, same_type_told, not_told, asked_type, Told, named_sorted, elem_sorted, un_sorted, cast_sorted, field_sorted, bin_sorted}
use Rattle.std.specs.List.{flat_map, AllByRecursion}
use Rattle.std.proofs.lemmas.List.{map-append}
use Rattle.std.proofs.lemmas.List.Elements.{recursion_from_All, All-from_recursion}
use Rattle.c_tree.specs.declared.program.Expr.{Expr}
use Rattle.c_tree.specs.declared.program.ExprKind.TheBlock.{hidden-the_row-Expr-1 as args_of}
use Rattle.c_tree.specs.declared.program.StmtKind.{StmtKind, Row_of-Stmt, end_of-Stmt, more_of-Stmt, more_of-Stmt as one, Held-StmtKind-If-2, None', Some'}
use Rattle.c_tree.specs.declared.program.StmtKind.TheVariants as s
use Rattle.c_tree.specs.declared.scope.Named.{Named}
use Rattle.c_tree.specs.Scope.{Variable, with_local, after, after_all, locals, locals_of, locals_else, has_name, meaning_in}
use Rattle.c_tree.specs.Types.{is_testable}
use Rattle.c_tree.specs.Typing.{Stand, directives, is_count, value_faults, fit_faults, place_faults, start_value_faults, return_faults, test_faults, assign_faults, local_faults, is_freeable, stmt_faults, block_faults, else_faults, next, next_all, in_block, in_body}
use Rattle.c_tree.specs.Lifting.{Lift, at_scope, bare, store_bare, store, call_into, run, assign, start_value, give_back, freed, printed, take_all, take_test, lift_stmt, lift_all, lift_else}
use Rattle.c_tree.specs.ReadForm.{IsReadValue, IsSimple, IsReadStmt, AreReadStmts, IsReadElse, IsReadStep}
use Rattle.c_tree.specs.ReadForm as read
use Rattle.lift_laws.proofs.CallSorts.{get_left, get_end, have_assign, have_print, have_free, have_return, have_if, have_loop, have_break, have_continue, name_told, some_field}
use Rattle.lift_laws.proofs.ExprSorts.{Called, called, FitAll, SortedAll, call_sorted, takes_result, destination_sort, fit_value, wanted, locked, sorted_calls, sorted_arguments}

-- the type of an expression without faults can be told
pub field_told : (at : ℕ) (o member : Option Ty) → Told o → NotVoid o → field_faults at o member ≡ [] → Told member
field_told at None member t n e = absurd (not_told t.type t.is)
field_told at (Some ty.Void) member t n e = absurd n
field_told at (Some ty.Int) member t n e = some_field at member e
field_told at (Some ty.Thread) member t n e = some_field at member e
field_told at (Some ty.AnyPtr) member t n e = some_field at member e
field_told at (Some (ty.Ptr owner)) member t n e = some_field at member e

pub is_told : (o : Option Ty) (T : Ty) → o ≡ Some T → Told o
is_told o T e = record { type = T; is = e }

pub told_faults : (sc : Scope) (at : ℕ) (x : ExprKind) → faults sc at x ≡ [] → IsReadExpr x → Told (type_of sc x)
unfolding IsReadExpr
told_faults sc at (e.Num n) e h = is_told _ ty.Int refl
told_faults sc at e.Null e h = is_told _ ty.AnyPtr refl
told_faults sc at e.Eof e h = is_told _ ty.Int refl
told_faults sc at (e.Slot name k) e h = absurd h
told_faults sc at (e.Name name) e h = name_told at name (meaning sc name) (name_type sc (meaning sc name)) e
told_faults sc at (e.Index' name _ (only i x _)) e h =
    name_told at name (meaning sc name) (element_type sc.program (meaning sc name)) (no_right (faults sc i x ++ asks sc is_int i x) (name_faults at name (meaning sc name) (element_type sc.program (meaning sc name))) e)
told_faults sc at (e.Field' _ (only b x _) name) e h =
    let A = faults sc b x in
    let Q = asks sc anything b x in
    let N = field_faults at (type_of sc x) (member_type sc (type_of sc x) name) in
    field_told at (type_of sc x) (member_type sc (type_of sc x) name) (told_faults sc b x (no_left A Q (no_left (A ++ Q) N e)) h) (not_void anything b (type_of sc x) (no_right A Q (no_left (A ++ Q) N e))) (no_right (A ++ Q) N e)
told_faults sc at (e.Un' op _ (only a x _)) e h = is_told _ ty.Int refl
told_faults sc at (e.Bin' op _ (only a x _) _ (only b y _)) e h = is_told _ ty.Int refl
told_faults sc at (e.Cast' T _ (only a x _)) e h = is_told _ T refl
told_faults sc at (e.Call' name _ args) e h =
    let o = routine sc.program (meaning sc name) in
    let f = called sc.program at name (length_of args) o (no_left (call_faults sc.program at name (length_of args) o) (argument_faults sc (parameters o) args) e) in
    is_told _ f.function.ret (ap result_type f.is)
told_faults sc at (e.Malloc name) e h = is_told _ (ty.Ptr name.it) refl
told_faults sc at e.Getchar e h = is_told _ ty.Int refl
told_faults sc at (e.Create' _ d name _ x) e h = is_told _ ty.Int refl
told_faults sc at (e.Join' _ x) e h = is_told _ ty.Int refl
told_faults sc at (e.Lock name) e h = is_told _ ty.Int refl
told_faults sc at (e.Unlock name) e h = is_told _ ty.Int refl

-- a value that is stored has the sort that is asked, or is the literal 0 in a pointer's place
pub record Suits (want T : Ty) (z : Bool) : Type 0 where
  pub same : z ≡ false → sort_of_type T ≡ sort_of_type want
  pub number : is_pointer want ≡ false → sort_of_type T ≡ sort_of_type want

pub suits_always : (want T : Ty) (z : Bool) → sort_of_type T ≡ sort_of_type want → Suits want T z
suits_always want T z e = record { same = λ h. e; number = λ h. e }

pub suits : (want T : Ty) (z : Bool) → NotVoid (Some T) → fits want T z ≡ true → Suits want T z
suits want ty.Void z n e = absurd n
suits ty.Void T z n e = absurd (wanted ty.Void T z n e)
suits ty.Int ty.Int z n e = suits_always ty.Int ty.Int z refl
suits ty.Int ty.Thread z n e = cc
suits ty.Int ty.AnyPtr z n e = cc
suits ty.Int (ty.Ptr q) z n e = cc
suits ty.Thread ty.Int z n e = cc
suits ty.Thread ty.Thread z n e = suits_always ty.Thread ty.Thread z refl
suits ty.Thread ty.AnyPtr z n e = cc
suits ty.Thread (ty.Ptr q) z n e = cc
suits ty.AnyPtr ty.Int true n e = record { same = λ h. cc; number = λ h. cc }
suits ty.AnyPtr ty.Int false n e = cc
suits ty.AnyPtr ty.Thread true n e = record { same = λ h. cc; number = λ h. cc }
suits ty.AnyPtr ty.Thread false n e = cc
suits ty.AnyPtr ty.AnyPtr z n e = suits_always ty.AnyPtr ty.AnyPtr z refl
suits ty.AnyPtr (ty.Ptr q) z n e = suits_always ty.AnyPtr (ty.Ptr q) z refl
suits (ty.Ptr r) ty.Int true n e = record { same = λ h. cc; number = λ h. cc }
suits (ty.Ptr r) ty.Int false n e = cc
suits (ty.Ptr r) ty.Thread true n e = record { same = λ h. cc; number = λ h. cc }
suits (ty.Ptr r) ty.Thread false n e = cc
suits (ty.Ptr r) ty.AnyPtr z n e = suits_always (ty.Ptr r) ty.AnyPtr z refl
suits (ty.Ptr r) (ty.Ptr q) z n e = suits_always (ty.Ptr r) (ty.Ptr q) z refl

pub suited : (F : Lifted) (slots : List Slot) (want T : Ty) (z : Bool) (v : LExpr) → Suits want T z → sort_of F slots v ≡ sort_of_type T → sort_of F slots (in_place (is_pointer want) z v) ≡ sort_of_type want
suited F slots want T z v s e = pick (is_pointer want) z refl refl where
  pick : (b y : Bool) → b ≡ is_pointer want → y ≡ z → sort_of F slots (in_place b y v) ≡ sort_of_type want
  pick true true p q = sort-Null F slots ∙ sym (pointer_sort want (sym p))
  pick true false p q = e ∙ s.same (sym q)
  pick false y p q = e ∙ s.number (sym p)

-- an expression without the casts round it
pub record Bared (sc : Scope) (want : Ty) (y : ExprKind) : Type 0 where
  pub at : ℕ
  pub fine : faults sc at y ≡ []
  pub form : IsReadExpr y
  pub type : Ty
  pub told : type_of sc y ≡ Some type
  pub some : NotVoid (Some type)
  pub fit : Suits want type (is_zero sc y)
  pub asked : NotVoid (Some want)

pub cast_pointer : (T : Ty) → IsCastType T → sort_of_type T ≡ Some pointer
cast_pointer ty.AnyPtr h = refl
cast_pointer (ty.Ptr name) h = refl
cast_pointer ty.Int h = absurd h
cast_pointer ty.Thread h = absurd h
cast_pointer ty.Void h = absurd h

pub bared : (sc : Scope) (want : Ty) (at : ℕ) (x : ExprKind) → faults sc at x ≡ [] → IsReadExpr x → (T : Ty) → type_of sc x ≡ Some T → NotVoid (Some T) → Suits want T (is_zero sc x) → NotVoid (Some want) → Bared sc want (bare x)
unfolding bare IsReadExpr
bared sc want at (e.Cast' U _ (only a x _)) e h T told n fit w =
    let A = faults sc a x in
    let Q = asks sc is_pointer a x in
    let q = no_right (type_faults sc at U ++ A) Q e in
    let inner = no_right (type_faults sc at U) A (no_left (type_faults sc at U ++ A) Q e) in
    let t = told_faults sc a x inner h.1 in
    let some = not_void is_pointer a (type_of sc x) q in
    let is : sort_of_type U ≡ sort_of_type want = ap sort_of_type (same_type_told U T told) ∙ fit.same refl in
    let here = pointer_sort t.type (asked_type is_pointer a (type_of sc x) t.type t.is q) ∙ sym (cast_pointer U h.0) ∙ is in
    bared sc want a x inner h.1 t.type t.is (subst NotVoid t.is some) (suits_always want t.type (is_zero sc x) here) w
bared sc want at (e.Num k) e h T told n fit w = record { at = at; fine = e; form = h; type = T; told = told; some = n; fit = fit; asked = w }
bared sc want at e.Null e h T told n fit w = record { at = at; fine = e; form = h; type = T; told = told; some = n; fit = fit; asked = w }
bared sc want at e.Eof e h T told n fit w = record { at = at; fine = e; form = h; type = T; told = told; some = n; fit = fit; asked = w }
bared sc want at (e.Slot name k) e h T told n fit w = absurd h
bared sc want at (e.Name name) e h T told n fit w = record { at = at; fine = e; form = h; type = T; told = told; some = n; fit = fit; asked = w }
bared sc want at (e.Index' name a b) e h T told n fit w = record { at = at; fine = e; form = h; type = T; told = told; some = n; fit = fit; asked = w }
bared sc want at (e.Field' a b name) e h T told n fit w = record { at = at; fine = e; form = h; type = T; told = told; some = n; fit = fit; asked = w }
bared sc want at (e.Un' op a b) e h T told n fit w = record { at = at; fine = e; form = h; type = T; told = told; some = n; fit = fit; asked = w }
bared sc want at (e.Bin' op a b f g) e h T told n fit w = record { at = at; fine = e; form = h; type = T; told = told; some = n; fit = fit; asked = w }
bared sc want at (e.Call' name a b) e h T told n fit w = record { at = at; fine = e; form = h; type = T; told = told; some = n; fit = fit; asked = w }
bared sc want at (e.Malloc name) e h T told n fit w = record { at = at; fine = e; form = h; type = T; told = told; some = n; fit = fit; asked = w }
bared sc want at e.Getchar e h T told n fit w = record { at = at; fine = e; form = h; type = T; told = told; some = n; fit = fit; asked = w }
bared sc want at (e.Create' a b name f g) e h T told n fit w = record { at = at; fine = e; form = h; type = T; told = told; some = n; fit = fit; asked = w }
bared sc want at (e.Join' a b) e h T told n fit w = record { at = at; fine = e; form = h; type = T; told = told; some = n; fit = fit; asked = w }
bared sc want at (e.Lock name) e h T told n fit w = record { at = at; fine = e; form = h; type = T; told = told; some = n; fit = fit; asked = w }
bared sc want at (e.Unlock name) e h T told n fit w = record { at = at; fine = e; form = h; type = T; told = told; some = n; fit = fit; asked = w }

-- a value is stored
abbrev pub GrowsTo : List Ty → Lift → Type 0
GrowsTo made a = Grows made a.made

pub grows_store_bare : (w : Spot) (made : List Ty) (to : Dest) (want : Ty) (x : ExprKind) → Grows made (store_bare w made to want x).made
grows_store_bare w made (d.Slot i) want (e.Call' name _ args) = grows_arguments w made (parameters (routine w.scope.program (meaning w.scope name))) args
grows_store_bare w made (d.Slot i) want (e.Malloc name) = grows_not made
grows_store_bare w made (d.Slot i) want e.Getchar = grows_not made
grows_store_bare w made (d.Slot i) want (e.Num n) = grows_calls w made (e.Num n)
grows_store_bare w made (d.Slot i) want e.Null = grows_calls w made e.Null
grows_store_bare w made (d.Slot i) want e.Eof = grows_calls w made e.Eof
grows_store_bare w made (d.Slot i) want (e.Slot name k) = grows_calls w made (e.Slot name k)
grows_store_bare w made (d.Slot i) want (e.Name name) = grows_calls w made (e.Name name)
grows_store_bare w made (d.Slot i) want (e.Index' name a b) = grows_calls w made (e.Index' name a b)
grows_store_bare w made (d.Slot i) want (e.Field' a b name) = grows_calls w made (e.Field' a b name)
grows_store_bare w made (d.Slot i) want (e.Un' op a b) = grows_calls w made (e.Un' op a b)
grows_store_bare w made (d.Slot i) want (e.Bin' op a b f g) = grows_calls w made (e.Bin' op a b f g)
grows_store_bare w made (d.Slot i) want (e.Cast' s a b) = grows_calls w made (e.Cast' s a b)
grows_store_bare w made (d.Slot i) want (e.Create' a b name f g) = grows_calls w made (e.Create' a b name f g)
grows_store_bare w made (d.Slot i) want (e.Join' a b) = grows_calls w made (e.Join' a b)
grows_store_bare w made (d.Slot i) want (e.Lock name) = grows_calls w made (e.Lock name)
grows_store_bare w made (d.Slot i) want (e.Unlock name) = grows_calls w made (e.Unlock name)
grows_store_bare w made (d.Global g) want x = grows_calls w made x
grows_store_bare w made (d.Elem g i) want x = grows_calls w made x
grows_store_bare w made (d.Field o owner field) want x = grows_calls w made x

pub assigned_sorted : (F : Lifted) (slots : List Slot) (ret : Ty) (w : Spot) (made : List Ty) (to : Dest) (want : Ty) (x : ExprKind) → Knows F slots w.scope → Shows slots w.slots (take_calls w made x).made → Bared w.scope want x →
    sort_at F slots to ≡ sort_of_type want → HaveSorts F slots ret ((take_calls w made x).calls ++ t.Assign to (fitted w.scope want x (take_calls w made x).value) ∷ [])
assigned_sorted F slots ret w made to want x K S b place =
    let s = sorted_calls F slots ret w made b.at x K S b.fine b.form (subst NotVoid (sym b.told) b.some) in
    let v = suited F slots want b.type (is_zero w.scope x) (take_calls w made x).value b.fit (sort_told F slots ret (take_calls w made x).calls (take_calls w made x).value b.type (subst (λ o. Sorted F slots ret (take_calls w made x).calls (take_calls w made x).value o) b.told s)) in
    have_append F slots ret (take_calls w made x).calls (t.Assign to (fitted w.scope want x (take_calls w made x).value) ∷ []) s.kept
    (have_assign F slots ret to (fitted w.scope want x (take_calls w made x).value) (has_sort (sort_at F slots to) (sort_of F slots (fitted w.scope want x (take_calls w made x).value)) want place v b.asked))

pub stored_sorted : (F : Lifted) (slots : List Slot) (ret : Ty) (w : Spot) (made : List Ty) (to : Dest) (want : Ty) (x : ExprKind) → Knows F slots w.scope → Shows slots w.slots (store_bare w made to want x).made → Bared w.scope want x →
    sort_at F slots to ≡ sort_of_type want → HaveSorts F slots ret (store_bare w made to want x).body
unfolding IsReadExpr
stored_sorted F slots ret w made (d.Slot i) want (e.Call' name _ args) K S b place =
    let o = routine w.scope.program (meaning w.scope name) in
    let C = call_faults w.scope.program b.at name (length_of args) o in
    let A = argument_faults w.scope (parameters o) args in
    let values = take_arguments w made (parameters o) args in
    call_sorted F slots ret w.scope b.at name (length_of args) (Some i) values.calls values.values K (no_left C A b.fine)
    (sorted_arguments F slots ret w made (parameters o) args K S (no_right C A b.fine) b.form)
    (λ T t. let same : b.type ≡ T = same_type_told b.type T (sym b.told ∙ t) in takes_result slots T i (subst (λ u. NotVoid (Some u)) same b.some) (place ∙ sym (b.fit.same refl) ∙ ap sort_of_type same))
stored_sorted F slots ret w made (d.Slot i) want (e.Malloc name) K S b place =
    have_new F slots ret i (struct_number w.scope.program name.it) (place ∙ sym (b.fit.same refl) ∙ ap sort_of_type (sym (same_type_told (ty.Ptr name.it) b.type b.told)))
    (K.owner name.it (passes (is_some (struct_named w.scope name.it)) _ b.fine))
stored_sorted F slots ret w made (d.Slot i) want e.Getchar K S b place =
    have_getc F slots ret i (place ∙ sym (b.fit.same refl) ∙ ap sort_of_type (sym (same_type_told ty.Int b.type b.told)))
stored_sorted F slots ret w made (d.Slot i) want (e.Num n) K S b place = assigned_sorted F slots ret w made (d.Slot i) want (e.Num n) K S b place
stored_sorted F slots ret w made (d.Slot i) want e.Null K S b place = assigned_sorted F slots ret w made (d.Slot i) want e.Null K S b place
stored_sorted F slots ret w made (d.Slot i) want e.Eof K S b place = assigned_sorted F slots ret w made (d.Slot i) want e.Eof K S b place
stored_sorted F slots ret w made (d.Slot i) want (e.Slot name k) K S b place = assigned_sorted F slots ret w made (d.Slot i) want (e.Slot name k) K S b place
stored_sorted F slots ret w made (d.Slot i) want (e.Name name) K S b place = assigned_sorted F slots ret w made (d.Slot i) want (e.Name name) K S b place
stored_sorted F slots ret w made (d.Slot i) want (e.Index' name a1 b1) K S b place = assigned_sorted F slots ret w made (d.Slot i) want (e.Index' name a1 b1) K S b place
stored_sorted F slots ret w made (d.Slot i) want (e.Field' a1 b1 name) K S b place = assigned_sorted F slots ret w made (d.Slot i) want (e.Field' a1 b1 name) K S b place
stored_sorted F slots ret w made (d.Slot i) want (e.Un' op a1 b1) K S b place = assigned_sorted F slots ret w made (d.Slot i) want (e.Un' op a1 b1) K S b place
stored_sorted F slots ret w made (d.Slot i) want (e.Bin' op a1 b1 f1 g1) K S b place = assigned_sorted F slots ret w made (d.Slot i) want (e.Bin' op a1 b1 f1 g1) K S b place
stored_sorted F slots ret w made (d.Slot i) want (e.Cast' s a1 b1) K S b place = assigned_sorted F slots ret w made (d.Slot i) want (e.Cast' s a1 b1) K S b place
stored_sorted F slots ret w made (d.Slot i) want (e.Create' a1 b1 name f1 g1) K S b place = assigned_sorted F slots ret w made (d.Slot i) want (e.Create' a1 b1 name f1 g1) K S b place
stored_sorted F slots ret w made (d.Slot i) want (e.Join' a1 b1) K S b place = assigned_sorted F slots ret w made (d.Slot i) want (e.Join' a1 b1) K S b place
stored_sorted F slots ret w made (d.Slot i) want (e.Lock name) K S b place = assigned_sorted F slots ret w made (d.Slot i) want (e.Lock name) K S b place
stored_sorted F slots ret w made (d.Slot i) want (e.Unlock name) K S b place = assigned_sorted F slots ret w made (d.Slot i) want (e.Unlock name) K S b place
stored_sorted F slots ret w made (d.Global g) want x K S b place = assigned_sorted F slots ret w made (d.Global g) want x K S b place
stored_sorted F slots ret w made (d.Elem g i) want x K S b place = assigned_sorted F slots ret w made (d.Elem g i) want x K S b place
stored_sorted F slots ret w made (d.Field o owner field) want x K S b place = assigned_sorted F slots ret w made (d.Field o owner field) want x K S b place

pub store_sorted : (F : Lifted) (slots : List Slot) (ret : Ty) (w : Spot) (made : List Ty) (to : Dest) (want : Ty) (at : ℕ) (x : ExprKind) → Knows F slots w.scope → Shows slots w.slots (store w made to want x).made →
    faults w.scope at x ≡ [] → asks_fit w.scope (Some want) at x ≡ [] → IsReadExpr x → sort_at F slots to ≡ sort_of_type want → HaveSorts F slots ret (store w made to want x).body
store_sorted F slots ret w made to want at x K S e q h place =
    let t = told_faults w.scope at x e h in
    let n = subst NotVoid t.is (not_void (test_for (Some want) (is_zero w.scope x)) at (type_of w.scope x) q) in
    let f = asked_type (test_for (Some want) (is_zero w.scope x)) at (type_of w.scope x) t.type t.is q in
    stored_sorted F slots ret w made to want (bare x) K S (bared w.scope want at x e h t.type t.is n (suits want t.type (is_zero w.scope x) n f) (wanted want t.type (is_zero w.scope x) n f)) place
