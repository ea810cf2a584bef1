-- What is lifted leaves no loop but those around it, and each of its `printf` has its arguments.
use Rattle.std.proofs.Common.{◌≡◌, ℕ, suc, ◌+◌, Bool, true, false, ◌&&◌, List, [], ◌∷◌, ◌++◌, length, drop, Option, Some, None, refl, sym, ap, subst, ◌∙◌, arith}
use Rattle.std.specs.Prelude.{◌||◌, not, codes, is_some}
use Rattle.std.specs.List.{flat_map, AllByRecursion}
use Rattle.std.proofs.lemmas.Bool.{eqb-true}
use Rattle.std.proofs.lemmas.List.Elements.{recursion_from_All}
use Rattle.c_tree.specs.Compute.{literals}
use Rattle.c_tree.specs.declared.ty.Ty.{Ty}
use Rattle.c_tree.specs.declared.op.BinOp.{BinOp}
use Rattle.c_tree.specs.declared.cause.CheckCause.TheVariants as c
use Rattle.c_tree.specs.declared.scope.Fault.{Fault}
use Rattle.c_tree.specs.declared.lifted.LExpr.{LExpr}
use Rattle.c_tree.specs.declared.lifted.LExpr as l
use Rattle.c_tree.specs.declared.lifted.LStmt.{LStmt}
use Rattle.c_tree.specs.declared.lifted.LStmt.TheBlock.{hidden-the_row-LStmt-0 as lrow_of}
use Rattle.c_tree.specs.declared.lifted.LStmt as t
use Rattle.c_tree.specs.declared.lifted.Dest.{Dest}
use Rattle.c_tree.specs.declared.lifted.Dest.TheVariants as d
use Rattle.c_tree.specs.declared.program.Expr.{Expr}
use Rattle.c_tree.specs.declared.program.ExprKind.{ExprKind, Row_of-Expr, end_of-Expr, more_of-Expr, more_of-Expr as only}
use Rattle.c_tree.specs.declared.program.ExprKind.TheBlock.{hidden-the_row-Expr-1 as args_of}
use Rattle.c_tree.specs.declared.program.ExprKind.TheVariants as e
use Rattle.c_tree.specs.declared.program.Program.{Program}
use Rattle.c_tree.specs.declared.program.Function.{Function}
use Rattle.c_tree.specs.declared.program.Stmt.{Stmt}
use Rattle.c_tree.specs.declared.program.StmtKind.{StmtKind, Row_of-Stmt, end_of-Stmt, more_of-Stmt, more_of-Stmt as one, Held-StmtKind-If-2, None', Some'}
use Rattle.c_tree.specs.declared.program.StmtKind.TheBlock.{hidden-the_row-Stmt-0 as row_of}
use Rattle.c_tree.specs.declared.program.StmtKind.TheVariants as s
use Rattle.c_tree.specs.declared.program.Field.{Field}
use Rattle.c_tree.specs.Fault.{fault, unless}
use Rattle.c_tree.specs.Scope.{file_scope, with_parameters, after, after_all, is_same_name, is_defined}
use Rattle.c_tree.specs.Types.{is_int, is_testable}
use Rattle.c_tree.specs.Typing.{IsWellTyped, Stand, directives, is_count, stmt_faults, block_faults, else_faults, value_faults, test_faults, next, next_all, in_block, in_body, definitions, function_faults, body_faults, parameter_faults, type_faults, has_no_parameters}
use Rattle.c_tree.specs.Lifting.{Spot, Taken, Lift, take_calls, take_arguments, joined, deciding, truth, goes_on, temporaries, is_lazy, has_call, assigned, store_bare, store, bare, destination, call_into, run, start_value, assign, give_back, freed, printed, take_all, take_test, lift_stmt, lift_all, lift_else, at_scope, body_of, variables_of, lift_function, lift}
use Rattle.c_tree.specs.Formed.{StaysInLoop, StayInLoop, PrintFits, PrintsFit, LoopsAreKept, HasFittingPrints}
use Rattle.c_tree.specs.ReadForm.{HasReadForm, IsReadFunction, IsSimple, IsReadStmt, AreReadStmts, IsReadElse, IsReadStep}
use Rattle.lift_laws.proofs.ArgumentLemmas.{list-more, list-none}
use Rattle.lift_laws.proofs.NoFaults.{parts, no_left, no_right, passes}
use Rattle.lift_laws.proofs.ApartLemmas.{each_filter, each_weaker}
use Rattle.lift_laws.proofs.FormedLemmas.{all-map}

-- what holds of statements, inside a loop's body or not
pub record Kept (inside : Bool) (xs : List LStmt) : Type 0 where
  pub stays : StayInLoop inside (lrow_of xs)
  pub prints : PrintsFit (lrow_of xs)

pub kept_none : (inside : Bool) → Kept inside []
unfolding literals StayInLoop PrintsFit
kept_none inside = record { stays = tt; prints = tt }

pub kept_append : (inside : Bool) (xs ys : List LStmt) → Kept inside xs → Kept inside ys → Kept inside (xs ++ ys)
unfolding literals StayInLoop PrintsFit
kept_append inside [] ys a b = b
kept_append inside (x ∷ xs) ys a b =
    let r = kept_append inside xs ys (record { stays = a.stays.1; prints = a.prints.1 }) b in record { stays = (a.stays.0, r.stays); prints = (a.prints.0, r.prints) }

pub kept_one : (inside : Bool) (x : LStmt) → StaysInLoop inside x → PrintFits x → Kept inside (x ∷ [])
unfolding literals StayInLoop PrintsFit
kept_one inside x a b = record { stays = (a, tt); prints = (b, tt) }

pub kept_if : (inside : Bool) (x : LExpr) (as' bs : List LStmt) → Kept inside as' → Kept inside bs → Kept inside (t.If x as' bs ∷ [])
unfolding literals StaysInLoop StayInLoop PrintFits PrintsFit
kept_if inside x as' bs a b = record { stays = ((a.stays, b.stays), tt); prints = ((a.prints, b.prints), tt) }

pub kept_loop : (inside : Bool) (calls : List LStmt) (x : LExpr) (body step : List LStmt) → Kept false calls → Kept true body → Kept false step → Kept inside (t.Loop calls x body step ∷ [])
unfolding literals StaysInLoop StayInLoop PrintFits PrintsFit
kept_loop inside calls x body step a b s = record { stays = ((a.stays, b.stays, s.stays), tt); prints = ((a.prints, b.prints, s.prints), tt) }

pub kept_assign : (inside : Bool) (to : Dest) (x : LExpr) → Kept inside (t.Assign to x ∷ [])
unfolding StaysInLoop PrintFits
kept_assign inside to x = kept_one inside (t.Assign to x) tt tt

pub kept_call : (inside : Bool) (to : Option ℕ) (f : ℕ) (args : List LExpr) → Kept inside (t.Call to f args ∷ [])
unfolding StaysInLoop PrintFits
kept_call inside to f args = kept_one inside (t.Call to f args) tt tt

pub kept_new : (inside : Bool) (k owner : ℕ) → Kept inside (t.New k owner ∷ [])
unfolding StaysInLoop PrintFits
kept_new inside k owner = kept_one inside (t.New k owner) tt tt

pub kept_getc : (inside : Bool) (k : ℕ) → Kept inside (t.Getc k ∷ [])
unfolding StaysInLoop PrintFits
kept_getc inside k = kept_one inside (t.Getc k) tt tt

pub kept_spawn : (inside : Bool) (to : Dest) (f : ℕ) (x : LExpr) → Kept inside (t.Spawn to f x ∷ [])
unfolding StaysInLoop PrintFits
kept_spawn inside to f x = kept_one inside (t.Spawn to f x) tt tt

pub kept_join : (inside : Bool) (x : LExpr) → Kept inside (t.Join x ∷ [])
unfolding StaysInLoop PrintFits
kept_join inside x = kept_one inside (t.Join x) tt tt

pub kept_lock : (inside : Bool) (m : ℕ) → Kept inside (t.Lock m ∷ [])
unfolding StaysInLoop PrintFits
kept_lock inside m = kept_one inside (t.Lock m) tt tt

pub kept_unlock : (inside : Bool) (m : ℕ) → Kept inside (t.Unlock m ∷ [])
unfolding StaysInLoop PrintFits
kept_unlock inside m = kept_one inside (t.Unlock m) tt tt

pub kept_free : (inside : Bool) (x : LExpr) → Kept inside (t.Free x ∷ [])
unfolding StaysInLoop PrintFits
kept_free inside x = kept_one inside (t.Free x) tt tt

pub kept_return : (inside : Bool) (x : Option LExpr) → Kept inside (t.Return x ∷ [])
unfolding StaysInLoop PrintFits
kept_return inside x = kept_one inside (t.Return x) tt tt

pub kept_break : (inside : Bool) → inside ≡ true → Kept inside (t.Break ∷ [])
unfolding StaysInLoop PrintFits
kept_break inside is = kept_one inside t.Break is tt

pub kept_continue : (inside : Bool) → inside ≡ true → Kept inside (t.Continue ∷ [])
unfolding StaysInLoop PrintFits
kept_continue inside is = kept_one inside t.Continue is tt

pub kept_print : (inside : Bool) (text : List ℕ) (args : List LExpr) → directives text ≡ Some (length args) → Kept inside (t.Print text args ∷ [])
unfolding StaysInLoop PrintFits
kept_print inside text args fits = kept_one inside (t.Print text args) tt fits

-- the calls of an expression
pub kept_joined : (inside splits : Bool) (op : BinOp) (k : ℕ) (a b : Taken) (value : LExpr) → Kept inside a.calls → Kept inside b.calls → Kept inside (joined splits op k a b value).calls
kept_joined inside true op k a b value ka kb =
    kept_append inside a.calls (deciding op k a.value b.calls b.value) ka
    (kept_append inside (t.Assign (d.Slot k) (truth a.value) ∷ []) (t.If (goes_on op k) (b.calls ++ t.Assign (d.Slot k) (truth b.value) ∷ []) [] ∷ []) (kept_assign inside (d.Slot k) (truth a.value))
    (kept_if inside (goes_on op k) (b.calls ++ t.Assign (d.Slot k) (truth b.value) ∷ []) []
    (kept_append inside b.calls (t.Assign (d.Slot k) (truth b.value) ∷ []) kb (kept_assign inside (d.Slot k) (truth b.value))) (kept_none inside)))
kept_joined inside false op k a b value ka kb = kept_append inside a.calls b.calls ka kb

mutual
  unfolding literals take_calls take_arguments

  pub kept_calls : (inside : Bool) (w : Spot) (made : List Ty) (x : ExprKind) → Kept inside (take_calls w made x).calls
  kept_calls inside w made (e.Num n) = kept_none inside
  kept_calls inside w made e.Null = kept_none inside
  kept_calls inside w made e.Eof = kept_none inside
  kept_calls inside w made (e.Slot name k) = kept_none inside
  kept_calls inside w made (e.Name name) = kept_none inside
  kept_calls inside w made (e.Index' name _ (only _ x _)) = kept_calls inside w made x
  kept_calls inside w made (e.Field' _ (only _ x _) name) = kept_calls inside w made x
  kept_calls inside w made (e.Un' op _ (only _ x _)) = kept_calls inside w made x
  kept_calls inside w made (e.Bin' op _ (only _ x _) _ (only _ y _)) =
      kept_joined inside (is_lazy op && has_call y) op _ (take_calls w made x) (take_calls w (temporaries (is_lazy op && has_call y) (take_calls w made x).made) y) _
      (kept_calls inside w made x) (kept_calls inside w (temporaries (is_lazy op && has_call y) (take_calls w made x).made) y)
  kept_calls inside w made (e.Cast' s _ (only _ x _)) = kept_calls inside w made x
  kept_calls inside w made (e.Call' name _ args) = kept_append inside _ _ (kept_arguments inside w made _ args) (kept_call inside _ _ _)
  kept_calls inside w made (e.Malloc name) = kept_new inside _ _
  kept_calls inside w made e.Getchar = kept_getc inside _
  kept_calls inside w made (e.Create' _ (only _ dest _) name _ (only _ x _)) =
      kept_append inside ((take_calls w made dest).calls ++ (take_calls w (take_calls w made dest).made x).calls) _
      (kept_append inside (take_calls w made dest).calls (take_calls w (take_calls w made dest).made x).calls (kept_calls inside w made dest) (kept_calls inside w (take_calls w made dest).made x))
      (kept_spawn inside _ _ _)
  kept_calls inside w made (e.Join' _ (only _ x _)) = kept_append inside (take_calls w made x).calls _ (kept_calls inside w made x) (kept_join inside _)
  kept_calls inside w made (e.Lock name) = kept_lock inside _
  kept_calls inside w made (e.Unlock name) = kept_unlock inside _

  pub kept_arguments : (inside : Bool) (w : Spot) (made : List Ty) (qs : List Field) → {m : _} → (args : Row_of-Expr m) → Kept inside (take_arguments w made qs args).calls
  kept_arguments inside w made qs end_of-Expr = kept_none inside
  kept_arguments inside w made qs (more_of-Expr _ x rest) =
      kept_append inside (take_calls w made x).calls (take_arguments w (take_calls w made x).made (drop 1 qs) rest).calls (kept_calls inside w made x)
      (kept_arguments inside w (take_calls w made x).made (drop 1 qs) rest)

-- a value that is stored
pub kept_assigned : (inside : Bool) (to : Dest) (value : LExpr) (a : Taken) → Kept inside a.calls → Kept inside (assigned to value a).body
kept_assigned inside to value a k = kept_append inside a.calls (t.Assign to value ∷ []) k (kept_assign inside to value)

pub kept_call_into : (inside : Bool) (w : Spot) (made : List Ty) (to : Option ℕ) (name : List ℕ) → {m : _} → (args : Row_of-Expr m) → Kept inside (call_into w made to name args).body
kept_call_into inside w made to name args = kept_append inside _ _ (kept_arguments inside w made _ args) (kept_call inside to _ _)

pub kept_store_bare : (inside : Bool) (w : Spot) (made : List Ty) (to : Dest) (want : Ty) (x : ExprKind) → Kept inside (store_bare w made to want x).body
kept_store_bare inside w made (d.Slot i) want (e.Call' name _ args) = kept_call_into inside w made (Some i) name args
kept_store_bare inside w made (d.Slot i) want (e.Malloc name) = kept_new inside i _
kept_store_bare inside w made (d.Slot i) want e.Getchar = kept_getc inside i
kept_store_bare inside w made (d.Slot i) want (e.Num n) = kept_assigned inside (d.Slot i) _ (take_calls w made (e.Num n)) (kept_calls inside w made (e.Num n))
kept_store_bare inside w made (d.Slot i) want e.Null = kept_assigned inside (d.Slot i) _ (take_calls w made e.Null) (kept_calls inside w made e.Null)
kept_store_bare inside w made (d.Slot i) want e.Eof = kept_assigned inside (d.Slot i) _ (take_calls w made e.Eof) (kept_calls inside w made e.Eof)
kept_store_bare inside w made (d.Slot i) want (e.Slot name k) = kept_assigned inside (d.Slot i) _ (take_calls w made (e.Slot name k)) (kept_calls inside w made (e.Slot name k))
kept_store_bare inside w made (d.Slot i) want (e.Name name) = kept_assigned inside (d.Slot i) _ (take_calls w made (e.Name name)) (kept_calls inside w made (e.Name name))
kept_store_bare inside w made (d.Slot i) want (e.Index' name a b) = kept_assigned inside (d.Slot i) _ (take_calls w made (e.Index' name a b)) (kept_calls inside w made (e.Index' name a b))
kept_store_bare inside w made (d.Slot i) want (e.Field' a b name) = kept_assigned inside (d.Slot i) _ (take_calls w made (e.Field' a b name)) (kept_calls inside w made (e.Field' a b name))
kept_store_bare inside w made (d.Slot i) want (e.Un' op a b) = kept_assigned inside (d.Slot i) _ (take_calls w made (e.Un' op a b)) (kept_calls inside w made (e.Un' op a b))
kept_store_bare inside w made (d.Slot i) want (e.Bin' op a b f g) = kept_assigned inside (d.Slot i) _ (take_calls w made (e.Bin' op a b f g)) (kept_calls inside w made (e.Bin' op a b f g))
kept_store_bare inside w made (d.Slot i) want (e.Cast' s a b) = kept_assigned inside (d.Slot i) _ (take_calls w made (e.Cast' s a b)) (kept_calls inside w made (e.Cast' s a b))
kept_store_bare inside w made (d.Slot i) want (e.Create' a b name f g) = kept_assigned inside (d.Slot i) _ (take_calls w made (e.Create' a b name f g)) (kept_calls inside w made (e.Create' a b name f g))
kept_store_bare inside w made (d.Slot i) want (e.Join' a b) = kept_assigned inside (d.Slot i) _ (take_calls w made (e.Join' a b)) (kept_calls inside w made (e.Join' a b))
kept_store_bare inside w made (d.Slot i) want (e.Lock name) = kept_assigned inside (d.Slot i) _ (take_calls w made (e.Lock name)) (kept_calls inside w made (e.Lock name))
kept_store_bare inside w made (d.Slot i) want (e.Unlock name) = kept_assigned inside (d.Slot i) _ (take_calls w made (e.Unlock name)) (kept_calls inside w made (e.Unlock name))
kept_store_bare inside w made (d.Global g) want x = kept_assigned inside (d.Global g) _ (take_calls w made x) (kept_calls inside w made x)
kept_store_bare inside w made (d.Elem g i) want x = kept_assigned inside (d.Elem g i) _ (take_calls w made x) (kept_calls inside w made x)
kept_store_bare inside w made (d.Field o owner field) want x = kept_assigned inside (d.Field o owner field) _ (take_calls w made x) (kept_calls inside w made x)

pub kept_run : (inside : Bool) (w : Spot) (made : List Ty) (x : ExprKind) → Kept inside (run w made x).body
kept_run inside w made (e.Call' name _ args) = kept_call_into inside w made None name args
kept_run inside w made (e.Malloc name) = kept_calls inside w made (e.Malloc name)
kept_run inside w made e.Getchar = kept_calls inside w made e.Getchar
kept_run inside w made (e.Num n) = kept_calls inside w made (e.Num n)
kept_run inside w made e.Null = kept_calls inside w made e.Null
kept_run inside w made e.Eof = kept_calls inside w made e.Eof
kept_run inside w made (e.Slot name k) = kept_calls inside w made (e.Slot name k)
kept_run inside w made (e.Name name) = kept_calls inside w made (e.Name name)
kept_run inside w made (e.Index' name a b) = kept_calls inside w made (e.Index' name a b)
kept_run inside w made (e.Field' a b name) = kept_calls inside w made (e.Field' a b name)
kept_run inside w made (e.Un' op a b) = kept_calls inside w made (e.Un' op a b)
kept_run inside w made (e.Bin' op a b f g) = kept_calls inside w made (e.Bin' op a b f g)
kept_run inside w made (e.Cast' s a b) = kept_calls inside w made (e.Cast' s a b)
kept_run inside w made (e.Create' a b name f g) = kept_calls inside w made (e.Create' a b name f g)
kept_run inside w made (e.Join' a b) = kept_calls inside w made (e.Join' a b)
kept_run inside w made (e.Lock name) = kept_calls inside w made (e.Lock name)
kept_run inside w made (e.Unlock name) = kept_calls inside w made (e.Unlock name)

-- a printf has as many arguments as it had
pub length-values : (w : Spot) (made : List Ty) (qs : List Field) (args : List Expr) → length (take_arguments w made qs (args_of args)).values ≡ length args
length-values w made qs [] = ap (λ a. length a.values) (list-none w made qs)
length-values w made qs (x ∷ args) =
    let r = length-values w (take_calls w made x.kind).made (drop 1 qs) args in
    let h = ap (λ a. length a.values) (list-more w made qs x args) in
    h ∙ ap suc r

pub count_is : (n : ℕ) (o : Option ℕ) → is_count n o ≡ true → o ≡ Some n
count_is n None h = cc
count_is n (Some m) h = ap Some (eqb-true m n h)

-- statements without statements inside
pub kept_store : (inside : Bool) (w : Spot) (made : List Ty) (to : Dest) (want : Ty) (x : ExprKind) → Kept inside (store w made to want x).body
kept_store inside w made to want x = kept_store_bare inside w made to want (bare x)

pub kept_start : (inside : Bool) (w : Spot) (made : List Ty) (i : ℕ) (want : Ty) (value : Option Expr) → Kept inside (start_value w made i want value).body
kept_start inside w made i want None = kept_none inside
kept_start inside w made i want (Some x) = kept_store inside w made (d.Slot i) want x.kind

pub kept_assignment : (inside : Bool) (w : Spot) (made : List Ty) (x : Expr) (op : Option BinOp) (y : Expr) → Kept inside (assign w made x op y).body
kept_assignment inside w made x None y =
    kept_append inside (take_calls w made x.kind).calls _ (kept_calls inside w made x.kind) (kept_store inside w (take_calls w made x.kind).made _ _ y.kind)
kept_assignment inside w made x (Some op) y =
    let a = take_calls w made x.kind in
    let b = take_calls w a.made y.kind in
    kept_append inside (a.calls ++ b.calls) (t.Assign (destination a.value) (l.Bin op a.value b.value) ∷ [])
    (kept_append inside a.calls b.calls (kept_calls inside w made x.kind) (kept_calls inside w a.made y.kind)) (kept_assign inside (destination a.value) (l.Bin op a.value b.value))

pub kept_give_back : (inside : Bool) (w : Spot) (made : List Ty) (value : Option Expr) → Kept inside (give_back w made value).body
kept_give_back inside w made None = kept_return inside None
kept_give_back inside w made (Some x) = kept_append inside (take_calls w made x.kind).calls _ (kept_calls inside w made x.kind) (kept_return inside _)

pub kept_freed : (inside : Bool) (w : Spot) (made : List Ty) (x : Expr) → Kept inside (freed w made x).body
kept_freed inside w made x = kept_append inside (take_calls w made x.kind).calls _ (kept_calls inside w made x.kind) (kept_free inside _)

pub kept_printed : (inside : Bool) (w : Spot) (made : List Ty) (text : List ℕ) (args : List Expr) → directives text ≡ Some (length args) → Kept inside (printed w made text args).body
kept_printed inside w made text args fits =
    let a = take_all w made args in
    kept_append inside a.calls (t.Print text a.values ∷ []) (kept_arguments inside w made [] (args_of args))
    (kept_print inside text a.values (fits ∙ ap Some (sym (length-values w made [] args))))

pub arguments_fit : (st : Stand) (at : ℕ) (text : List ℕ) (args : List Expr) → stmt_faults st at (s.Print text args) ≡ [] → directives text ≡ Some (length args)
arguments_fit st at text args e =
    count_is (length args) (directives text) (passes (is_count (length args) (directives text)) _
    (no_left (unless (is_count (length args) (directives text)) (fault at c.BadCall)) (flat_map (value_faults st.scope is_int) args) e))

pub kept_test : (inside : Bool) (w : Spot) (made : List Ty) (test : Option Expr) → Kept inside (take_test w made test).calls
kept_test inside w made None = kept_none inside
kept_test inside w made (Some x) = kept_calls inside w made x.kind

pub kept_simple : (inside : Bool) (w : Spot) (made : List Ty) (st : Stand) (at : ℕ) (kind : StmtKind) → stmt_faults st at kind ≡ [] → IsSimple kind → Kept inside (lift_stmt w made at kind).body
unfolding lift_stmt
kept_simple inside w made st at (s.Assign x op y) e h = kept_assignment inside w made x op y
kept_simple inside w made st at (s.Run x) e h = kept_run inside w made x.kind
kept_simple inside w made st at (s.Free x) e h = kept_freed inside w made x
kept_simple inside w made st at (s.Print text args) e h = kept_printed inside w made text args (arguments_fit st at text args e)
kept_simple inside w made st at s.Empty e h = absurd h
kept_simple inside w made st at (s.Block' a body) e h = absurd h
kept_simple inside w made st at (s.Declare u name value) e h = absurd h
kept_simple inside w made st at (s.If' test a body other) e h = absurd h
kept_simple inside w made st at (s.While' test a body) e h = absurd h
kept_simple inside w made st at (s.For' a starts test step b body) e h = absurd h
kept_simple inside w made st at s.Break e h = absurd h
kept_simple inside w made st at s.Continue e h = absurd h
kept_simple inside w made st at (s.Return value) e h = absurd h

pub kept_step : (inside : Bool) (w : Spot) (made : List Ty) (st : Stand) (step : Held-StmtKind-If-2) → else_faults st step ≡ [] → IsReadStep step → Kept inside (lift_else w made step).body
unfolding lift_else IsReadStep
kept_step inside w made st None' e h = kept_none inside
kept_step inside w made st (Some' _ (one b kind _)) e h = kept_simple inside w made st b kind e h.0

-- whether a loop is around the next statement
pub next_in_loop : (st : Stand) (at : ℕ) (kind : StmtKind) → (next st at kind).in_loop ≡ st.in_loop
next_in_loop st at s.Empty = refl
next_in_loop st at (s.Block' a body) = refl
next_in_loop st at (s.Declare u name value) = refl
next_in_loop st at (s.If' test a body other) = refl
next_in_loop st at (s.While' test a body) = refl
next_in_loop st at (s.For' a starts test step b body) = refl
next_in_loop st at s.Break = refl
next_in_loop st at s.Continue = refl
next_in_loop st at (s.Return value) = refl
next_in_loop st at (s.Assign x op y) = refl
next_in_loop st at (s.Run x) = refl
next_in_loop st at (s.Free x) = refl
next_in_loop st at (s.Print text args) = refl

-- statements that have no fault
mutual
  unfolding literals lift_stmt lift_all lift_else IsReadStmt AreReadStmts IsReadElse

  pub kept_stmt : (inside : Bool) (w : Spot) (made : List Ty) (st : Stand) (at : ℕ) (kind : StmtKind) → st.in_loop ≡ inside → stmt_faults st at kind ≡ [] → IsReadStmt kind →
      Kept inside (lift_stmt w made at kind).body
  kept_stmt inside w made st at s.Empty is e h = kept_none inside
  kept_stmt inside w made st at (s.Block' _ body) is e h = kept_block inside w made (in_block st) body is e h
  kept_stmt inside w made st at (s.Declare u name value) is e h = kept_start inside _ made _ u value
  kept_stmt inside w made st at (s.If' test _ (one b body _) other) is e h =
      let a = take_calls w made test.kind in
      let yes1 = lift_stmt w a.made b body in
      let v = at_scope w (after w.scope b body) in
      let V = value_faults st.scope is_testable test in
      let I = stmt_faults st b body in
      let O = else_faults (next st b body) other in
      kept_append inside a.calls (t.If a.value yes1.body (lift_else v yes1.made other).body ∷ []) (kept_calls inside w made test.kind)
      (kept_if inside a.value yes1.body (lift_else v yes1.made other).body
      (kept_stmt inside w a.made st b body is (no_right V I (no_left (V ++ I) O e)) h.2)
      (kept_else inside v yes1.made (next st b body) other (next_in_loop st b body ∙ is) (no_right (V ++ I) O e) h.3))
  kept_stmt inside w made st at (s.While' test _ (one b body _)) is e h =
      let a = take_calls w made test.kind in
      kept_loop inside a.calls a.value (lift_stmt w a.made b body).body [] (kept_calls false w made test.kind)
      (kept_stmt true w a.made (in_body st) b body refl (no_right (value_faults st.scope is_testable test) (stmt_faults (in_body st) b body) e) h.2) (kept_none false)
  kept_stmt inside w made st at (s.For' _ starts test step _ (one b body _)) is e h =
      let start = lift_all w made starts in
      let v = at_scope w (after_all w.scope starts) in
      let a = take_test v start.made test in
      let more = lift_else v a.made step in
      let there = next_all (in_block st) starts in
      let S = block_faults (in_block st) starts in
      let T = test_faults there.scope test in
      let P = else_faults there step in
      let B = stmt_faults (in_body there) b body in
      kept_append inside start.body (t.Loop a.calls a.value (lift_stmt v more.made b body).body more.body ∷ [])
      (kept_block inside w made (in_block st) starts is (no_left S T (no_left (S ++ T) P (no_left (S ++ T ++ P) B e))) h.1)
      (kept_loop inside a.calls a.value (lift_stmt v more.made b body).body more.body (kept_test false v start.made test)
      (kept_stmt true v more.made (in_body there) b body refl (no_right (S ++ T ++ P) B e) h.5)
      (kept_step false v a.made there step (no_right (S ++ T) P (no_left (S ++ T ++ P) B e)) h.3))
  kept_stmt inside w made st at s.Break is e h = kept_break inside (sym is ∙ passes st.in_loop _ e)
  kept_stmt inside w made st at s.Continue is e h = kept_continue inside (sym is ∙ passes st.in_loop _ e)
  kept_stmt inside w made st at (s.Return value) is e h = kept_give_back inside w made value
  kept_stmt inside w made st at (s.Assign x op y) is e h = kept_assignment inside w made x op y
  kept_stmt inside w made st at (s.Run x) is e h = kept_run inside w made x.kind
  kept_stmt inside w made st at (s.Free x) is e h = kept_freed inside w made x
  kept_stmt inside w made st at (s.Print text args) is e h = kept_printed inside w made text args (arguments_fit st at text args e)

  pub kept_block : (inside : Bool) (w : Spot) (made : List Ty) (st : Stand) → {m : _} → (body : Row_of-Stmt m) → st.in_loop ≡ inside → block_faults st body ≡ [] → AreReadStmts body →
      Kept inside (lift_all w made body).body
  kept_block inside w made st end_of-Stmt is e h = kept_none inside
  kept_block inside w made st (more_of-Stmt at kind rest) is e h =
      let a = lift_stmt w made at kind in
      let v = at_scope w (after w.scope at kind) in
      kept_append inside a.body (lift_all v a.made rest).body (kept_stmt inside w made st at kind is (no_left (stmt_faults st at kind) (block_faults (next st at kind) rest) e) h.0)
      (kept_block inside v a.made (next st at kind) rest (next_in_loop st at kind ∙ is) (no_right (stmt_faults st at kind) (block_faults (next st at kind) rest) e) h.1)

  pub kept_else : (inside : Bool) (w : Spot) (made : List Ty) (st : Stand) (other : Held-StmtKind-If-2) → st.in_loop ≡ inside → else_faults st other ≡ [] → IsReadElse other →
      Kept inside (lift_else w made other).body
  kept_else inside w made st None' is e h = kept_none inside
  kept_else inside w made st (Some' _ (one b body _)) is e h = kept_stmt inside w made st b body is e h.1

-- a function
pub kept_function : (p : Program) (f : Function) → function_faults (file_scope p) f ≡ [] → AreReadStmts (row_of (body_of f.body)) → Kept false (lift_function p f).body
unfolding literals lift_all
kept_function p f e h = from f.body bodies h where
  st : Stand
  st = record { scope = with_parameters (file_scope p) f.params; block = length f.params; ret = f.ret; in_loop = false }

  bodies : body_faults st f.body ≡ []
  bodies =
      no_right (unless (is_defined p f.name.it) (fault f.name.at (c.Unknown f.name.it))
      ++ unless (not (is_same_name f.name.it (codes "main")) || is_int f.ret && has_no_parameters f.params) (fault f.name.at c.BadMain)
      ++ type_faults (file_scope p) f.name.at f.ret
      ++ parameter_faults (record { scope = file_scope p; block = 0; ret = f.ret; in_loop = false }) f.params) (body_faults st f.body) e

  from : (body : Option (List Stmt)) → body_faults st body ≡ [] → AreReadStmts (row_of (body_of body)) →
      Kept false (lift_all (record { scope = with_parameters (file_scope p) f.params; slots = length (variables_of f); ret = f.ret }) [] (row_of (body_of body))).body
  from None e h = kept_none false
  from (Some body) e h = kept_block false _ [] st (row_of body) refl e h

pub kept_functions : (p : Program) (fs : List Function) → AllByRecursion (λ f. function_faults (file_scope p) f ≡ []) fs → AllByRecursion IsReadFunction fs →
    AllByRecursion (λ f. Kept false (lift_function p f).body) fs
kept_functions p [] e h = tt
kept_functions p (f ∷ fs) e h = (kept_function p f e.0 h.0.2, kept_functions p fs e.1 h.1)

pub kept_definitions : (p : Program) → IsWellTyped p → HasReadForm p → AllByRecursion (λ f. Kept false (lift_function p f).body) (definitions p)
kept_definitions p typed h =
    each_filter (λ f. Kept false (lift_function p f).body) (λ f. is_some f.body) p.functions (kept_functions p p.functions (parts p typed).functions (recursion_from_All IsReadFunction p.functions h.functions))

pub loops_are_kept : (p : Program) → IsWellTyped p → HasReadForm p → LoopsAreKept (lift p)
loops_are_kept p typed h =
    all-map (lift_function p) (λ f. StayInLoop false (lrow_of f.body)) (definitions p) (each_weaker stays (definitions p) (kept_definitions p typed h)) where
      stays : (f : Function) → Kept false (lift_function p f).body → StayInLoop false (lrow_of (lift_function p f).body)
      stays f k = k.stays

pub prints_fit : (p : Program) → IsWellTyped p → HasReadForm p → HasFittingPrints (lift p)
prints_fit p typed h =
    all-map (lift_function p) (λ f. PrintsFit (lrow_of f.body)) (definitions p) (each_weaker prints (definitions p) (kept_definitions p typed h)) where
      prints : (f : Function) → Kept false (lift_function p f).body → PrintsFit (lrow_of (lift_function p f).body)
      prints f k = k.prints
