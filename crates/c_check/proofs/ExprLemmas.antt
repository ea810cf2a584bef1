-- The types and the faults of expressions, form by form.
use Rattle.std.proofs.Common.{◌≡◌, ℕ, ℤ, suc, ◌+◌, ◌<◌, ◌≤◌, ◌∙◌, arith, Bool, List, [], ◌∷◌, ◌++◌, length, get_or, drop, Option, Some, None, refl, sym, ap, append_assoc}
use Rattle.std.proofs.lemmas.List.{drop_more, drop_all}
use Rattle.c_tree.specs.Compute.{literals}
use Rattle.c_tree.specs.declared.ty.Ty.{Ty}
use Rattle.c_tree.specs.declared.ty.Ty.TheVariants as ty
use Rattle.c_tree.specs.declared.op.UnOp.{UnOp}
use Rattle.c_tree.specs.declared.op.UnOp.TheVariants as un
use Rattle.c_tree.specs.declared.op.BinOp.{BinOp}
use Rattle.c_tree.specs.declared.cause.CheckCause.TheVariants as c
use Rattle.c_tree.specs.declared.scope.Fault.{Fault}
use Rattle.c_tree.specs.declared.program.At.{At}
use Rattle.c_tree.specs.declared.program.Field.{Field}
use Rattle.c_tree.specs.declared.program.Program.{Program}
use Rattle.c_tree.specs.declared.program.Expr.{Expr}
use Rattle.c_tree.specs.declared.program.ExprKind.TheVariants as e
use Rattle.c_tree.specs.declared.program.ExprKind.TheBlock.{hidden-the_row-Expr-1 as args_of}
use Rattle.c_tree.specs.Fault.{fault, unless}
use Rattle.c_tree.specs.Scope.{Scope, meaning, routine}
use Rattle.c_tree.specs.Types.{is_pointer, is_thread, takes, may_be, is_zero, result_type}
use Rattle.c_tree.specs.Typing.{faults, asks, asks_fit, lvalue_faults, start_faults, type_faults, asked, call_faults, parameters, length_of, test_for}
use Rattle.c_check.specs.declared.types.Test.{Test}
use Rattle.c_check.specs.declared.types.Test.TheVariants as test
use Rattle.c_check.specs.Tests.{passes, test_of}
use Rattle.c_check.specs.Words.{noted, typed, found, valued, fitted, sided, placed, filled, element, indexed, member, selected, of_type, lvalued, started, locked, argued, arguments}
use Rattle.c_check.proofs.NoteLemmas.{noting, noted-append, noted-none}

-- types
module _ (sc : Scope) where
  pub typed-Num : (n : ℤ) → typed sc (e.Num n) ≡ Some ty.Int
  unfolding typed
  typed-Num n = refl

  pub typed-Eof : typed sc e.Eof ≡ Some ty.Int
  unfolding typed
  typed-Eof = refl

  pub typed-Getchar : typed sc e.Getchar ≡ Some ty.Int
  unfolding typed
  typed-Getchar = refl

  pub typed-Null : typed sc e.Null ≡ Some ty.AnyPtr
  unfolding typed
  typed-Null = refl

  pub typed-Slot : (name : List ℕ) (k : ℕ) → typed sc (e.Slot name k) ≡ None
  unfolding typed
  typed-Slot name k = refl

  pub typed-Index : (name : List ℕ) (i : Expr) → typed sc (e.Index name i) ≡ element sc name
  unfolding typed element literals
  typed-Index name i = refl

  pub typed-Field : (a : Expr) (name : List ℕ) → typed sc (e.Field a name) ≡ member sc.program (typed sc a.kind) name
  unfolding typed member literals
  typed-Field a name = refl

  pub typed-Un : (op : UnOp) (a : Expr) → typed sc (e.Un op a) ≡ Some ty.Int
  unfolding typed
  typed-Un op a = refl

  pub typed-Bin : (op : BinOp) (a b : Expr) → typed sc (e.Bin op a b) ≡ Some ty.Int
  unfolding typed
  typed-Bin op a b = refl

  pub typed-Cast : (t : Ty) (a : Expr) → typed sc (e.Cast t a) ≡ Some t
  unfolding typed
  typed-Cast t a = refl

  pub typed-Malloc : (name : At (List ℕ)) → typed sc (e.Malloc name) ≡ Some (ty.Ptr name.it)
  unfolding typed
  typed-Malloc name = refl

  pub typed-Create : (d : Expr) (name : At (List ℕ)) (a : Expr) → typed sc (e.Create d name a) ≡ Some ty.Int
  unfolding typed
  typed-Create d name a = refl

  pub typed-Join : (a : Expr) → typed sc (e.Join a) ≡ Some ty.Int
  unfolding typed
  typed-Join a = refl

  pub typed-Lock : (name : At (List ℕ)) → typed sc (e.Lock name) ≡ Some ty.Int
  unfolding typed
  typed-Lock name = refl

  pub typed-Unlock : (name : At (List ℕ)) → typed sc (e.Unlock name) ≡ Some ty.Int
  unfolding typed
  typed-Unlock name = refl

  pub typed-Call : (name : List ℕ) (args : List Expr) → typed sc (e.Call name args) ≡ result_type (routine sc.program (meaning sc name))
  unfolding typed literals
  typed-Call name args = refl

-- faults
module _ (sc : Scope) (at : ℕ) where
  pub found-Num : (n : ℤ) → found sc at (e.Num n) ≡ []
  unfolding found
  found-Num n = refl

  pub found-Eof : found sc at e.Eof ≡ []
  unfolding found
  found-Eof = refl

  pub found-Getchar : found sc at e.Getchar ≡ []
  unfolding found
  found-Getchar = refl

  pub found-Null : found sc at e.Null ≡ []
  unfolding found
  found-Null = refl

  pub found-Slot : (name : List ℕ) (k : ℕ) → found sc at (e.Slot name k) ≡ []
  unfolding found
  found-Slot name k = refl

  pub found-Index : (name : List ℕ) (i : Expr) → found sc at (e.Index name i) ≡ valued sc test.Int i ++ indexed sc at name
  unfolding found valued indexed literals
  found-Index name i = refl

  pub found-Field : (a : Expr) (name : List ℕ) → found sc at (e.Field a name) ≡ valued sc test.Anything a ++ selected sc.program at (typed sc a.kind) name
  unfolding found valued selected typed literals
  found-Field a name = refl

  pub found-Un : (op : UnOp) (a : Expr) → found sc at (e.Un op a) ≡ valued sc (test_of op) a
  unfolding found valued literals
  found-Un un.Neg a = refl
  found-Un un.Not a = refl
  found-Un un.Flip a = refl

  pub found-Bin : (op : BinOp) (a b : Expr) → found sc at (e.Bin op a b) ≡
      valued sc test.Anything a ++ valued sc test.Anything b ++ unless (takes op (sided sc a.kind) (sided sc b.kind)) (fault at c.BadType)
  unfolding found valued sided literals
  found-Bin op a b = refl

  pub found-Cast : (t : Ty) (a : Expr) → found sc at (e.Cast t a) ≡ of_type sc.program at t ++ valued sc test.Pointer a
  unfolding found valued of_type literals
  found-Cast t a = append_assoc (type_faults sc at t) (faults sc a.at a.kind) (asks sc is_pointer a.at a.kind)

  pub found-Malloc : (name : At (List ℕ)) → found sc at (e.Malloc name) ≡ of_type sc.program name.at (ty.Ptr name.it)
  unfolding found of_type
  found-Malloc name = refl

  pub found-Create : (d : Expr) (name : At (List ℕ)) (a : Expr) → found sc at (e.Create d name a) ≡ filled sc test.Thread d ++ started sc name ++ fitted sc ty.AnyPtr a
  unfolding found filled started fitted literals
  found-Create d name a =
      append_assoc (faults sc d.at d.kind ++ lvalue_faults sc d.at d.kind ++ asks sc is_thread d.at d.kind
      ++ start_faults sc.program name.at name.it (routine sc.program (meaning sc name.it))) (faults sc a.at a.kind) (asks_fit sc (Some ty.AnyPtr) a.at a.kind)

  pub found-Join : (a : Expr) → found sc at (e.Join a) ≡ valued sc test.Thread a
  unfolding found valued literals
  found-Join a = refl

  pub found-Lock : (name : At (List ℕ)) → found sc at (e.Lock name) ≡ locked sc at name
  unfolding found locked
  found-Lock name = refl

  pub found-Unlock : (name : At (List ℕ)) → found sc at (e.Unlock name) ≡ locked sc at name
  unfolding found locked
  found-Unlock name = refl

pub ruleset forms = (
  noting,
  typed-Num,
  typed-Eof,
  typed-Getchar,
  typed-Null,
  typed-Slot,
  typed-Index,
  typed-Field,
  typed-Un,
  typed-Bin,
  typed-Cast,
  typed-Malloc,
  typed-Create,
  typed-Join,
  typed-Lock,
  typed-Unlock,
  found-Num,
  found-Eof,
  found-Getchar,
  found-Null,
  found-Slot,
  found-Index,
  found-Field,
  found-Un,
  found-Bin,
  found-Cast,
  found-Malloc,
  found-Create,
  found-Join,
  found-Lock,
  found-Unlock,
)

-- what is asked
pub valued-asked : (sc : Scope) (test : Test) (x : Expr) → valued sc test x ≡ found sc x.at x.kind ++ asked (may_be (passes test (is_zero sc x.kind)) (typed sc x.kind)) x.at (typed sc x.kind)
unfolding valued found typed
valued-asked sc test x = refl

pub fitted-asked : (sc : Scope) (t : Ty) (x : Expr) → fitted sc t x ≡ found sc x.at x.kind ++ asked (may_be (test_for (Some t) (is_zero sc x.kind)) (typed sc x.kind)) x.at (typed sc x.kind)
unfolding fitted found typed
fitted-asked sc t x = refl

pub placed-is : (sc : Scope) (x : Expr) → placed sc x ≡ found sc x.at x.kind ++ lvalued sc x
unfolding placed found lvalued
placed-is sc x = refl

pub filled-asked : (sc : Scope) (test : Test) (x : Expr) → filled sc test x ≡ placed sc x ++ asked (may_be (passes test (is_zero sc x.kind)) (typed sc x.kind)) x.at (typed sc x.kind)
unfolding filled placed typed
filled-asked sc test x = refl

pub sided-is : (sc : Scope) (x : Expr) → sided sc x.kind ≡ record { type = typed sc x.kind; zero = is_zero sc x.kind }
unfolding sided typed
sided-is sc x = refl

pub ruleset asking = (noting, valued-asked, fitted-asked, placed-is, filled-asked, sided-is)

-- calls
pub length_of-args : (args : List Expr) → length_of (args_of args) ≡ length args
unfolding literals
length_of-args [] = refl
length_of-args (x ∷ rest) = let e : 1 + length rest ≡ suc (length rest) = omega arith in ap (λ n. 1 + n) (length_of-args rest) ∙ e

pub found-Call : (sc : Scope) (at : ℕ) (name : List ℕ) (args : List Expr) → found sc at (e.Call name args) ≡
    call_faults sc.program at name (length args) (routine sc.program (meaning sc name)) ++ arguments sc (parameters (routine sc.program (meaning sc name))) args
unfolding found arguments literals
found-Call sc at name args =
    ap (λ n. call_faults sc.program at name n (routine sc.program (meaning sc name)) ++ arguments sc (parameters (routine sc.program (meaning sc name))) args)
    (length_of-args args)

-- one argument more, and no more
pub arguments-more : (sc : Scope) (qs : List Field) (x : Expr) (rest : List Expr) → arguments sc qs (x ∷ rest) ≡ argued sc qs x ++ arguments sc (drop 1 qs) rest
unfolding argued arguments literals
arguments-more sc [] x rest = refl
arguments-more sc (q ∷ qs) x rest = refl

pub arguments-none : (sc : Scope) (qs : List Field) → arguments sc qs [] ≡ []
unfolding arguments literals
arguments-none sc [] = refl
arguments-none sc (q ∷ qs) = refl

pub argued-none : (sc : Scope) (x : Expr) → argued sc [] x ≡ valued sc test.Anything x
unfolding argued valued
argued-none sc x = refl

pub argued-empty : (sc : Scope) (qs : List Field) (x : Expr) → length qs ≡ 0 → argued sc qs x ≡ valued sc test.Anything x
argued-empty sc [] x e = argued-none sc x
argued-empty sc (q ∷ qs) x e = absurd (omega (arith, e))

pub argued-some : (sc : Scope) (q : Field) (qs : List Field) (x : Expr) → argued sc (q ∷ qs) x ≡ fitted sc q.ty x
unfolding argued fitted
argued-some sc q qs x = refl

pub ruleset calling = (noting, typed-Call, found-Call, arguments-more, arguments-none, argued-empty, argued-some)

-- the loop over arguments, one further and at its end
pub arguments_step : (sc : Scope) (qs ps : List Field) (args : List Expr) (i : ℕ) (x : Expr) (f1 f2 : Option Fault) → i < length args → x ≡ get_or args i x →
    f2 ≡ noted f1 (argued sc qs x) → ps ≡ drop 1 qs → noted f1 (arguments sc qs (drop i args)) ≡ noted f2 (arguments sc ps (drop (i + 1) args))
arguments_step sc qs ps args i x f1 f2 lt here done left =
    ap (λ xs. noted f1 (arguments sc qs xs)) (drop_more args i x lt ∙ ap (λ z. z ∷ drop (i + 1) args) (sym here))
    ∙ (ap (noted f1) (arguments-more sc qs x (drop (i + 1) args)) ∙ (noted-append f1 (argued sc qs x) (arguments sc (drop 1 qs) (drop (i + 1) args))
    ∙ (ap (λ f. noted f (arguments sc (drop 1 qs) (drop (i + 1) args))) (sym done) ∙ ap (λ z. noted f2 (arguments sc z (drop (i + 1) args))) (sym left))))

pub arguments_end : (sc : Scope) (qs : List Field) (args : List Expr) (i : ℕ) (f : Option Fault) → length args ≤ i → noted f (arguments sc qs (drop i args)) ≡ f
arguments_end sc qs args i f le = ap (λ xs. noted f (arguments sc qs xs)) (drop_all i args le) ∙ (ap (noted f) (arguments-none sc qs) ∙ noted-none f)
