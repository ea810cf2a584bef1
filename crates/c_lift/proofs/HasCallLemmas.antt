-- Whether an expression has a call, form by form.
use Rattle.std.proofs.Common.{◌≡◌, ℕ, ℤ, true, false, ◌||◌, List, refl}
use Rattle.c_tree.specs.Compute.{literals}
use Rattle.c_tree.specs.declared.ty.Ty.{Ty}
use Rattle.c_tree.specs.declared.op.UnOp.{UnOp}
use Rattle.c_tree.specs.declared.op.BinOp.{BinOp}
use Rattle.c_tree.specs.declared.program.At.{At}
use Rattle.c_tree.specs.declared.program.Expr.{Expr}
use Rattle.c_tree.specs.declared.program.ExprKind.TheVariants as e
use Rattle.c_tree.specs.Lifting.{has_call}

pub has_call-Num : (n : ℤ) → has_call (e.Num n) ≡ false
unfolding literals has_call
has_call-Num n = refl

pub has_call-Null : has_call e.Null ≡ false
unfolding literals has_call
has_call-Null = refl

pub has_call-Eof : has_call e.Eof ≡ false
unfolding literals has_call
has_call-Eof = refl

pub has_call-Slot : (name : List ℕ) (k : ℕ) → has_call (e.Slot name k) ≡ false
unfolding literals has_call
has_call-Slot name k = refl

pub has_call-Name : (name : List ℕ) → has_call (e.Name name) ≡ false
unfolding literals has_call
has_call-Name name = refl

pub has_call-Index : (name : List ℕ) (x : Expr) → has_call (e.Index name x) ≡ has_call x.kind
unfolding literals has_call
has_call-Index name x = refl

pub has_call-Field : (x : Expr) (name : List ℕ) → has_call (e.Field x name) ≡ has_call x.kind
unfolding literals has_call
has_call-Field x name = refl

pub has_call-Un : (op : UnOp) (x : Expr) → has_call (e.Un op x) ≡ has_call x.kind
unfolding literals has_call
has_call-Un op x = refl

pub has_call-Bin : (op : BinOp) (x y : Expr) → has_call (e.Bin op x y) ≡ (has_call x.kind || has_call y.kind)
unfolding literals has_call
has_call-Bin op x y = refl

pub has_call-Cast : (t : Ty) (x : Expr) → has_call (e.Cast t x) ≡ has_call x.kind
unfolding literals has_call
has_call-Cast t x = refl

pub has_call-Call : (name : List ℕ) (args : List Expr) → has_call (e.Call name args) ≡ true
unfolding literals has_call
has_call-Call name args = refl

pub has_call-Malloc : (name : At (List ℕ)) → has_call (e.Malloc name) ≡ true
unfolding literals has_call
has_call-Malloc name = refl

pub has_call-Getchar : has_call e.Getchar ≡ true
unfolding literals has_call
has_call-Getchar = refl

pub has_call-Create : (dest : Expr) (name : At (List ℕ)) (x : Expr) → has_call (e.Create dest name x) ≡ true
unfolding literals has_call
has_call-Create dest name x = refl

pub has_call-Join : (x : Expr) → has_call (e.Join x) ≡ true
unfolding literals has_call
has_call-Join x = refl

pub has_call-Lock : (name : At (List ℕ)) → has_call (e.Lock name) ≡ true
unfolding literals has_call
has_call-Lock name = refl

pub has_call-Unlock : (name : At (List ℕ)) → has_call (e.Unlock name) ≡ true
unfolding literals has_call
has_call-Unlock name = refl

pub ruleset has_call_rules = (
  has_call-Num,
  has_call-Null,
  has_call-Eof,
  has_call-Slot,
  has_call-Name,
  has_call-Index,
  has_call-Field,
  has_call-Un,
  has_call-Bin,
  has_call-Cast,
  has_call-Call,
  has_call-Malloc,
  has_call-Getchar,
  has_call-Create,
  has_call-Join,
  has_call-Lock,
  has_call-Unlock,
)
