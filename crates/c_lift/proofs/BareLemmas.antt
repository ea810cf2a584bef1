-- Expressions without the casts round them, form by form.
use Rattle.std.proofs.Common.{◌≡◌, ℕ, ℤ, List, refl}
use Rattle.c_tree.specs.Compute.{literals}
use Rattle.c_tree.specs.declared.ty.Ty.{Ty}
use Rattle.c_tree.specs.declared.op.UnOp.{UnOp}
use Rattle.c_tree.specs.declared.op.BinOp.{BinOp}
use Rattle.c_tree.specs.declared.program.At.{At}
use Rattle.c_tree.specs.declared.program.Expr.{Expr}
use Rattle.c_tree.specs.declared.program.ExprKind.TheVariants as e
use Rattle.c_tree.specs.Lifting.{bare}

pub bare-Cast : (t : Ty) (x : Expr) → bare (e.Cast t x) ≡ bare x.kind
unfolding literals bare
bare-Cast t x = refl

pub bare-Num : (n : ℤ) → bare (e.Num n) ≡ e.Num n
unfolding literals bare
bare-Num n = refl

pub bare-Null : bare e.Null ≡ e.Null
unfolding literals bare
bare-Null = refl

pub bare-Eof : bare e.Eof ≡ e.Eof
unfolding literals bare
bare-Eof = refl

pub bare-Slot : (name : List ℕ) (k : ℕ) → bare (e.Slot name k) ≡ e.Slot name k
unfolding literals bare
bare-Slot name k = refl

pub bare-Name : (name : List ℕ) → bare (e.Name name) ≡ e.Name name
unfolding literals bare
bare-Name name = refl

pub bare-Index : (name : List ℕ) (x : Expr) → bare (e.Index name x) ≡ e.Index name x
unfolding literals bare
bare-Index name x = refl

pub bare-Field : (x : Expr) (name : List ℕ) → bare (e.Field x name) ≡ e.Field x name
unfolding literals bare
bare-Field x name = refl

pub bare-Un : (op : UnOp) (x : Expr) → bare (e.Un op x) ≡ e.Un op x
unfolding literals bare
bare-Un op x = refl

pub bare-Bin : (op : BinOp) (x y : Expr) → bare (e.Bin op x y) ≡ e.Bin op x y
unfolding literals bare
bare-Bin op x y = refl

pub bare-Call : (name : List ℕ) (args : List Expr) → bare (e.Call name args) ≡ e.Call name args
unfolding literals bare
bare-Call name args = refl

pub bare-Malloc : (name : At (List ℕ)) → bare (e.Malloc name) ≡ e.Malloc name
unfolding literals bare
bare-Malloc name = refl

pub bare-Getchar : bare e.Getchar ≡ e.Getchar
unfolding literals bare
bare-Getchar = refl

pub bare-Create : (dest : Expr) (name : At (List ℕ)) (x : Expr) → bare (e.Create dest name x) ≡ e.Create dest name x
unfolding literals bare
bare-Create dest name x = refl

pub bare-Join : (x : Expr) → bare (e.Join x) ≡ e.Join x
unfolding literals bare
bare-Join x = refl

pub bare-Lock : (name : At (List ℕ)) → bare (e.Lock name) ≡ e.Lock name
unfolding literals bare
bare-Lock name = refl

pub bare-Unlock : (name : At (List ℕ)) → bare (e.Unlock name) ≡ e.Unlock name
unfolding literals bare
bare-Unlock name = refl

pub ruleset bare_rules = (bare-Cast, bare-Num, bare-Null, bare-Eof, bare-Slot, bare-Name, bare-Index, bare-Field, bare-Un, bare-Bin, bare-Call, bare-Malloc, bare-Getchar, bare-Create, bare-Join, bare-Lock, bare-Unlock)
