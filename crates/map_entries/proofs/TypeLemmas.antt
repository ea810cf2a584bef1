-- The type of an expression from those of its operands.
use Rattle.std.proofs.Common.{◌≡◌, ℕ, ℤ, Option, Some, None, refl}
use Rattle.std.specs.Prelude.{slice_get}
use Rattle.std.specs.Option.{option_or}
use Rattle.c_tree.specs.declared.ty.Ty.TheVariants as ty
use Rattle.c_tree.specs.declared.op.UnOp.{UnOp}
use Rattle.c_tree.specs.declared.op.BinOp.{BinOp}
use Rattle.c_tree.specs.declared.lifted.LExpr.{LExpr}
use Rattle.c_tree.specs.declared.lifted.LExpr.TheVariants as l
use Rattle.c_tree.specs.Compute.{literals}
use Rattle.c_tree.specs.MapExpr.{Reads, type_in, slot_type, scalar_type, array_type, indexed_type, member_type, int_if, takes_one, takes_two}
use Rattle.map_entries.specs.Typed.{typed}

module _ (r : Reads) where
  pub type-Num : (n : ℤ) → type_in r (l.Num n) ≡ Some ty.Int
  unfolding literals
  type-Num n = refl

  pub type-Null : type_in r l.Null ≡ Some ty.AnyPtr
  unfolding literals
  type-Null = refl

  pub type-Slot : (i : ℕ) → type_in r (l.Slot i) ≡ slot_type (slice_get r.slots i)
  unfolding literals
  type-Slot i = refl

  pub type-Own : (i : ℕ) → type_in r (l.Own i) ≡ slot_type (slice_get r.own i)
  unfolding literals
  type-Own i = refl

  pub type-Global : (g : ℕ) → type_in r (l.Global g) ≡ scalar_type (slice_get r.program.globals g)
  unfolding literals
  type-Global g = refl

  pub type-Elem : (g : ℕ) (i : LExpr) → type_in r (l.Elem g i) ≡ indexed_type (array_type (slice_get r.program.globals g)) (type_in r i)
  unfolding literals
  type-Elem g i = refl

  pub type-Field : (p : LExpr) (owner field : ℕ) → type_in r (l.Field p owner field) ≡ member_type (slice_get r.program.structs owner) field (type_in r p)
  unfolding literals
  type-Field p owner field = refl

  pub type-Un : (op : UnOp) (a : LExpr) → type_in r (l.Un op a) ≡ int_if (takes_one op (type_in r a))
  unfolding literals
  type-Un op a = refl

  pub type-Bin : (op : BinOp) (a b : LExpr) → type_in r (l.Bin op a b) ≡ int_if (takes_two op (type_in r a) (type_in r b))
  unfolding literals
  type-Bin op a b = refl

  pub typed-or : (a b : Option LExpr) → typed r (option_or a b) ≡ option_or (typed r a) (typed r b)
  typed-or None b = refl
  typed-or (Some x) b = refl

pub ruleset type_rules = (type-Num, type-Null, type-Slot, type-Own, type-Global, type-Elem, type-Field, type-Un, type-Bin)

pub ruleset typed_rules = (typed-or)
