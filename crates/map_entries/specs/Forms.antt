-- An expression with its type, made of its operands with theirs.
use Rattle.std.specs.Prelude.{ℕ, pos, Bool, true, false, ◌&&◌, if◌then◌else◌, List, slice_get, Option, Some, None}
use Rattle.std.specs.Option.{option_map}
use Rattle.c_tree.specs.declared.ty.Ty.TheVariants as ty
use Rattle.c_tree.specs.declared.op.UnOp.{UnOp}
use Rattle.c_tree.specs.declared.op.UnOp.TheVariants as un
use Rattle.c_tree.specs.declared.op.BinOp.{BinOp}
use Rattle.c_tree.specs.declared.op.BinOp.TheVariants as bin
use Rattle.c_tree.specs.declared.program.ExprKind.{ExprKind}
use Rattle.c_tree.specs.declared.lifted.LExpr.{LExpr}
use Rattle.c_tree.specs.declared.lifted.LExpr.TheVariants as l
use Rattle.c_tree.specs.declared.lifted.Lifted.{Lifted}
use Rattle.c_tree.specs.Types.{is_pointer, is_zero_number}
use Rattle.c_tree.specs.Names.{find_name, names_in, slot_names, struct_of}
use Rattle.c_tree.specs.MapExpr as m
use Rattle.map_entries.specs.declared.typed.Typed.{Typed}
use Rattle.map_entries.specs.Typed.{typed}

-- a global of a name
abbrev pub global_in : m.Reads → List ℕ → Option LExpr
global_in r name = option_map (λ g. l.Global g) (find_name name (names_in r.program 2))

-- an element of an array
abbrev pub indexed_typed : Lifted → Option ℕ → Option Typed → Option Typed
indexed_typed p (Some g) (Some x) = Some (record { expr = l.Elem g x.expr; ty = m.indexed_type (m.array_type (slice_get p.globals g)) x.ty })
indexed_typed p (Some g) None = None
indexed_typed p None x = None

-- a field of the struct of a number
abbrev pub member_at : Lifted → Typed → List ℕ → Option ℕ → Option Typed
member_at p base name None = None
member_at p base name (Some owner) = option_map (λ field. let t : Typed = record {
  expr = l.Field base.expr owner field;
  ty = m.member_type (slice_get p.structs owner) field base.ty;
} in t) (find_name name (slot_names (struct_of p owner).fields))

-- a field of what a pointer points to
abbrev pub member_typed : Lifted → Option Typed → List ℕ → Option Typed
member_typed p None name = None
member_typed p (Some base) name = member_at p base name (m.pointed p base.ty)

-- a prefix operator on its operand
abbrev pub un_typed : UnOp → Option Typed → Option Typed
un_typed op None = None
un_typed op (Some x) = Some (record { expr = l.Un op x.expr; ty = m.int_if (m.takes_one op x.ty) })

-- the literal 0
abbrev pub is_zero : LExpr → Bool
is_zero (l.Num n) = is_zero_number n
is_zero _ = false

-- the literal 0 beside a pointer is the null pointer
unfoldable pub beside_typed : Typed → Bool → Typed
beside_typed x is_pointer = if is_zero x.expr && is_pointer then record { expr = l.Null; ty = Some ty.AnyPtr } else x

-- whether an operator tells if its sides are equal
abbrev pub compares : BinOp → Bool
compares bin.Eq = true
compares bin.Ne = true
compares _ = false

-- an operator on both sides as they are
abbrev pub joined : BinOp → Typed → Typed → Typed
joined op a b = record { expr = l.Bin op a.expr b.expr; ty = m.int_if (m.takes_two op a.ty b.ty) }

-- an operator on both sides
abbrev pub operator_typed : BinOp → Typed → Typed → Typed
operator_typed op a b =
    if compares op
    then joined op (beside_typed a (m.passes is_pointer b.ty)) (beside_typed b (m.passes is_pointer a.ty))
    else joined op a b

-- an operator on both sides that are there
abbrev pub bin_typed : BinOp → Option Typed → Option Typed → Option Typed
bin_typed op None b = None
bin_typed op (Some a) None = None
bin_typed op (Some a) (Some b) = Some (operator_typed op a b)

-- the end of a file
abbrev pub end_typed : Option Typed
end_typed = Some (record { expr = l.Un un.Neg (l.Num (pos 1)); ty = Some ty.Int })

-- an expression by numbers, with its type
unfoldable pub lifted : m.Reads → ExprKind → Option Typed
lifted r x = typed r (m.numbered r x)
