-- `lifted`, form by form.
use Rattle.std.proofs.Common.{◌≡◌, ℕ, ℤ, zero, suc, pos, negsuc, Bool, true, false, List, [], ◌∷◌, ◌++◌, Option, Some, None, refl, ◌∙◌, ap}
use Rattle.std.specs.Prelude.{if◌then◌else◌, slice_get, slice_index_or}
use Rattle.std.specs.Option.{option_map}
use Rattle.std.specs.Fmt.{decimal}
use Rattle.c_tree.specs.declared.ty.Ty.{Ty}
use Rattle.c_tree.specs.declared.ty.Ty.TheVariants as ty
use Rattle.c_tree.specs.declared.op.UnOp.{UnOp}
use Rattle.c_tree.specs.declared.op.BinOp.{BinOp}
use Rattle.c_tree.specs.declared.op.BinOp.TheVariants as bin
use Rattle.c_tree.specs.declared.lifted.LExpr.{LExpr}
use Rattle.c_tree.specs.declared.lifted.LExpr.TheVariants as l
use Rattle.c_tree.specs.declared.lifted.LStruct.{LStruct}
use Rattle.c_tree.specs.declared.program.At.{At}
use Rattle.c_tree.specs.declared.program.Expr.{Expr}
use Rattle.c_tree.specs.declared.program.ExprKind.{ExprKind}
use Rattle.c_tree.specs.declared.program.ExprKind.TheVariants as e
use Rattle.c_tree.specs.Compute.{literals}
use Rattle.c_tree.specs.Types.{is_pointer}
use Rattle.c_tree.specs.Names.{find_name, slot_names, no_struct, struct_of}
use Rattle.c_tree.specs.MapExpr.{Reads, named, array_named, indexed, pointed, member_in, member, struct_fields, beside, operator, operated, numbered, passes, type_in, member_type}
use Rattle.map_entries.specs.declared.typed.Typed.{Typed}
use Rattle.map_entries.specs.Typed.{typed}
use Rattle.map_entries.specs.Forms.{indexed_typed, member_at, member_typed, un_typed, beside_typed, joined, operator_typed, bin_typed, end_typed, lifted}

-- an expression with its type
abbrev with_type : Reads → LExpr → Typed
with_type r x = record { expr = x; ty = type_in r x }

indexed_is : (r : Reads) (g : Option ℕ) (i : Option LExpr) → typed r (indexed g i) ≡ indexed_typed r.program g (typed r i)
unfolding literals
indexed_is r (Some g) (Some i) = refl
indexed_is r (Some g) None = refl
indexed_is r None (Some i) = refl
indexed_is r None None = refl

fields_alike : (structs : List LStruct) (i : ℕ) → struct_fields (slice_get structs i) ≡ (slice_index_or structs i no_struct).fields
fields_alike [] zero = refl
fields_alike [] (suc i) = refl
fields_alike (x ∷ xs) zero = refl
fields_alike (x ∷ xs) (suc i) = fields_alike xs i

member_in_is : (r : Reads) (base : LExpr) (name : List ℕ) (owner : Option ℕ) → typed r (member_in r base name owner) ≡ member_at r.program (with_type r base) name owner
unfolding literals
member_in_is r base name None = refl
member_in_is r base name (Some owner) =
    ap (λ fields. typed r (option_map (λ field. l.Field base owner field) (find_name name (slot_names fields)))) (fields_alike r.program.structs owner)
    ∙ pick (find_name name (slot_names (struct_of r.program owner).fields)) where
      pick : (o : Option ℕ) → typed r (option_map (λ field. l.Field base owner field) o) ≡ option_map (λ field. let t : Typed = record {
        expr = l.Field base owner field;
        ty = member_type (slice_get r.program.structs owner) field (type_in r base);
      } in t) o
      pick None = refl
      pick (Some field) = refl

member_is : (r : Reads) (base : Option LExpr) (name : List ℕ) → typed r (member r base name) ≡ member_typed r.program (typed r base) name
member_is r None name = refl
member_is r (Some base) name = member_in_is r base name (pointed r.program (type_in r base))

un_is : (r : Reads) (op : UnOp) (a : Option LExpr) → typed r (option_map (λ x. l.Un op x) a) ≡ un_typed op (typed r a)
unfolding literals
un_is r op None = refl
un_is r op (Some a) = refl

beside_is : (r : Reads) (x : LExpr) (t : Option Ty) → with_type r (beside x t) ≡ beside_typed (with_type r x) (passes is_pointer t)
unfolding beside_typed literals
beside_is r (l.Num (pos zero)) t = pick (passes is_pointer t) where
  pick : (b : Bool) → with_type r (if b then l.Null else l.Num (pos 0)) ≡ (if b then record { expr = l.Null; ty = Some ty.AnyPtr } else with_type r (l.Num (pos 0)))
  pick true = refl
  pick false = refl
beside_is r (l.Num (pos (suc n))) t = refl
beside_is r (l.Num (negsuc n)) t = refl
beside_is r l.Null t = refl
beside_is r (l.Slot i) t = refl
beside_is r (l.Global g) t = refl
beside_is r (l.Elem' g a b) t = refl
beside_is r (l.Field' a b owner field) t = refl
beside_is r (l.Own i) t = refl
beside_is r (l.Un' op a b) t = refl
beside_is r (l.Bin' op a b x y) t = refl

joined_is : (r : Reads) (op : BinOp) (a b : LExpr) → with_type r (l.Bin op a b) ≡ joined op (with_type r a) (with_type r b)
unfolding literals
joined_is r op a b = refl

beside_both : (r : Reads) (op : BinOp) (a b : LExpr) → with_type r (l.Bin op (beside a (type_in r b)) (beside b (type_in r a))) ≡
    joined op (beside_typed (with_type r a) (passes is_pointer (type_in r b))) (beside_typed (with_type r b) (passes is_pointer (type_in r a)))
beside_both r op a b =
    joined_is r op (beside a (type_in r b)) (beside b (type_in r a))
    ∙ (ap (λ x. joined op x (with_type r (beside b (type_in r a)))) (beside_is r a (type_in r b))
    ∙ ap (λ y. joined op (beside_typed (with_type r a) (passes is_pointer (type_in r b))) y) (beside_is r b (type_in r a)))

operator_is : (r : Reads) (op : BinOp) (a b : LExpr) → with_type r (operator r op a b) ≡ operator_typed op (with_type r a) (with_type r b)
operator_is r bin.Eq a b = beside_both r bin.Eq a b
operator_is r bin.Ne a b = beside_both r bin.Ne a b
operator_is r bin.Mul a b = joined_is r bin.Mul a b
operator_is r bin.Div a b = joined_is r bin.Div a b
operator_is r bin.Rem a b = joined_is r bin.Rem a b
operator_is r bin.Add a b = joined_is r bin.Add a b
operator_is r bin.Sub a b = joined_is r bin.Sub a b
operator_is r bin.Shl a b = joined_is r bin.Shl a b
operator_is r bin.Shr a b = joined_is r bin.Shr a b
operator_is r bin.Lt a b = joined_is r bin.Lt a b
operator_is r bin.Le a b = joined_is r bin.Le a b
operator_is r bin.Gt a b = joined_is r bin.Gt a b
operator_is r bin.Ge a b = joined_is r bin.Ge a b
operator_is r bin.BitAnd a b = joined_is r bin.BitAnd a b
operator_is r bin.BitXor a b = joined_is r bin.BitXor a b
operator_is r bin.BitOr a b = joined_is r bin.BitOr a b
operator_is r bin.And a b = joined_is r bin.And a b
operator_is r bin.Or a b = joined_is r bin.Or a b

operated_is : (r : Reads) (op : BinOp) (a b : Option LExpr) → typed r (operated r op a b) ≡ bin_typed op (typed r a) (typed r b)
operated_is r op None b = refl
operated_is r op (Some a) None = refl
operated_is r op (Some a) (Some b) = ap (λ t. Some t) (operator_is r op a b)

module _ (r : Reads) where
  pub lifted-Num : (n : ℤ) → lifted r (e.Num n) ≡ Some (record { expr = l.Num n; ty = Some ty.Int })
  unfolding lifted literals
  lifted-Num n = refl

  pub lifted-Null : lifted r e.Null ≡ Some (record { expr = l.Null; ty = Some ty.AnyPtr })
  unfolding lifted literals
  lifted-Null = refl

  pub lifted-Eof : lifted r e.Eof ≡ end_typed
  unfolding lifted literals
  lifted-Eof = refl

  pub lifted-Name : (name : List ℕ) → lifted r (e.Name name) ≡ typed r (named r name)
  unfolding lifted literals
  lifted-Name name = refl

  pub lifted-Slot : (name : List ℕ) (n : ℕ) → lifted r (e.Slot name n) ≡ typed r (named r (name ++ 46 ∷ decimal n))
  unfolding lifted numbered
  lifted-Slot name n = refl

  pub lifted-Index : (name : List ℕ) (x : Expr) → lifted r (e.Index name x) ≡ indexed_typed r.program (array_named r name) (lifted r x.kind)
  unfolding lifted literals
  lifted-Index name x = indexed_is r (array_named r name) (numbered r x.kind)

  pub lifted-Field : (x : Expr) (name : List ℕ) → lifted r (e.Field x name) ≡ member_typed r.program (lifted r x.kind) name
  unfolding lifted literals
  lifted-Field x name = member_is r (numbered r x.kind) name

  pub lifted-Un : (op : UnOp) (x : Expr) → lifted r (e.Un op x) ≡ un_typed op (lifted r x.kind)
  unfolding lifted literals
  lifted-Un op x = un_is r op (numbered r x.kind)

  pub lifted-Bin : (op : BinOp) (x y : Expr) → lifted r (e.Bin op x y) ≡ bin_typed op (lifted r x.kind) (lifted r y.kind)
  unfolding lifted literals
  lifted-Bin op x y = operated_is r op (numbered r x.kind) (numbered r y.kind)

  pub lifted-Cast : (t : Ty) (x : Expr) → lifted r (e.Cast t x) ≡ None
  unfolding lifted literals
  lifted-Cast t x = refl

  pub lifted-Call : (name : List ℕ) (args : List Expr) → lifted r (e.Call name args) ≡ None
  unfolding lifted literals
  lifted-Call name args = refl

  pub lifted-Malloc : (name : At (List ℕ)) → lifted r (e.Malloc name) ≡ None
  unfolding lifted literals
  lifted-Malloc name = refl

  pub lifted-Getchar : lifted r e.Getchar ≡ None
  unfolding lifted literals
  lifted-Getchar = refl

  pub lifted-Create : (d : Expr) (name : At (List ℕ)) (x : Expr) → lifted r (e.Create d name x) ≡ None
  unfolding lifted literals
  lifted-Create d name x = refl

  pub lifted-Join : (x : Expr) → lifted r (e.Join x) ≡ None
  unfolding lifted literals
  lifted-Join x = refl

  pub lifted-Lock : (name : At (List ℕ)) → lifted r (e.Lock name) ≡ None
  unfolding lifted literals
  lifted-Lock name = refl

  pub lifted-Unlock : (name : At (List ℕ)) → lifted r (e.Unlock name) ≡ None
  unfolding lifted literals
  lifted-Unlock name = refl

pub ruleset lift_rules = (
  lifted-Num,
  lifted-Null,
  lifted-Eof,
  lifted-Name,
  lifted-Slot,
  lifted-Index,
  lifted-Field,
  lifted-Un,
  lifted-Bin,
  lifted-Cast,
  lifted-Call,
  lifted-Malloc,
  lifted-Getchar,
  lifted-Create,
  lifted-Join,
  lifted-Lock,
  lifted-Unlock,
)

module _ (r : Reads) where
  pub lifted_is : (x : ExprKind) → lifted r x ≡ typed r (numbered r x)
  unfolding lifted
  lifted_is x = refl

pub ruleset lifted_rules = (lifted_is)
