-- Expressions of a mapping: their names as numbers, and their types.
use Rattle.std.specs.Prelude.{ℕ, zero, pos, Bool, false, ◌&&◌, if◌then◌else◌, is_some, List, [], ◌∷◌, ◌++◌, slice_get, Option, Some, None}
use Rattle.std.specs.Option.{option_or, option_map}
use Rattle.std.specs.Fmt.{decimal}
use Rattle.c_tree.specs.declared.ty.Ty.{Ty}
use Rattle.c_tree.specs.declared.ty.Ty.TheVariants as ty
use Rattle.c_tree.specs.declared.op.UnOp.{UnOp}
use Rattle.c_tree.specs.declared.op.UnOp.TheVariants as un
use Rattle.c_tree.specs.declared.op.BinOp.{BinOp}
use Rattle.c_tree.specs.declared.op.BinOp.TheVariants as bin
use Rattle.c_tree.specs.declared.lifted.LExpr.{LExpr, more_of-LExpr as only}
use Rattle.c_tree.specs.declared.lifted.LExpr.TheVariants as l
use Rattle.c_tree.specs.declared.lifted.Lifted.{Lifted}
use Rattle.c_tree.specs.declared.lifted.LGlobal.{LGlobal}
use Rattle.c_tree.specs.declared.lifted.LStruct.{LStruct}
use Rattle.c_tree.specs.declared.lifted.Slot.{Slot}
use Rattle.c_tree.specs.declared.program.ExprKind.{ExprKind, more_of-Expr as one}
use Rattle.c_tree.specs.declared.program.ExprKind.TheVariants as e
use Rattle.c_tree.specs.Scope.{is_same_name}
use Rattle.c_tree.specs.Types.{is_int, is_pointer, is_testable, fits}
use Rattle.c_tree.specs.Step.{function_of}
use Rattle.c_tree.specs.Names.{find_name, names_in, slot_names, struct_of}
use Rattle.c_tree.specs.Link.{Link, is_image}

-- what an expression may read beside the old program's globals: the slots of a function, or the fields of a struct
pub record Reads : Type 0 where
  pub program : Lifted
  pub slots : List Slot
  pub own : List Slot

-- the slots of a function, where one is given
abbrev pub slots_of : Lifted → Option ℕ → List Slot
slots_of p None = []
slots_of p (Some f) = (function_of p f).slots

-- the fields of a struct, where one is given
abbrev pub fields_of : Lifted → Option ℕ → List Slot
fields_of p None = []
fields_of p (Some owner) = (struct_of p owner).fields

-- what an expression reads beside a function and a struct
abbrev pub reads_of : Lifted → Option ℕ → Option ℕ → Reads
reads_of p f owner = record { program = p; slots = slots_of p f; own = fields_of p owner }

-- what it reads where there is neither
abbrev pub only_globals : Lifted → Reads
only_globals p = reads_of p None None

-- the type of a slot or a field that is there
abbrev pub slot_type : Option Slot → Option Ty
slot_type o = option_map (λ x. x.ty) o

-- the type of a global that is no array
abbrev pub scalar_type : Option LGlobal → Option Ty
scalar_type None = None
scalar_type (Some g) = if is_some g.count then None else Some g.ty

-- the type of an array's elements
abbrev pub array_type : Option LGlobal → Option Ty
array_type None = None
array_type (Some g) = if is_some g.count then Some g.ty else None

-- whether there is a type, and a test holds of it
abbrev pub passes : (Ty → Bool) → Option Ty → Bool
passes test None = false
passes test (Some t) = test t

-- `int`, where a condition holds
abbrev pub int_if : Bool → Option Ty
int_if b = if b then Some ty.Int else None

-- the type of an element, where the index is an `int`
abbrev pub indexed_type : Option Ty → Option Ty → Option Ty
indexed_type t index = if passes is_int index then t else None

-- whether a type is the pointer to the struct of a name
abbrev pub is_pointer_to : List ℕ → Ty → Bool
is_pointer_to name (ty.Ptr owner) = is_same_name name owner
is_pointer_to name _ = false

-- the type of a field, where the pointer leads to its struct
abbrev pub member_type : Option LStruct → ℕ → Option Ty → Option Ty
member_type None field pointer = None
member_type (Some s) field pointer = if passes (is_pointer_to s.name) pointer then slot_type (slice_get s.fields field) else None

-- whether a prefix operator takes a type
abbrev pub takes_one : UnOp → Option Ty → Bool
takes_one un.Not t = passes is_testable t
takes_one _ t = passes is_int t

-- whether two types can be compared
abbrev pub are_alike : Ty → Ty → Bool
are_alike s t = if is_int s then is_int t else is_pointer s && is_pointer t && fits s t false

-- whether two sides have types that can be compared
abbrev pub are_comparable : Option Ty → Option Ty → Bool
are_comparable None t = false
are_comparable (Some s) t = passes (are_alike s) t

-- whether an operator takes these types
abbrev pub takes_two : BinOp → Option Ty → Option Ty → Bool
takes_two bin.Eq s t = are_comparable s t
takes_two bin.Ne s t = are_comparable s t
takes_two bin.And s t = passes is_testable s && passes is_testable t
takes_two bin.Or s t = passes is_testable s && passes is_testable t
takes_two _ s t = passes is_int s && passes is_int t

-- the type of an expression of a mapping; None where it has none
unfoldable pub type_in : Reads → LExpr → Option Ty
type_in r (l.Num n) = Some ty.Int
type_in r l.Null = Some ty.AnyPtr
type_in r (l.Slot i) = slot_type (slice_get r.slots i)
type_in r (l.Global g) = scalar_type (slice_get r.program.globals g)
type_in r (l.Elem' g _ (only i _)) = indexed_type (array_type (slice_get r.program.globals g)) (type_in r i)
type_in r (l.Field' _ (only p _) owner field) = member_type (slice_get r.program.structs owner) field (type_in r p)
type_in r (l.Own i) = slot_type (slice_get r.own i)
type_in r (l.Un' op _ (only a _)) = int_if (takes_one op (type_in r a))
type_in r (l.Bin' op _ (only a _) _ (only b _)) = int_if (takes_two op (type_in r a) (type_in r b))

-- an expression of an old type fills what has a new type; `NULL` and `void *` fill any pointer
abbrev pub fills_type : Link → Option Ty → Ty → Bool
fills_type k None asked = false
fills_type k (Some ty.AnyPtr) asked = is_pointer asked
fills_type k (Some given) asked = is_image k given asked

-- a slot or a field of the old object, by its name; None where the name is not there
abbrev pub local_named : Reads → List ℕ → Option LExpr
local_named r name = option_or (option_map (λ i. l.Slot i) (find_name name (slot_names r.slots))) (option_map (λ i. l.Own i) (find_name name (slot_names r.own)))

-- the nearest thing of a name: a slot or a field, else a global
abbrev pub named : Reads → List ℕ → Option LExpr
named r name = option_or (local_named r name) (option_map (λ g. l.Global g) (find_name name (names_in r.program 2)))

-- an array that no slot or own field hides
abbrev pub array_named : Reads → List ℕ → Option ℕ
array_named r name = if is_some (local_named r name) then None else find_name name (names_in r.program 2)

-- an element of an array
abbrev pub indexed : Option ℕ → Option LExpr → Option LExpr
indexed (Some g) (Some i) = Some (l.Elem g i)
indexed _ _ = None

-- the fields of a struct that is there
abbrev pub struct_fields : Option LStruct → List Slot
struct_fields None = []
struct_fields (Some s) = s.fields

-- the struct that a pointer points to
abbrev pub pointed : Lifted → Option Ty → Option ℕ
pointed p (Some (ty.Ptr owner)) = find_name owner (names_in p 1)
pointed p _ = None

-- the field of a name in the struct of a number
abbrev pub member_in : Reads → LExpr → List ℕ → Option ℕ → Option LExpr
member_in r base name None = None
member_in r base name (Some owner) =
    option_map (λ field. l.Field base owner field) (find_name name (slot_names (struct_fields (slice_get r.program.structs owner))))

-- a field of what a pointer points to
abbrev pub member : Reads → Option LExpr → List ℕ → Option LExpr
member r None name = None
member r (Some base) name = member_in r base name (pointed r.program (type_in r base))

-- the literal 0 beside a pointer is the null pointer
abbrev pub beside : LExpr → Option Ty → LExpr
beside (l.Num (pos zero)) t = if passes is_pointer t then l.Null else l.Num (pos 0)
beside x t = x

-- an operator on both sides
abbrev pub operator : Reads → BinOp → LExpr → LExpr → LExpr
operator r bin.Eq a b = l.Bin bin.Eq (beside a (type_in r b)) (beside b (type_in r a))
operator r bin.Ne a b = l.Bin bin.Ne (beside a (type_in r b)) (beside b (type_in r a))
operator r op a b = l.Bin op a b

-- an operator on both sides that are there
abbrev pub operated : Reads → BinOp → Option LExpr → Option LExpr → Option LExpr
operated r op (Some a) (Some b) = Some (operator r op a b)
operated r op _ _ = None

-- an expression by numbers, in place of the names that a mapping writes; None where a name is not there
unfoldable pub numbered : Reads → ExprKind → Option LExpr
numbered r (e.Num n) = Some (l.Num n)
numbered r e.Null = Some l.Null
numbered r e.Eof = Some (l.Un un.Neg (l.Num (pos 1)))
numbered r (e.Name name) = named r name
numbered r (e.Slot name n) = named r (name ++ 46 ∷ decimal n)
numbered r (e.Index' name _ (one _ i _)) = indexed (array_named r name) (numbered r i)
numbered r (e.Field' _ (one _ p _) name) = member r (numbered r p) name
numbered r (e.Un' op _ (one _ a _)) = option_map (λ x. l.Un op x) (numbered r a)
numbered r (e.Bin' op _ (one _ a _) _ (one _ b _)) = operated r op (numbered r a) (numbered r b)
numbered r _ = None
