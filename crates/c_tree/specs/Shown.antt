-- The text of an expression, with the fewest parentheses.
use Rattle.std.specs.Prelude.{ℕ, ◌+◌, Bool, ◌&&◌, nat_lt, if◌then◌else◌, List, [], ◌∷◌, ◌++◌, slice_get, codes}
use Rattle.std.specs.Fmt.{signed_decimal}
use Rattle.c_tree.specs.declared.lifted.LExpr.{LExpr, more_of-LExpr as only}
use Rattle.c_tree.specs.declared.lifted.LExpr.TheVariants as l
use Rattle.c_tree.specs.Scope.{is_same_name}
use Rattle.c_tree.specs.Names.{is_number, name_at, slot_name, field_name}
use Rattle.c_tree.specs.Operators.{un_text, bin_text, binding, prefix_binding, whole_binding}
use Rattle.c_tree.specs.MapExpr.{Reads}

-- how tightly an expression binds
abbrev pub strength : LExpr → ℕ
strength (l.Bin' op _ _ _ _) = binding op
strength (l.Un' op _ _) = prefix_binding
strength _ = whole_binding

-- one space on each side
abbrev pub spaced : List ℕ → List ℕ
spaced text = 32 ∷ text ++ 32 ∷ []

-- in parentheses where it binds less tightly than is asked
abbrev pub within : ℕ → ℕ → List ℕ → List ℕ
within asked given text = if nat_lt given asked then 40 ∷ text ++ 41 ∷ [] else text

-- whether an operator is the minus
abbrev pub is_minus : List ℕ → Bool
is_minus text = is_same_name text (codes "-")

-- whether a sign and the text behind it would make two minus signs touch
abbrev pub touches : List ℕ → List ℕ → Bool
touches sign text = is_minus sign && is_number (slice_get text 0) 45

-- a sign, with a space where it would touch
abbrev pub sign : List ℕ → Bool → List ℕ
sign text touches = if touches then text ++ 32 ∷ [] else text

-- a prefix operator before its operand
abbrev pub signed : List ℕ → List ℕ → List ℕ
signed op text = sign op (touches op text) ++ text

-- the text of an expression beside what it reads: fewest parentheses, spaces round binary operators alone
unfoldable pub shown : Reads → LExpr → List ℕ
shown r (l.Num n) = signed_decimal n
shown r l.Null = codes "NULL"
shown r (l.Slot i) = slot_name r.slots i
shown r (l.Global g) = name_at r.program 2 g
shown r (l.Elem' g _ (only i _)) = name_at r.program 2 g ++ codes "[" ++ shown r i ++ codes "]"
shown r (l.Field' _ (only p _) owner field) = within whole_binding (strength p) (shown r p) ++ codes "->" ++ field_name r.program owner field
shown r (l.Own i) = slot_name r.own i
shown r (l.Un' op _ (only a _)) = signed (un_text op) (within prefix_binding (strength a) (shown r a))
shown r (l.Bin' op _ (only a _) _ (only b _)) =
    within (binding op) (strength a) (shown r a) ++ spaced (bin_text op) ++ within (binding op + 1) (strength b) (shown r b)
