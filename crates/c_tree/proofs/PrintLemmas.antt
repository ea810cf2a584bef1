-- The text of an expression from the texts of its operands.
use Rattle.std.proofs.Common.{◌≡◌, ℕ, ◌+◌, ℤ, List, [], ◌∷◌, ◌++◌, Result, Ok, Err, OnOk, refl, ap, sym, ◌∙◌}
use Rattle.std.specs.Prelude.{slice_get, slice_index_or, codes, is_ok, if◌then◌else◌}
use Rattle.std.specs.Option.{option_or}
use Rattle.std.specs.Fmt.{signed_decimal}
use Rattle.std.proofs.lemmas.List.{append_assoc}
use Rattle.std.proofs.Math.ListN.{get_or-map}
use Rattle.c_tree.specs.declared.lifted.LExpr.{LExpr, Num, Null, Slot, Global, Own, Elem, Field, Un, Bin}
use Rattle.c_tree.specs.declared.lifted.Lifted.{Lifted}
use Rattle.c_tree.specs.declared.op.UnOp.{UnOp}
use Rattle.c_tree.specs.declared.op.BinOp.{BinOp}
use Rattle.c_tree.specs.Compute.{literals}
use Rattle.c_tree.specs.Names.{name_at, slot_name, field_name}
use Rattle.c_tree.specs.Operators.{un_text, bin_text, binding, prefix_binding, whole_binding}
use Rattle.c_tree.specs.MapExpr.{Reads}
use Rattle.c_tree.specs.MapGlobals.{no_global}
use Rattle.c_tree.specs.Step.{function_of, no_function}
use Rattle.c_tree.specs.Shown.{strength, within, touches, sign, signed, spaced, shown}

pub global_name : (p : Lifted) (g : ℕ) → name_at p 2 g ≡ (slice_index_or p.globals g no_global).name
global_name p g = get_or-map (λ x. x.name) p.globals g no_global

pub function_name : (p : Lifted) (i : ℕ) → name_at p 0 i ≡ (function_of p i).name
function_name p i = get_or-map (λ x. x.name) p.functions i no_function

pub shown-Num : (r : Reads) (n : ℤ) → shown r (Num n) ≡ signed_decimal n
unfolding literals
shown-Num r n = refl

pub shown-Null : (r : Reads) → shown r Null ≡ codes "NULL"
unfolding literals
shown-Null r = refl

pub shown-Slot : (r : Reads) (i : ℕ) → shown r (Slot i) ≡ slot_name r.slots i
unfolding literals
shown-Slot r i = refl

pub shown-Global : (r : Reads) (g : ℕ) → shown r (Global g) ≡ name_at r.program 2 g
unfolding literals
shown-Global r g = refl

pub shown-Own : (r : Reads) (i : ℕ) → shown r (Own i) ≡ slot_name r.own i
unfolding literals
shown-Own r i = refl

pub shown-Elem : (r : Reads) (g : ℕ) (i : LExpr) → shown r (Elem g i) ≡ name_at r.program 2 g ++ codes "[" ++ shown r i ++ codes "]"
unfolding literals
shown-Elem r g i = refl

pub shown-Field : (r : Reads) (p : LExpr) (owner field : ℕ) →
    shown r (Field p owner field) ≡ within whole_binding (strength p) (shown r p) ++ codes "->" ++ field_name r.program owner field
unfolding literals
shown-Field r p owner field = refl

pub shown-Un : (r : Reads) (op : UnOp) (a : LExpr) → shown r (Un op a) ≡ signed (un_text op) (within prefix_binding (strength a) (shown r a))
unfolding literals
shown-Un r op a = refl

pub shown-Bin : (r : Reads) (op : BinOp) (a b : LExpr) →
    shown r (Bin op a b) ≡ within (binding op) (strength a) (shown r a) ++ spaced (bin_text op) ++ within (binding op + 1) (strength b) (shown r b)
unfolding literals
shown-Bin r op a b = refl

-- the first byte of two texts is that of the first, or else that of the second
pub first-append : (xs ys : List ℕ) → slice_get (xs ++ ys) 0 ≡ option_or (slice_get xs 0) (slice_get ys 0)
first-append [] ys = refl
first-append (x ∷ xs) ys = refl

-- what is appended piece by piece is appended as one
three : (out a b c : List ℕ) → ((out ++ a) ++ b) ++ c ≡ out ++ (a ++ b ++ c)
three out a b c = ap (λ l. l ++ c) (append_assoc out a b) ∙ append_assoc out (a ++ b) c

pub append-Elem : (r : Reads) (g : ℕ) (i : LExpr) (out : List ℕ) →
    ((out ++ (name_at r.program 2 g ++ codes "[")) ++ shown r i) ++ codes "]" ≡ out ++ shown r (Elem g i)
unfolding literals
append-Elem r g i out = three out (name_at r.program 2 g ++ codes "[") (shown r i) (codes "]")

-- an element: its array with the bracket, then the index, then the other bracket
pub elem_appended : {T E : Type 0} (r : Result T E) (n : Reads) (g : ℕ) (i j whole : LExpr) (out first second last : List ℕ) →
    whole ≡ Elem g i → j ≡ i → first ≡ out ++ (name_at n.program 2 g ++ codes "[") → second ≡ first ++ shown n j →
    last ≡ (if is_ok r then second ++ codes "]" else second) → OnOk r (last ≡ out ++ shown n whole)
elem_appended (Ok x) n g i j whole out first second last is same a b e =
    e ∙ (ap (λ l. l ++ codes "]") (b ∙ (ap (λ l. l ++ shown n j) a ∙ ap (λ y. (out ++ (name_at n.program 2 g ++ codes "[")) ++ shown n y) same))
    ∙ (append-Elem n g i out ∙ ap (λ y. out ++ shown n y) (sym is)))
elem_appended (Err x) n g i j whole out first second last is same a b e = tt

pub append-Field : (r : Reads) (p : LExpr) (owner field : ℕ) (out : List ℕ) →
    ((out ++ within whole_binding (strength p) (shown r p)) ++ codes "->") ++ field_name r.program owner field ≡ out ++ shown r (Field p owner field)
unfolding literals
append-Field r p owner field out = three out (within whole_binding (strength p) (shown r p)) (codes "->") (field_name r.program owner field)

pub append-Un : (r : Reads) (op : UnOp) (a : LExpr) (out : List ℕ) →
    (out ++ sign (un_text op) (touches (un_text op) (within prefix_binding (strength a) (shown r a)))) ++ within prefix_binding (strength a) (shown r a) ≡ out ++ shown r (Un op a)
unfolding literals
append-Un r op a out =
    append_assoc out (sign (un_text op) (touches (un_text op) (within prefix_binding (strength a) (shown r a)))) (within prefix_binding (strength a) (shown r a))

pub append-Bin : (r : Reads) (op : BinOp) (a b : LExpr) (out : List ℕ) →
    ((out ++ within (binding op) (strength a) (shown r a)) ++ spaced (bin_text op)) ++ within (binding op + 1) (strength b) (shown r b) ≡ out ++ shown r (Bin op a b)
unfolding literals
append-Bin r op a b out = three out (within (binding op) (strength a) (shown r a)) (spaced (bin_text op)) (within (binding op + 1) (strength b) (shown r b))

pub ruleset print_rules = (shown-Num, shown-Null, shown-Slot, shown-Global, shown-Own, shown-Elem, shown-Field, shown-Un, shown-Bin, first-append)

pub ruleset append_rules = (shown-Num, shown-Null, shown-Slot, shown-Global, shown-Own, append-Elem, append-Field, append-Un, append-Bin)
