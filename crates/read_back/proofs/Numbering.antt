-- What an expression of a mapping becomes by its numbers is an expression that reads back.
use Rattle.std.proofs.Common.{◌≡◌, ℕ, zero, suc, Bool, true, false, pos, negsuc, List, Option, Some, None, refl, sym, ap, subst, ◌∙◌}
use Rattle.std.specs.Prelude.{if◌then◌else◌}
use Rattle.std.proofs.lemmas.Option.{same_Some}
use Rattle.std.specs.Option.{option_map, option_or}
use Rattle.c_tree.specs.declared.lifted.LExpr.{LExpr, more_of-LExpr}
use Rattle.c_tree.specs.declared.lifted.LExpr.TheVariants as l
use Rattle.c_tree.specs.declared.op.BinOp.{BinOp}
use Rattle.c_tree.specs.declared.op.BinOp.TheVariants as bin
use Rattle.c_tree.specs.declared.ty.Ty.{Ty}
use Rattle.c_tree.specs.declared.ty.Ty.TheVariants as ty
use Rattle.c_tree.specs.Compute.{literals}
use Rattle.c_tree.specs.Types.{is_pointer}
use Rattle.c_tree.specs.Names.{find_name, slot_names, names_in}
use Rattle.c_tree.specs.MapExpr.{Reads, passes, type_in, named, beside, operator}
use Rattle.c_tree.specs.Shown.{strength, shown}
use Rattle.read_back.proofs.Spelt.{name_of_number, slot_of_number}

-- A literal 0 that stayed one beside a side stays one beside what that side became.
still : (r : Reads) (x : LExpr) (t : Option Ty) → beside (beside x t) t ≡ beside x t
still r (l.Num (pos zero)) t = go (passes is_pointer t) refl
  where
    go : (b : Bool) → passes is_pointer t ≡ b → beside (if b then l.Null else l.Num (pos 0)) t ≡ (if b then l.Null else l.Num (pos 0))
    go true e = refl
    go false e = ap (λ b. if b then l.Null else l.Num (pos 0)) e
still r (l.Num (pos (suc n))) t = refl
still r (l.Num (negsuc n)) t = refl
still r l.Null t = refl
still r (l.Slot i) t = refl
still r (l.Global g) t = refl
still r (l.Elem' g a b) t = refl
still r (l.Field' a b owner field) t = refl
still r (l.Own i) t = refl
still r (l.Un' op a b) t = refl
still r (l.Bin' op a b c d) t = refl

-- whether an expression is the literal 0
abbrev pub is_zero : LExpr → Bool
is_zero (l.Num (pos zero)) = true
is_zero _ = false

-- What is no literal 0 stays.
pub stays : (x : LExpr) (t : Option Ty) → is_zero x ≡ false → beside x t ≡ x
stays (l.Num (pos zero)) t h = cc
stays (l.Num (pos (suc n))) t h = refl
stays (l.Num (negsuc n)) t h = refl
stays l.Null t h = refl
stays (l.Slot i) t h = refl
stays (l.Global g) t h = refl
stays (l.Elem' g a b) t h = refl
stays (l.Field' a b owner field) t h = refl
stays (l.Own i) t h = refl
stays (l.Un' op a b) t h = refl
stays (l.Bin' op a b c d) t h = refl

zero_is : (x : LExpr) → is_zero x ≡ true → x ≡ l.Num (pos 0)
zero_is (l.Num (pos zero)) h = refl
zero_is (l.Num (pos (suc n))) h = cc
zero_is (l.Num (negsuc n)) h = cc
zero_is l.Null h = cc
zero_is (l.Slot i) h = cc
zero_is (l.Global g) h = cc
zero_is (l.Elem' g a b) h = cc
zero_is (l.Field' a b owner field) h = cc
zero_is (l.Own i) h = cc
zero_is (l.Un' op a b) h = cc
zero_is (l.Bin' op a b c d) h = cc

-- a literal 0 beside a side
zero_still : (r : Reads) (b : LExpr) → beside (beside (l.Num (pos 0)) (type_in r b)) (type_in r (beside b (Some ty.Int))) ≡ beside (l.Num (pos 0)) (type_in r b)
unfolding literals
zero_still r b = go (is_zero b) refl
  where
    zero : beside (beside (l.Num (pos 0)) (type_in r (l.Num (pos 0)))) (type_in r (beside (l.Num (pos 0)) (Some ty.Int))) ≡ beside (l.Num (pos 0)) (type_in r (l.Num (pos 0)))
    zero = refl

    go : (z : Bool) → is_zero b ≡ z → beside (beside (l.Num (pos 0)) (type_in r b)) (type_in r (beside b (Some ty.Int))) ≡ beside (l.Num (pos 0)) (type_in r b)
    go true h = subst (λ x. beside (beside (l.Num (pos 0)) (type_in r x)) (type_in r (beside x (Some ty.Int))) ≡ beside (l.Num (pos 0)) (type_in r x)) (sym (zero_is b h)) zero
    go false h = ap (λ x. beside (beside (l.Num (pos 0)) (type_in r b)) (type_in r x)) (stays b (Some ty.Int) h) ∙ still r (l.Num (pos 0)) (type_in r b)

-- A side once more, beside what the other became.
pub side_still : (r : Reads) (a b : LExpr) → beside (beside a (type_in r b)) (type_in r (beside b (type_in r a))) ≡ beside a (type_in r b)
unfolding literals
side_still r a b = go (is_zero a) refl
  where
    go : (z : Bool) → is_zero a ≡ z → beside (beside a (type_in r b)) (type_in r (beside b (type_in r a))) ≡ beside a (type_in r b)
    go true h = subst (λ x. beside (beside x (type_in r b)) (type_in r (beside b (type_in r x))) ≡ beside x (type_in r b)) (sym (zero_is a h)) (zero_still r b)
    go false h =
        let same : beside a (type_in r b) ≡ a = stays a (type_in r b) h in
        ap (λ x. beside x (type_in r (beside b (type_in r a)))) same ∙ stays a (type_in r (beside b (type_in r a))) h ∙ sym same

-- What an operator makes of its sides, it makes again of what they became.
pub operator_again : (r : Reads) (op : BinOp) (a b x y : LExpr) → operator r op a b ≡ l.Bin op x y → operator r op x y ≡ l.Bin op x y
unfolding literals
operator_again r op a b x y is = again op a b x y is
  where
    compared : (op : BinOp) (a b : LExpr) (x y : LExpr) → x ≡ beside a (type_in r b) → y ≡ beside b (type_in r a) → l.Bin op (beside x (type_in r y)) (beside y (type_in r x)) ≡ l.Bin op x y
    compared op a b x y e f =
        rw (e, f) (ap (λ s. l.Bin op s (beside (beside b (type_in r a)) (type_in r (beside a (type_in r b))))) (side_still r a b)
        ∙ ap (λ s. l.Bin op (beside a (type_in r b)) s) (side_still r b a))

    left_of : LExpr → LExpr
    left_of (l.Bin' op _ (more_of-LExpr x _) _ _) = x
    left_of x = x

    right_of : LExpr → LExpr
    right_of (l.Bin' op _ _ _ (more_of-LExpr y _)) = y
    right_of x = x

    again : (op : BinOp) (a b x y : LExpr) → operator r op a b ≡ l.Bin op x y → operator r op x y ≡ l.Bin op x y
    again bin.Eq a b x y e = compared bin.Eq a b x y (sym (ap left_of e)) (sym (ap right_of e))
    again bin.Ne a b x y e = compared bin.Ne a b x y (sym (ap left_of e)) (sym (ap right_of e))
    again op a b x y e = refl

-- What a name leads to is printed as that name.
pub record IsLeaf (r : Reads) (name : List ℕ) (x : LExpr) : Type 0 where
  pub text : shown r x ≡ name
  pub strong : strength x ≡ 11

pub named_is : (r : Reads) (name : List ℕ) (x : LExpr) → named r name ≡ Some x → IsLeaf r name x
unfolding literals
named_is r name x h = by_slot (find_name name (slot_names r.slots)) (find_name name (slot_names r.own)) (find_name name (names_in r.program 2)) refl refl refl h
  where
    at_leaf : (y : LExpr) → IsLeaf r name y → y ≡ x → IsLeaf r name x
    at_leaf y i e = subst (IsLeaf r name) e i

    by_slot : (a b c : Option ℕ) → find_name name (slot_names r.slots) ≡ a → find_name name (slot_names r.own) ≡ b → find_name name (names_in r.program 2) ≡ c
        → option_or (option_or (option_map (λ i. l.Slot i) a) (option_map (λ i. l.Own i) b)) (option_map (λ g. l.Global g) c) ≡ Some x → IsLeaf r name x
    by_slot (Some i) b c e f g h =
        at_leaf (l.Slot i) (record { text = slot_of_number r.slots name i e; strong = refl }) (same_Some _ _ h)
    by_slot None (Some i) c e f g h =
        at_leaf (l.Own i) (record { text = slot_of_number r.own name i f; strong = refl }) (same_Some _ _ h)
    by_slot None None (Some i) e f g h =
        at_leaf (l.Global i) (record { text = name_of_number (names_in r.program 2) name i g; strong = refl }) (same_Some _ _ h)
    by_slot None None None e f g h = cc
