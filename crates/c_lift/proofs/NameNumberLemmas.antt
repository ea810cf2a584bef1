-- Slots under names that differ.
use Rattle.std.proofs.Common.{◌≡◌, ℕ, suc, ◌+◌, ◌<◌, List, [], ◌∷◌, ◌++◌, length, take, drop, cond, refl, sym, ap, ◌∙◌, append_assoc}
use Rattle.std.specs.Prelude.{count_by, map, fold}
use Rattle.std.proofs.lemmas.List.{map-append}
use Rattle.c_tree.specs.declared.lifted.Slot.{Slot}
use Rattle.c_tree.specs.Scope.{Variable, is_same_name}
use Rattle.c_tree.specs.Lifting.{slot_name, slots_from}
use Rattle.c_lift.specs.Variables.{as_slot, numbered_after}

abbrev pub numbered_slot : List Slot → Slot → Slot
numbered_slot seen x = record { name = slot_name x.name (count_by (λ y. is_same_name y.name x.name) seen + 1); ty = x.ty }

-- one slot more
pub numbered_more : (now then' all slots : List Slot) (i : ℕ) (x : Slot) → i < length slots → take (i + 1) slots ≡ take i slots ++ x ∷ [] → drop i slots ≡ x ∷ drop (i + 1) slots →
    now ++ numbered_after (take i slots) (drop i slots) ≡ all → then' ≡ now ++ numbered_slot (take i slots) x ∷ [] → then' ++ numbered_after (take (i + 1) slots) (drop (i + 1) slots) ≡ all
numbered_more now then' all slots i x low seen left whole more =
    ap (λ xs. xs ++ numbered_after (take (i + 1) slots) (drop (i + 1) slots)) more
    ∙ append_assoc now (numbered_slot (take i slots) x ∷ []) (numbered_after (take (i + 1) slots) (drop (i + 1) slots))
    ∙ ap (λ s. now ++ numbered_slot (take i slots) x ∷ numbered_after s (drop (i + 1) slots)) seen
    ∙ ap (λ xs. now ++ numbered_after (take i slots) xs) (sym left) ∙ whole

-- the count among slots is that among variables
pub fold-slots : (f : ℕ → Slot → ℕ) (a : ℕ) (xs : List Variable) → fold f a (map as_slot xs) ≡ fold (λ b x. f b (as_slot x)) a xs
fold-slots f a [] = refl
fold-slots f a (x ∷ xs) = fold-slots f (f a (as_slot x)) xs

pub count_by-slots : (name : List ℕ) (xs : List Variable) → count_by (λ y. is_same_name y.name name) (map as_slot xs) ≡ count_by (λ y. is_same_name y.name name) xs
count_by-slots name xs = fold-slots (λ a y. a + cond (is_same_name y.name name) 1 0) 0 xs

pub numbered_is : (seen xs : List Variable) → numbered_after (map as_slot seen) (map as_slot xs) ≡ slots_from seen xs
numbered_is seen [] = refl
numbered_is seen (x ∷ xs) =
    ap (λ n. let y : Slot = record { name = slot_name x.name (n + 1); ty = x.ty } in y ∷ numbered_after (map as_slot seen ++ as_slot x ∷ []) (map as_slot xs)) (count_by-slots x.name seen)
    ∙ ap (λ ys. let y : Slot = record { name = slot_name x.name (count_by (λ y. is_same_name y.name x.name) seen + 1); ty = x.ty } in y ∷ ys)
    (ap (λ s. numbered_after s (map as_slot xs)) (sym (map-append as_slot seen (x ∷ []))) ∙ numbered_is (seen ++ x ∷ []) xs)
