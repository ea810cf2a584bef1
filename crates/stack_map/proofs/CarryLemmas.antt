-- The old slot or field that a new one takes its value from, beside the first of the name.
use Rattle.std.proofs.Common.{◌≡◌, ℕ, ◌+◌, ◌-◌, ◌<◌, ◌≤◌, suc, Bool, true, false, cond, List, [], ◌∷◌, length, drop, Some, None, refl, sym, ◌∙◌, ap, subst, arith}
use Rattle.std.specs.Prelude.{◌&&◌}
use Rattle.std.specs.List.{position_from}
use Rattle.std.specs.Cmp.Lexicographic.{same_text}
use Rattle.std.proofs.lemmas.Bool.{false≢true}
use Rattle.c_tree.specs.declared.lifted.Slot.{Slot}
use Rattle.c_tree.specs.Fillings.{carried}
use Rattle.c_tree.specs.Link.{Link, is_image}
use Rattle.c_tree.specs.Names.{find_name, slot_names}
use Rattle.c_tree.specs.Scope.{is_same_name}
use Rattle.patch_match.proofs.AnyLemmas.{place_within, same_name-refl}

turned : (a b : List ℕ) → is_same_name a b ≡ true → is_same_name b a ≡ true
turned a b e = subst (λ z. is_same_name z a ≡ true) (same_text a b (sym e)) (same_name-refl a)

name_turned : (a b : List ℕ) → is_same_name a b ≡ is_same_name b a
name_turned a b = pick (is_same_name a b) (is_same_name b a) refl refl where
  pick : (x y : Bool) → x ≡ is_same_name a b → y ≡ is_same_name b a → x ≡ y
  pick true true p q = refl
  pick false false p q = refl
  pick true false p q = absurd (false≢true (q ∙ turned a b (sym p)))
  pick false true p q = absurd (false≢true (p ∙ turned b a (sym q)))

-- whether an old slot has a name and passes a test
abbrev pub both : List ℕ → (Slot → Bool) → Slot → Bool
both name q o = is_same_name o.name name && q o

unnamed : (name : List ℕ) (q : Slot → Bool) (k : ℕ) (xs : List Slot) → position_from (is_same_name name) k (slot_names xs) ≡ None → position_from (both name q) k xs ≡ None
unnamed name q k [] e = refl
unnamed name q k (x ∷ xs) e = ap (λ b. cond (b && q x) (Some k) (position_from (both name q) (k + 1) xs)) (name_turned x.name name) ∙ pick (is_same_name name x.name) e (λ h. unnamed name q (k + 1) xs h) where
  pick : (b : Bool) → cond b (Some k) (position_from (is_same_name name) (k + 1) (slot_names xs)) ≡ None →
      (position_from (is_same_name name) (k + 1) (slot_names xs) ≡ None → position_from (both name q) (k + 1) xs ≡ None) →
      cond (b && q x) (Some k) (position_from (both name q) (k + 1) xs) ≡ None
  pick true h rec = absurd (let no : ⊥ = cc in no)
  pick false h rec = rec h

named : (name : List ℕ) (q : Slot → Bool) (k i : ℕ) (xs : List Slot) → position_from (is_same_name name) k (slot_names xs) ≡ Some i →
    position_from (both name q) k xs ≡ position_from (both name q) i (drop (i - k) xs)
named name q k i [] e = absurd (let no : ⊥ = cc in no)
named name q k i (x ∷ xs) e =
    pick (is_same_name name x.name) refl e (λ h. (named name q (k + 1) i xs h, place_within (is_same_name name) (k + 1) i (slot_names xs) h)) where
      pick : (b : Bool) → b ≡ is_same_name name x.name → cond b (Some k) (position_from (is_same_name name) (k + 1) (slot_names xs)) ≡ Some i →
          (position_from (is_same_name name) (k + 1) (slot_names xs) ≡ Some i →
          (position_from (both name q) (k + 1) xs ≡ position_from (both name q) i (drop (i - (k + 1)) xs)) × ((k + 1 ≤ i) × (i < k + 1 + length (slot_names xs)))) →
          position_from (both name q) k (x ∷ xs) ≡ position_from (both name q) i (drop (i - k) (x ∷ xs))
      pick true p h rec = let s : k ≡ i = cc in let z : 0 ≡ i - k = omega arith in
          ap (λ n. position_from (both name q) n (x ∷ xs)) s ∙ ap (λ n. position_from (both name q) i (drop n (x ∷ xs))) z
      pick false p h rec = let r = rec h in let a : k + 1 ≤ i = r.1.0 in let z : suc (i - (k + 1)) ≡ i - k = omega arith in
          ap (λ b. cond (b && q x) (Some k) (position_from (both name q) (k + 1) xs)) (name_turned x.name name ∙ sym p)
          ∙ (r.0 ∙ ap (λ n. position_from (both name q) i (drop n (x ∷ xs))) z)

-- no old one has the name
pub carried_none : (k : Link) (olds : List Slot) (new : Slot) → find_name new.name (slot_names olds) ≡ None → carried k olds new ≡ None
carried_none k olds new e = unnamed new.name (λ o. is_image k o.ty new.ty) 0 olds e

-- no old one before the first of the name carries
pub carried_from : (k : Link) (olds : List Slot) (new : Slot) (i : ℕ) → find_name new.name (slot_names olds) ≡ Some i →
    carried k olds new ≡ position_from (λ o. is_same_name o.name new.name && is_image k o.ty new.ty) i (drop i olds)
carried_from k olds new i e = let z : i - 0 ≡ i = omega arith in
    named new.name (λ o. is_image k o.ty new.ty) 0 i olds e ∙ ap (λ n. position_from (λ o. is_same_name o.name new.name && is_image k o.ty new.ty) i (drop n olds)) z
