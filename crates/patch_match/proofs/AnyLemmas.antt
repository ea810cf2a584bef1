-- Tests over lists, and first places.
use Rattle.std.proofs.Common.{◌≡◌, ℕ, ◌+◌, ◌<◌, ◌≤◌, Bool, true, false, cond, List, [], ◌∷◌, length, Option, Some, None, refl, sym, ◌∙◌, ap, arith}
use Rattle.std.specs.Prelude.{◌&&◌, ◌||◌, ◌==◌, find}
use Rattle.std.specs.List.{list_any, position_from}
use Rattle.std.specs.Cmp.Lexicographic.{same_text, other_text}
use Rattle.std.proofs.lemmas.Bool.{eqb-true, eq-eqb}
use Rattle.c_tree.specs.Scope.{is_same_name}
use Rattle.c_tree.specs.Names.{is_number, find_name}

-- `||` in another order
pub shuffle : (a b c d : Bool) → (a || b) || (c || d) ≡ (a || c) || (b || d)
shuffle true b c d = refl
shuffle false true true d = refl
shuffle false true false d = refl
shuffle false false true d = refl
shuffle false false false d = refl

pub or-false : (a : Bool) → a || false ≡ a
or-false true = refl
or-false false = refl

pub or-left : (a b c : Bool) → (a || b) || c ≡ b || (a || c)
or-left true true c = refl
or-left true false c = refl
or-left false b c = refl

-- one of two tests holds
pub any_either : {X : Type 0} (p q r : X → Bool) (h : (x : X) → p x ≡ q x || r x) (xs : List X) → list_any p xs ≡ list_any q xs || list_any r xs
any_either p q r h [] = refl
any_either p q r h (x ∷ xs) =
    ap (λ b. b || list_any p xs) (h x)
    ∙ (ap (λ b. (q x || r x) || b) (any_either p q r h xs) ∙ shuffle (q x) (r x) (list_any q xs) (list_any r xs))

pub any_alike : {X : Type 0} (p q : X → Bool) (h : (x : X) → p x ≡ q x) (xs : List X) → list_any p xs ≡ list_any q xs
any_alike p q h [] = refl
any_alike p q h (x ∷ xs) = ap (λ b. b || list_any p xs) (h x) ∙ ap (λ b. q x || b) (any_alike p q h xs)

-- what passes two tests passes the first
pub found_any : {X : Type 0} (p q : X → Bool) (xs : List X) (c : X) → find (λ x. p x && q x) xs ≡ Some c → list_any p xs ≡ true
found_any p q [] c e = absurd (let no : ⊥ = cc in no)
found_any p q (x ∷ xs) c e = pick (p x) e (λ h. found_any p q xs c h) where
  pick : (b : Bool) → cond (b && q x) (Some x) (find (λ y. p y && q y) xs) ≡ Some c → (find (λ y. p y && q y) xs ≡ Some c → list_any p xs ≡ true) → b || list_any p xs ≡ true
  pick true h rec = refl
  pick false h rec = rec h

-- a place lies inside
pub place_within : {X : Type 0} (p : X → Bool) (k i : ℕ) (xs : List X) → position_from p k xs ≡ Some i → (k ≤ i) × (i < k + length xs)
place_within p k i [] e = absurd (let no : ⊥ = cc in no)
place_within p k i (x ∷ xs) e = pick (p x) e (λ h. place_within p (k + 1) i xs h) where
  pick : (b : Bool) → cond b (Some k) (position_from p (k + 1) xs) ≡ Some i → (position_from p (k + 1) xs ≡ Some i → (k + 1 ≤ i) × (i < k + 1 + length xs)) →
      (k ≤ i) × (i < k + length (x ∷ xs))
  pick true h rec = let s : k ≡ i = cc in (omega arith, omega arith)
  pick false h rec = let r = rec h in let a : k + 1 ≤ i = r.0 in let b : i < k + 1 + length xs = r.1 in (omega arith, omega arith)

pub found_within : (name : List ℕ) (names : List (List ℕ)) (i : ℕ) → find_name name names ≡ Some i → i < length names
found_within name names i e = let r = place_within (is_same_name name) 0 i names e in let b : i < 0 + length names = r.1 in omega arith

-- names at one place are equal
one_name : (a x : List ℕ) (k i : ℕ) (names : List (List ℕ)) → position_from (is_same_name a) k names ≡ Some i → position_from (is_same_name x) k names ≡ Some i → a ≡ x
one_name a x k i [] e f = absurd (let no : ⊥ = cc in no)
one_name a x k i (n ∷ rest) e f = pick (is_same_name a n) (is_same_name x n) refl refl e f (λ g h. one_name a x (k + 1) i rest g h) where
  pick : (b d : Bool) → b ≡ is_same_name a n → d ≡ is_same_name x n → cond b (Some k) (position_from (is_same_name a) (k + 1) rest) ≡ Some i →
      cond d (Some k) (position_from (is_same_name x) (k + 1) rest) ≡ Some i →
      (position_from (is_same_name a) (k + 1) rest ≡ Some i → position_from (is_same_name x) (k + 1) rest ≡ Some i → a ≡ x) → a ≡ x
  pick true true p q g h rec = same_text a n p ∙ sym (same_text x n q)
  pick true false p q g h rec =
      absurd (let w = place_within (is_same_name x) (k + 1) i rest h in let l : k + 1 ≤ i = w.0 in let s : k ≡ i = cc in let no : ⊥ = omega arith in no)
  pick false true p q g h rec =
      absurd (let w = place_within (is_same_name a) (k + 1) i rest g in let l : k + 1 ≤ i = w.0 in let s : k ≡ i = cc in let no : ⊥ = omega arith in no)
  pick false false p q g h rec = rec g h

pub same_name-refl : (a : List ℕ) → is_same_name a a ≡ true
same_name-refl a = pick (is_same_name a a) refl where
  pick : (b : Bool) → b ≡ is_same_name a a → is_same_name a a ≡ true
  pick true e = sym e
  pick false e = absurd (other_text a a e refl)

-- a name is that of a place where it is found there
pub same_found : (a x : List ℕ) (names : List (List ℕ)) (i : ℕ) → find_name a names ≡ Some i → is_same_name a x ≡ is_number (find_name x names) i
same_found a x names i e = pick (is_same_name a x) refl (find_name x names) refl where
  equal : (j : ℕ) (b : Bool) → b ≡ (j == i) → false ≡ is_same_name a x → find_name x names ≡ Some j → false ≡ b
  equal j false h f g = refl
  equal j true h f g =
      absurd (let s : j ≡ i = eqb-true j i (sym h) in other_text a x f (one_name a x 0 i names e (g ∙ ap (λ n. Some n) s)))

  pick : (b : Bool) → b ≡ is_same_name a x → (o : Option ℕ) → find_name x names ≡ o → b ≡ is_number o i
  pick true f o g =
      let here : o ≡ Some i = sym g ∙ (ap (λ n. find_name n names) (sym (same_text a x f)) ∙ e) in
      sym (ap (λ z. is_number z i) here ∙ eq-eqb i i refl)
  pick false f None g = refl
  pick false f (Some j) g = equal j (j == i) refl f g
