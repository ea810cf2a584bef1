-- Numbers that stand twice in a list, one number after another.
use Rattle.std.proofs.Common.{◌≡◌, ◌∙◌, ℕ, ◌+◌, ◌<◌, Bool, true, false, nat_eq, cond, List, [], ◌∷◌, ◌++◌, length, get_or, take, drop, map, refl, sym, ap, arith}
use Rattle.std.specs.Prelude.{not, ◌||◌}
use Rattle.std.specs.List.{list_any}
use Rattle.std.proofs.lemmas.List.{map-append, map_more, take-append-drop}
use Rattle.std.proofs.lemmas.List.Folds.{list_any-append}
use Rattle.std.proofs.lemmas.Bool.Decides.{nat_tests}
use Rattle.c_tree.specs.declared.mapping.LFill.{LFill}
use Rattle.c_tree.specs.Suits.{has_twice}

nat_eq-comm : (x y : ℕ) → nat_eq x y ≡ nat_eq y x
nat_eq-comm x y = grind (arith, nat_tests)

turned : (a b c d : Bool) → ((a || (b || false)) || (c || d)) ≡ ((b || c) || (a || d))
turned true true c d = refl
turned true false true d = refl
turned true false false d = refl
turned false true c d = refl
turned false false true d = refl
turned false false false d = refl

-- one number more stands twice where it stood before
twice_push : (xs : List ℕ) (y : ℕ) → has_twice (xs ++ y ∷ []) ≡ (list_any (nat_eq y) xs || has_twice xs)
twice_push [] y = refl
twice_push (x ∷ xs) y =
    ap (λ b. b || has_twice (xs ++ y ∷ [])) (list_any-append (nat_eq x) xs (y ∷ []))
    ∙ (ap (λ b. (list_any (nat_eq x) xs || (nat_eq x y || false)) || b) (twice_push xs y)
    ∙ (ap (λ b. (list_any (nat_eq x) xs || (b || false)) || (list_any (nat_eq y) xs || has_twice xs)) (nat_eq-comm x y)
    ∙ turned (list_any (nat_eq x) xs) (nat_eq y x) (list_any (nat_eq y) xs) (has_twice xs)))

-- what stands twice still does with more behind
twice_front : (xs ys : List ℕ) → has_twice xs ≡ true → has_twice (xs ++ ys) ≡ true
twice_front [] ys h = absurd (let no : ⊥ = cc in no)
twice_front (x ∷ xs) ys h = ap (λ b. b || has_twice (xs ++ ys)) (list_any-append (nat_eq x) xs ys) ∙ pick (list_any (nat_eq x) xs) h (λ e. twice_front xs ys e) where
  pick : (b : Bool) → (b || has_twice xs) ≡ true → (has_twice xs ≡ true → has_twice (xs ++ ys) ≡ true) → ((b || list_any (nat_eq x) ys) || has_twice (xs ++ ys)) ≡ true
  pick true h rest = refl
  pick false h rest = ap (λ b. list_any (nat_eq x) ys || b) (rest h) ∙ or_true (list_any (nat_eq x) ys) where
    or_true : (b : Bool) → (b || true) ≡ true
    or_true true = refl
    or_true false = refl

-- a number was there where none was added
pub seen_is : (added seen : Bool) → added ≡ not seen → seen ≡ not added
seen_is added true e = ap not (sym e)
seen_is added false e = ap not (sym e)

-- the slots that are filled
abbrev slots : List LFill → List ℕ
slots fills = map (λ x. x.slot) fills

slots_more : (fills : List LFill) (i : ℕ) (x : LFill) → i < length fills → x ≡ get_or fills i x → slots (take (i + 1) fills) ≡ slots (take i fills) ++ x.slot ∷ []
slots_more fills i x l is = map_more (λ (y : LFill). y.slot) fills i x l ∙ ap (λ y. slots (take i fills) ++ y.slot ∷ []) (sym is)

-- a slot that is filled already
pub found_twice : (fills : List LFill) (i : ℕ) (x : LFill) → i < length fills → x ≡ get_or fills i x → list_any (nat_eq x.slot) (slots (take i fills)) ≡ true → has_twice (slots fills) ≡ true
found_twice fills i x l is seen =
    let front : has_twice (slots (take (i + 1) fills)) ≡ true =
    ap has_twice (slots_more fills i x l is) ∙ (twice_push (slots (take i fills)) x.slot ∙ ap (λ b. b || has_twice (slots (take i fills))) seen) in
    ap (λ xs. has_twice (slots xs)) (sym (take-append-drop (i + 1) fills))
    ∙ (ap has_twice (map-append (λ (y : LFill). y.slot) (take (i + 1) fills) (drop (i + 1) fills)) ∙ twice_front (slots (take (i + 1) fills)) (slots (drop (i + 1) fills)) front)

-- a slot that is not filled yet
pub once_more : (fills : List LFill) (i : ℕ) (x : LFill) → i < length fills → x ≡ get_or fills i x → list_any (nat_eq x.slot) (slots (take i fills)) ≡ false → has_twice (slots (take i fills)) ≡ false →
    has_twice (slots (take (i + 1) fills)) ≡ false
once_more fills i x l is new once =
    ap has_twice (slots_more fills i x l is) ∙ (twice_push (slots (take i fills)) x.slot ∙ (ap (λ b. b || has_twice (slots (take i fills))) new ∙ once))

-- which slots are filled with one more
pub filled_more : (fills : List LFill) (i : ℕ) (x : LFill) (q : ℕ) → i < length fills → x ≡ get_or fills i x →
    list_any (nat_eq q) (slots (take (i + 1) fills)) ≡ cond (nat_eq x.slot q) true (list_any (nat_eq q) (slots (take i fills)))
filled_more fills i x q l is =
    ap (list_any (nat_eq q)) (slots_more fills i x l is) ∙ (list_any-append (nat_eq q) (slots (take i fills)) (x.slot ∷ [])
    ∙ (ap (λ b. list_any (nat_eq q) (slots (take i fills)) || (b || false)) (nat_eq-comm q x.slot) ∙ pick (list_any (nat_eq q) (slots (take i fills))) (nat_eq x.slot q))) where
      pick : (a b : Bool) → (a || (b || false)) ≡ cond b true a
      pick true true = refl
      pick true false = refl
      pick false true = refl
      pick false false = refl
