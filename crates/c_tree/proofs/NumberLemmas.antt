-- The numbers of names in a list, and of one name more.
use Rattle.std.proofs.Common.{◌≡◌, ℕ, suc, ◌+◌, Bool, true, false, cond, List, [], ◌∷◌, ◌++◌, length, Option, Some, None, refl, sym, ◌∙◌, ap, subst, nat_eq, arith}
use Rattle.std.specs.Option.{option_or}
use Rattle.std.specs.List.{position_from}
use Rattle.std.specs.Cmp.Lexicographic.{pointwise, same_text, other_text}
use Rattle.indexmap.specs.IndexMap.{get}
use Rattle.c_tree.specs.Numbers.{Numbers, GivesNumbers}
use Rattle.c_tree.specs.Names.{find_name}

pub position_from-more : {X : Type 0} (p : X → Bool) (i : ℕ) (xs : List X) (x : X) →
    position_from p i (xs ++ x ∷ []) ≡ option_or (position_from p i xs) (cond (p x) (Some (i + length xs)) None)
position_from-more p i [] x = let e : i ≡ i + 0 = omega arith in ap (λ n. cond (p x) (Some n) None) e
position_from-more p i (y ∷ ys) x = pick (p y) (position_from-more p (i + 1) ys x) where
  pick : (b : Bool) → position_from p (i + 1) (ys ++ x ∷ []) ≡ option_or (position_from p (i + 1) ys) (cond (p x) (Some (i + 1 + length ys)) None) →
      cond b (Some i) (position_from p (i + 1) (ys ++ x ∷ [])) ≡ option_or (cond b (Some i) (position_from p (i + 1) ys)) (cond (p x) (Some (i + suc (length ys))) None)
  pick true e = refl
  pick false e = let n : i + 1 + length ys ≡ i + suc (length ys) = omega arith in e ∙ ap (λ k. option_or (position_from p (i + 1) ys) (cond (p x) (Some k) None)) n

pub find_name-more : (name : List ℕ) (xs : List (List ℕ)) (x : List ℕ) → find_name name (xs ++ x ∷ []) ≡ option_or (find_name name xs) (cond (pointwise nat_eq name x) (Some (length xs)) None)
find_name-more name xs x = let e : 0 + length xs ≡ length xs = omega arith in
    position_from-more (pointwise nat_eq name) 0 xs x ∙ ap (λ k. option_or (find_name name xs) (cond (pointwise nat_eq name x) (Some k) None)) e

-- the name at the end was there
pub number_before : (t : Numbers) (xs : List (List ℕ)) (x : List ℕ) (k : ℕ) → GivesNumbers t xs → get (pointwise nat_eq) t x ≡ Some k → GivesNumbers t (xs ++ x ∷ [])
number_before t xs x k gives was name = gives name ∙ (same (find_name name xs) (pointwise nat_eq name x) refl (gives name) ∙ sym (find_name-more name xs x)) where
  same : (o : Option ℕ) (b : Bool) → b ≡ pointwise nat_eq name x → get (pointwise nat_eq) t name ≡ o → o ≡ option_or o (cond b (Some (length xs)) None)
  same (Some y) b e is = refl
  same None false e is = refl
  same None true e is =
      absurd (let h : None ≡ Some k = sym is ∙ subst (λ n. get (pointwise nat_eq) t n ≡ Some k) (sym (same_text name x e)) was in let no : ⊥ = cc in no)

-- the name at the end is new
pub number_now : (t n : Numbers) (key : List ℕ) (xs : List (List ℕ)) (x : List ℕ) (k : ℕ) → GivesNumbers t xs → get (pointwise nat_eq) t x ≡ None → key ≡ x → k ≡ length xs →
    ((q : List ℕ) → get (pointwise nat_eq) n q ≡ cond (pointwise nat_eq key q) (Some k) (get (pointwise nat_eq) t q)) → GivesNumbers n (xs ++ x ∷ [])
number_now t n key xs x k gives absent is at updates name =
    subst (λ z. get (pointwise nat_eq) n name ≡ cond (pointwise nat_eq z name) (Some k) (get (pointwise nat_eq) t name)) is (updates name)
    ∙ (ap (λ z. cond (pointwise nat_eq x name) (Some z) (get (pointwise nat_eq) t name)) at
    ∙ (same (find_name name xs) (pointwise nat_eq x name) (pointwise nat_eq name x) refl refl (gives name) ∙ sym (find_name-more name xs x))) where
      same : (o : Option ℕ) (b d : Bool) → b ≡ pointwise nat_eq x name → d ≡ pointwise nat_eq name x → get (pointwise nat_eq) t name ≡ o →
          cond b (Some (length xs)) (get (pointwise nat_eq) t name) ≡ option_or o (cond d (Some (length xs)) None)
      same None false false b d e = e
      same (Some y) false d' b d e = e
      same None true true b d e = refl
      same None true false b d e = absurd (other_text name x d (sym (same_text x name b)))
      same None false true b d e = absurd (other_text x name b (sym (same_text name x d)))
      same (Some y) true d' b d e =
          absurd (let h : get (pointwise nat_eq) t name ≡ None = subst (λ k. get (pointwise nat_eq) t k ≡ None) (same_text x name b) absent in let k : None ≡ Some y = sym h ∙ e in let no : ⊥ = cc in no)
