-- Which old things new ones are the matches of, with one match more.
use Rattle.std.proofs.Common.{◌≡◌, ℕ, ◌+◌, ◌<◌, ◌≤◌, Bool, true, false, cond, List, [], ◌∷◌, ◌++◌, length, take, get_or, Option, Some, None, refl, sym, ◌∙◌, ap, subst, nat_eq, arith}
use Rattle.std.specs.Option.{option_or}
use Rattle.std.proofs.lemmas.Bool.{eqb-true}
use Rattle.std.proofs.lemmas.List.{take_more, length-take-le}
use Rattle.indexmap.specs.IndexMap.{get}
use Rattle.c_tree.specs.Names.{is_number}
use Rattle.c_tree.specs.Link.{origin}
use Rattle.patch_match.specs.Origins.{Origins, GivesOrigins}
use Rattle.c_tree.proofs.NumberLemmas.{position_from-more}

origin-more : (found : List (Option ℕ)) (o : Option ℕ) (j : ℕ) → origin (found ++ o ∷ []) j ≡ option_or (origin found j) (cond (is_number o j) (Some (length found)) None)
origin-more found o j = let e : 0 + length found ≡ length found = omega arith in
    position_from-more (λ x. is_number x j) 0 found o ∙ ap (λ k. option_or (origin found j) (cond (is_number o j) (Some k) None)) e

-- an old thing has no match
pub origin_none : (t : Origins) (found : List (Option ℕ)) → GivesOrigins t found → GivesOrigins t (found ++ None ∷ [])
origin_none t found gives j = gives j ∙ (pick (origin found j) ∙ sym (origin-more found None j)) where
  pick : (o : Option ℕ) → o ≡ option_or o None
  pick None = refl
  pick (Some x) = refl

-- its match is that of an earlier one
pub origin_before : (t : Origins) (found : List (Option ℕ)) (side k : ℕ) → GivesOrigins t found → get nat_eq t side ≡ Some k → GivesOrigins t (found ++ Some side ∷ [])
origin_before t found side k gives was j = gives j ∙ (same (origin found j) (nat_eq side j) refl (gives j) ∙ sym (origin-more found (Some side) j)) where
  same : (o : Option ℕ) (b : Bool) → b ≡ nat_eq side j → get nat_eq t j ≡ o → o ≡ option_or o (cond b (Some (length found)) None)
  same (Some y) b e is = refl
  same None false e is = refl
  same None true e is = absurd (let h : None ≡ Some k = sym is ∙ subst (λ n. get nat_eq t n ≡ Some k) (eqb-true side j (sym e)) was in let no : ⊥ = cc in no)

-- it is the first
pub origin_now : (t n : Origins) (found : List (Option ℕ)) (side at : ℕ) → GivesOrigins t found → get nat_eq t side ≡ None → at ≡ length found →
    ((q : ℕ) → get nat_eq n q ≡ cond (nat_eq side q) (Some at) (get nat_eq t q)) → GivesOrigins n (found ++ Some side ∷ [])
origin_now t n found side at gives absent is updates j =
    updates j
    ∙ (ap (λ z. cond (nat_eq side j) (Some z) (get nat_eq t j)) is
    ∙ (same (origin found j) (nat_eq side j) refl (gives j) ∙ sym (origin-more found (Some side) j))) where
      same : (o : Option ℕ) (b : Bool) → b ≡ nat_eq side j → get nat_eq t j ≡ o → cond b (Some (length found)) (get nat_eq t j) ≡ option_or o (cond b (Some (length found)) None)
      same None false e h = h
      same (Some y) false e h = h
      same None true e h = refl
      same (Some y) true e h =
          absurd (let g : get nat_eq t j ≡ None = subst (λ k. get nat_eq t k ≡ None) (eqb-true side j (sym e)) absent in let k : None ≡ Some y = sym g ∙ h in let no : ⊥ = cc in no)

-- the matches before, one further
pub origins_more : (t : Origins) (found : List (Option ℕ)) (i : ℕ) → i < length found → GivesOrigins t (take i found ++ get_or found i None ∷ []) → GivesOrigins t (take (i + 1) found)
origins_more t found i lt gives = subst (λ xs. GivesOrigins t xs) (sym (take_more found i None lt)) gives

-- how many matches are before
pub count_before : (found : List (Option ℕ)) (i at : ℕ) → i < length found → at ≡ i → at ≡ length (take i found)
count_before found i at lt e = let le : i ≤ length found = omega arith in e ∙ sym (length-take-le i found le)
