-- The first entry about each thing, with one entry more.
use Rattle.std.proofs.Common.{◌≡◌, ℕ, ◌+◌, ◌-◌, ◌<◌, ◌≤◌, suc, Bool, true, false, cond, List, [], ◌∷◌, ◌++◌, length, Option, Some, None, refl, sym, ◌∙◌, ap, subst, arith}
use Rattle.std.specs.Prelude.{◌&&◌, ◌==◌, find, slice_get}
use Rattle.std.specs.Option.{option_or}
use Rattle.std.specs.List.{position_from}
use Rattle.std.proofs.lemmas.Bool.{eqb-true, eq-eqb, false≢true}
use Rattle.indexmap.specs.IndexMap.{get}
use Rattle.c_tree.specs.declared.mapping.LEntry.{LEntry}
use Rattle.patch_match.proofs.AnyLemmas.{place_within}
use Rattle.c_tree.proofs.NumberLemmas.{position_from-more}
use Rattle.stack_map.specs.declared.entries.Subject.{Subject}
use Rattle.stack_map.specs.declared.entries.Subject.TheVariants as s
use Rattle.stack_map.specs.Subjects.{Table, GivesFirst, first_about, is_about, is_same, is_subject, subject_of}

-- two numbers of each
both_same : (a b c d : ℕ) → (a == c && b == d) ≡ true → (a ≡ c) × (b ≡ d)
both_same a b c d e = pick (a == c) (b == d) refl refl e where
  pick : (x y : Bool) → x ≡ (a == c) → y ≡ (b == d) → x && y ≡ true → (a ≡ c) × (b ≡ d)
  pick true true p q h = (eqb-true a c (sym p), eqb-true b d (sym q))
  pick true false p q h = absurd (false≢true h)
  pick false y p q h = absurd (false≢true h)

pub same_subject : (x y : Subject) → is_same x y ≡ true → x ≡ y
same_subject (s.Field a b) (s.Field c d) e = let r = both_same a b c d e in ap (λ z. s.Field z b) r.0 ∙ ap (λ z. s.Field c z) r.1
same_subject (s.Global a) (s.Global c) e = ap (λ z. s.Global z) (eqb-true a c e)
same_subject (s.Place a b) (s.Place c d) e = let r = both_same a b c d e in ap (λ z. s.Place z b) r.0 ∙ ap (λ z. s.Place c z) r.1
same_subject (s.Field a b) (s.Global c) e = absurd (false≢true e)
same_subject (s.Field a b) (s.Place c d) e = absurd (false≢true e)
same_subject (s.Global a) (s.Field c d) e = absurd (false≢true e)
same_subject (s.Global a) (s.Place c d) e = absurd (false≢true e)
same_subject (s.Place a b) (s.Field c d) e = absurd (false≢true e)
same_subject (s.Place a b) (s.Global c) e = absurd (false≢true e)

equal : (a : ℕ) → (a == a) ≡ true
equal a = eq-eqb a a refl

is_itself : (x : Subject) → is_same x x ≡ true
is_itself (s.Field a b) = ap (λ z. z && b == b) (equal a) ∙ equal b
is_itself (s.Global a) = equal a
is_itself (s.Place a b) = ap (λ z. z && b == b) (equal a) ∙ equal b

turned : (x y : Subject) → is_same x y ≡ true → is_same y x ≡ true
turned x y e = subst (λ z. is_same z x ≡ true) (same_subject x y e) (is_itself x)

same_turned : (x y : Subject) → is_same x y ≡ is_same y x
same_turned x y = pick (is_same x y) (is_same y x) refl refl where
  pick : (b d : Bool) → b ≡ is_same x y → d ≡ is_same y x → b ≡ d
  pick true true p q = refl
  pick false false p q = refl
  pick true false p q = absurd (false≢true (q ∙ turned x y (sym p)))
  pick false true p q = absurd (false≢true (p ∙ turned y x (sym q)))

-- the first about a thing, with one entry more
first_more : (x : Subject) (before : List LEntry) (e : LEntry) (o : Option Subject) → o ≡ subject_of e →
    position_from (is_about x) 0 (before ++ e ∷ []) ≡ option_or (position_from (is_about x) 0 before) (cond (is_subject x o) (Some (length before)) None)
first_more x before e o is = let n : 0 + length before ≡ length before = omega arith in
    position_from-more (is_about x) 0 before e
    ∙ (ap (λ k. option_or (position_from (is_about x) 0 before) (cond (is_about x e) (Some k) None)) n
    ∙ ap (λ p. option_or (position_from (is_about x) 0 before) (cond (is_subject x p) (Some (length before)) None)) (sym is))

-- the entry is about nothing
pub about_nothing : (t : Table) (before : List LEntry) (e : LEntry) → None ≡ subject_of e → GivesFirst t before → GivesFirst t (before ++ e ∷ [])
about_nothing t before e is gives x = gives x ∙ (pick (position_from (is_about x) 0 before) ∙ sym (first_more x before e None is)) where
  pick : (o : Option ℕ) → o ≡ option_or o None
  pick None = refl
  pick (Some k) = refl

-- an earlier entry is about the same
pub about_before : (t : Table) (before : List LEntry) (e : LEntry) (y : Subject) (k : ℕ) → Some y ≡ subject_of e → GivesFirst t before → get is_same t y ≡ Some k → GivesFirst t (before ++ e ∷ [])
about_before t before e y k is gives was x =
    gives x ∙ (same (position_from (is_about x) 0 before) (is_same x y) refl (gives x) ∙ sym (first_more x before e (Some y) is)) where
      same : (o : Option ℕ) (b : Bool) → b ≡ is_same x y → get is_same t x ≡ o → o ≡ option_or o (cond b (Some (length before)) None)
      same (Some z) b p at = refl
      same None false p at = refl
      same None true p at = absurd (let h : None ≡ Some k = sym at ∙ subst (λ z. get is_same t z ≡ Some k) (sym (same_subject x y (sym p))) was in let no : ⊥ = cc in no)

-- the entry is the first
pub about_now : (t n : Table) (before : List LEntry) (e : LEntry) (y : Subject) (at : ℕ) → Some y ≡ subject_of e → GivesFirst t before → get is_same t y ≡ None → at ≡ length before →
    ((q : Subject) → get is_same n q ≡ cond (is_same y q) (Some at) (get is_same t q)) → GivesFirst n (before ++ e ∷ [])
about_now t n before e y at is gives absent counts updates x =
    updates x
    ∙ (ap (λ b. cond b (Some at) (get is_same t x)) (same_turned y x)
    ∙ (ap (λ z. cond (is_same x y) (Some z) (get is_same t x)) counts
    ∙ (same (position_from (is_about x) 0 before) (is_same x y) refl (gives x) ∙ sym (first_more x before e (Some y) is)))) where
      same : (o : Option ℕ) (b : Bool) → b ≡ is_same x y → get is_same t x ≡ o → cond b (Some (length before)) (get is_same t x) ≡ option_or o (cond b (Some (length before)) None)
      same None false p h = h
      same (Some z) false p h = h
      same None true p h = refl
      same (Some z) true p h =
          absurd (let g : get is_same t x ≡ None = subst (λ k. get is_same t k ≡ None) (sym (same_subject x y (sym p))) absent in let k : None ≡ Some z = sym g ∙ h in let no : ⊥ = cc in no)

-- what stands at the first place that passes a test
found_at : {X : Type 0} (p : X → Bool) (k i : ℕ) (xs : List X) → position_from p k xs ≡ Some i → slice_get xs (i - k) ≡ find p xs
found_at p k i [] e = absurd (let no : ⊥ = cc in no)
found_at p k i (x ∷ xs) e = pick (p x) e (λ h. (found_at p (k + 1) i xs h, place_within p (k + 1) i xs h)) where
  pick : (b : Bool) → cond b (Some k) (position_from p (k + 1) xs) ≡ Some i →
      (position_from p (k + 1) xs ≡ Some i → (slice_get xs (i - (k + 1)) ≡ find p xs) × ((k + 1 ≤ i) × (i < k + 1 + length xs))) →
      slice_get (x ∷ xs) (i - k) ≡ cond b (Some x) (find p xs)
  pick true h rec = let s : k ≡ i = cc in let z : i - k ≡ 0 = omega arith in ap (λ n. slice_get (x ∷ xs) n) z
  pick false h rec = let r = rec h in let a : k + 1 ≤ i = r.1.0 in let z : i - k ≡ suc (i - (k + 1)) = omega arith in ap (λ n. slice_get (x ∷ xs) n) z ∙ r.0

absent_at : {X : Type 0} (p : X → Bool) (k : ℕ) (xs : List X) → position_from p k xs ≡ None → find p xs ≡ None
absent_at p k [] e = refl
absent_at p k (x ∷ xs) e = pick (p x) e (λ h. absent_at p (k + 1) xs h) where
  pick : (b : Bool) → cond b (Some k) (position_from p (k + 1) xs) ≡ None → (position_from p (k + 1) xs ≡ None → find p xs ≡ None) → cond b (Some x) (find p xs) ≡ None
  pick true h rec = absurd (let no : ⊥ = cc in no)
  pick false h rec = rec h

-- the first entry about a thing that a table has
pub first_in : (t : Table) (es : List LEntry) (x : Subject) (k : ℕ) → GivesFirst t es → get is_same t x ≡ Some k → slice_get es k ≡ first_about x es
first_in t es x k gives is = let z : k ≡ k - 0 = omega arith in ap (λ n. slice_get es n) z ∙ found_at (is_about x) 0 k es (sym (gives x) ∙ is)

-- there is none where the table has none
pub first_absent : (t : Table) (es : List LEntry) (x : Subject) → GivesFirst t es → get is_same t x ≡ None → first_about x es ≡ None
first_absent t es x gives is = absent_at (is_about x) 0 es (sym (gives x) ∙ is)
