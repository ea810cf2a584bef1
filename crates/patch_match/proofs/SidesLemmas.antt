-- What is said of one kind, with one claim more.
use Rattle.std.proofs.Common.{◌≡◌, ℕ, ◌<◌, Bool, true, false, cond, List, [], ◌∷◌, ◌++◌, length, Option, Some, None, refl, sym, ◌∙◌, ap, subst}
use Rattle.std.specs.Prelude.{◌&&◌, ◌||◌, ◌==◌, if◌then◌else◌, find, replicate, slice_set, slice_index_or}
use Rattle.std.specs.List.{list_any}
use Rattle.std.specs.Option.{option_or}
use Rattle.std.proofs.lemmas.Bool.{eqb-true, eqb-false}
use Rattle.std.proofs.lemmas.List.{length-set, length-replicate, get_or-set_same, get_or-set_other, get_or-replicate}
use Rattle.std.proofs.lemmas.List.Folds.{list_any-append, find-append}
use Rattle.c_tree.specs.Names.{is_number}
use Rattle.c_tree.specs.Link.{Claim}
use Rattle.patch_match.specs.declared.sides.Said.{Said}
use Rattle.patch_match.specs.declared.sides.Said.TheVariants.{Nothing}
use Rattle.patch_match.specs.declared.sides.Sides.{Sides}
use Rattle.patch_match.specs.Sides.{Tells, and, claim, said_by, said_in, named_in, with_said, with_named}

said_more : (claims : List Claim) (c : Claim) (i : ℕ) →
    said_in (claims ++ c ∷ []) i ≡ (if is_number c.old i then and (said_in claims i) c.new c.stands else said_in claims i)
said_more claims c i =
    ap (λ b. said_by b (find (λ x. is_number x.old i && x.stands) (claims ++ c ∷ []))) (list_any-append (λ x. is_number x.old i) claims (c ∷ []))
    ∙ (ap (λ o. said_by (list_any (λ x. is_number x.old i) claims || (is_number c.old i || false)) o) (find-append (λ x. is_number x.old i && x.stands) claims (c ∷ []))
    ∙ pick (is_number c.old i) c.stands (list_any (λ x. is_number x.old i) claims) (find (λ x. is_number x.old i && x.stands) claims)) where
      pick : (m s b : Bool) (o : Option Claim) →
          said_by (b || (m || false)) (option_or o (cond (m && s) (Some c) None)) ≡ (if m then and (said_by b o) c.new s else said_by b o)
      pick false s true None = refl
      pick false s false None = refl
      pick false s true (Some d) = refl
      pick false s false (Some d) = refl
      pick true s true (Some d) = refl
      pick true s false (Some d) = refl
      pick true true true None = refl
      pick true true false None = refl
      pick true false true None = refl
      pick true false false None = refl

named_more : (claims : List Claim) (c : Claim) (j : ℕ) → named_in (claims ++ c ∷ []) j ≡ (if is_number c.new j then true else named_in claims j)
named_more claims c j =
    list_any-append (λ x. is_number x.new j) claims (c ∷ []) ∙ pick (is_number c.new j) (named_in claims j) where
      pick : (m b : Bool) → b || (m || false) ≡ (if m then true else b)
      pick true true = refl
      pick true false = refl
      pick false true = refl
      pick false false = refl

said_at : (xs : List Said) (o : Option ℕ) (f : Said → Said) (i : ℕ) → i < length xs →
    slice_index_or (with_said xs o f) i Nothing ≡ (if is_number o i then f (slice_index_or xs i Nothing) else slice_index_or xs i Nothing)
said_at xs None f i h = refl
said_at xs (Some a) f i h = pick (a == i) refl where
  pick : (b : Bool) → b ≡ (a == i) →
      slice_index_or (slice_set xs a (f (slice_index_or xs a Nothing))) i Nothing ≡ (if b then f (slice_index_or xs i Nothing) else slice_index_or xs i Nothing)
  pick true e = let same : a ≡ i = eqb-true a i (sym e) in
      subst (λ k. slice_index_or (slice_set xs k (f (slice_index_or xs k Nothing))) i Nothing ≡ f (slice_index_or xs i Nothing)) (sym same)
      (get_or-set_same xs i (f (slice_index_or xs i Nothing)) Nothing h)
  pick false e = get_or-set_other xs a i (f (slice_index_or xs a Nothing)) Nothing (λ k. eqb-false a i (sym e) (sym k))

named_at : (xs : List Bool) (o : Option ℕ) (i : ℕ) → i < length xs →
    slice_index_or (with_named xs o) i false ≡ (if is_number o i then true else slice_index_or xs i false)
named_at xs None i h = refl
named_at xs (Some a) i h = pick (a == i) refl where
  pick : (b : Bool) → b ≡ (a == i) → slice_index_or (slice_set xs a true) i false ≡ (if b then true else slice_index_or xs i false)
  pick true e = let same : a ≡ i = eqb-true a i (sym e) in
      subst (λ k. slice_index_or (slice_set xs k true) i false ≡ true) (sym same) (get_or-set_same xs i true false h)
  pick false e = get_or-set_other xs a i true false (λ k. eqb-false a i (sym e) (sym k))

said_length : (xs : List Said) (o : Option ℕ) (f : Said → Said) → length (with_said xs o f) ≡ length xs
said_length xs None f = refl
said_length xs (Some a) f = length-set xs a (f (slice_index_or xs a Nothing))

named_length : (xs : List Bool) (o : Option ℕ) → length (with_named xs o) ≡ length xs
named_length xs None = refl
named_length xs (Some a) = length-set xs a true

-- a claim that is noted is told
pub told : (s t : Sides) (old new : Option ℕ) (stands : Bool) (claims : List Claim) (n m : ℕ) →
    t.said.items ≡ with_said s.said.items old (λ x. and x new stands) → t.named.items ≡ with_named s.named.items new →
    Tells s claims n m → Tells t (claims ++ claim old new stands ∷ []) n m
told s t old new stands claims n m e f h = record {
  olds = ap length e ∙ (said_length s.said.items old (λ x. and x new stands) ∙ h.olds);
  news = ap length f ∙ (named_length s.named.items new ∙ h.news);
  said = λ i lt.
      ap (λ xs. slice_index_or xs i Nothing) e
      ∙ (said_at s.said.items old (λ x. and x new stands) i (subst (λ k. i < k) (sym h.olds) lt)
      ∙ (ap (λ x. if is_number old i then and x new stands else x) (h.said i lt)
      ∙ sym (said_more claims (claim old new stands) i)));
  named = λ j lt.
      ap (λ xs. slice_index_or xs j false) f
      ∙ (named_at s.named.items new j (subst (λ k. j < k) (sym h.news) lt)
      ∙ (ap (λ b. if is_number new j then true else b) (h.named j lt)
      ∙ sym (named_more claims (claim old new stands) j)));
}

-- no claim says nothing
pub told_nothing : (s : Sides) (n m : ℕ) → s.said.items ≡ replicate n Nothing → s.named.items ≡ replicate m false → Tells s [] n m
told_nothing s n m e f = record {
  olds = ap length e ∙ length-replicate n Nothing;
  news = ap length f ∙ length-replicate m false;
  said = λ i lt. ap (λ xs. slice_index_or xs i Nothing) e ∙ get_or-replicate n i Nothing Nothing lt;
  named = λ j lt. ap (λ xs. slice_index_or xs j false) f ∙ get_or-replicate m j false false lt;
}

-- a claim of equal parts
pub told_as : (t : Sides) (claims : List Claim) (i x j y : Option ℕ) (a b : Bool) (n m : ℕ) → i ≡ x → j ≡ y → a ≡ b →
    Tells t (claims ++ claim i j a ∷ []) n m → Tells t (claims ++ claim x y b ∷ []) n m
told_as t claims i x j y a b n m e f g h =
    subst (λ z. Tells t (claims ++ claim x y z ∷ []) n m) g
    (subst (λ z. Tells t (claims ++ claim x z a ∷ []) n m) f (subst (λ z. Tells t (claims ++ claim z j a ∷ []) n m) e h))
