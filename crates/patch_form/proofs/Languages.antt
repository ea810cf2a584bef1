-- A language whose words are made of two parts: what fails in a part fails in the whole.
use Rattle.std.proofs.Common.{◌≡◌, ℕ, ◌+◌, List, [], ◌∷◌, ◌++◌, length, take, refl, sym, ap, ◌∙◌, subst, append_assoc, arith}
use Rattle.std.proofs.lemmas.List.{append_cancel_left}
use Rattle.std.proofs.Math.Seq.{take-append-add}
use Rattle.patch_form.specs.declared.fault.FrameFault.{FrameFault}
use Rattle.patch_form.specs.declared.fault.FrameFault.TheVariants.{Short, BadHead}
use Rattle.patch_form.specs.Parts.{Begins, NoneGoesOn, IsCut, IsBad, IsFaultOf}

-- of the prefixes of bytes at most one is a word
abbrev pub HasOneAtFront : (List ℕ → Type 0) → Type 0
HasOneAtFront W = (a b xs ys : List ℕ) → W a → W b → a ++ xs ≡ b ++ ys → a ≡ b

-- the words are those of a first language, each followed by one that goes with it
pub record Joined (W First : List ℕ → Type 0) (Second : List ℕ → List ℕ → Type 0) : Type 0 where
  pub join : (a b : List ℕ) → First a → Second a b → W (a ++ b)
  pub split : (w : List ℕ) → W w → (a : List ℕ) × ((b : List ℕ) × (First a × Second a b × (w ≡ a ++ b)))
  pub goes_on : (a : List ℕ) → First a → (b : List ℕ) × Second a b
  pub once : HasOneAtFront First

append_empty : (xs ys : List ℕ) → xs ++ ys ≡ [] → xs ≡ []
append_empty [] ys e = refl
append_empty (x ∷ xs) ys e = absurd (cc)

module _ (W First : List ℕ → Type 0) (Second : List ℕ → List ℕ → Type 0) (j : Joined W First Second) where
  begins_first : (bytes : List ℕ) → Begins First bytes → Begins W bytes
  begins_first bytes (more, first) =
      let next = j.goes_on (bytes ++ more) first in
      (more ++ next.0, subst W (append_assoc bytes more next.0) (j.join (bytes ++ more) next.0 first next.1))

  cut_first : (bytes : List ℕ) → IsCut First bytes → IsCut W bytes
  cut_first bytes (more, some, first) =
      let next = j.goes_on (bytes ++ more) first in
      (more ++ next.0, λ e. some (append_empty more next.0 e), subst W (append_assoc bytes more next.0) (j.join (bytes ++ more) next.0 first next.1))

  none_first : (bytes : List ℕ) → NoneGoesOn First bytes → NoneGoesOn W bytes
  none_first bytes none word more rest w e =
      let parts = j.split word w in
      let a = parts.0 in
      let b = parts.1.0 in
      none a more (b ++ rest) parts.1.1.0 (e ∙ ap (λ l. l ++ rest) parts.1.1.2 ∙ append_assoc a b rest)

  pub fault_first : (start : ℕ) (bytes : List ℕ) (f : FrameFault) → IsFaultOf First start bytes f → IsFaultOf W start bytes f
  fault_first start bytes Short cut = cut_first bytes cut
  fault_first start bytes (BadHead at) (i, is, bad) =
      (i, is, (begins_first (take i bytes) bad.0, none_first (take (i + 1) bytes) bad.1))

  begins_second : (a bytes : List ℕ) → First a → Begins (Second a) bytes → Begins W (a ++ bytes)
  begins_second a bytes first (more, second) = (more, subst W (sym (append_assoc a bytes more)) (j.join a (bytes ++ more) first second))

  cut_second : (a bytes : List ℕ) → First a → IsCut (Second a) bytes → IsCut W (a ++ bytes)
  cut_second a bytes first (more, some, second) = (more, some, subst W (sym (append_assoc a bytes more)) (j.join a (bytes ++ more) first second))

  -- the second part of a word whose first part stands there
  after_first : (a b c xs ys : List ℕ) → First a → First b → a ++ xs ≡ (b ++ c) ++ ys → (a ≡ b) × (xs ≡ c ++ ys)
  after_first a b c xs ys fa fb e =
      let whole : a ++ xs ≡ b ++ (c ++ ys) = e ∙ append_assoc b c ys in
      let same = j.once a b xs (c ++ ys) fa fb whole in
      (same, append_cancel_left a xs (c ++ ys) (whole ∙ ap (λ l. l ++ (c ++ ys)) (sym same)))

  none_second : (a bytes : List ℕ) → First a → NoneGoesOn (Second a) bytes → NoneGoesOn W (a ++ bytes)
  none_second a bytes first none word more rest w e =
      let parts = j.split word w in
      let b = parts.0 in
      let c = parts.1.0 in
      let there = after_first a b c (bytes ++ more) rest first parts.1.1.0 (sym (append_assoc a bytes more) ∙ e ∙ ap (λ l. l ++ rest) parts.1.1.2) in
      none c more rest (subst (λ (x : List ℕ). Second x c) (sym there.0) parts.1.1.1) there.1

  bad_second : (a bytes : List ℕ) (i : ℕ) → First a → IsBad (Second a) i bytes → IsBad W (length a + i) (a ++ bytes)
  bad_second a bytes i first bad = (
    subst (Begins W) (sym (take-append-add a bytes i)) (begins_second a (take i bytes) first bad.0),
    subst (NoneGoesOn W) (sym (ap (λ n. take n (a ++ bytes)) further ∙ take-append-add a bytes (i + 1))) (none_second a (take (i + 1) bytes) first bad.1),
  )
    where
      further : length a + i + 1 ≡ length a + (i + 1)
      further = omega arith

  pub fault_second : (start mid : ℕ) (a rest bytes : List ℕ) (f : FrameFault) → First a → mid ≡ start + length a → bytes ≡ a ++ rest → IsFaultOf (Second a) mid rest f → IsFaultOf W start bytes f
  fault_second start mid a rest bytes Short first behind whole cut = subst (IsCut W) (sym whole) (cut_second a rest first cut)
  fault_second start mid a rest bytes (BadHead at) first behind whole (i, is, bad) =
      (length a + i, omega arith, subst (IsBad W (length a + i)) (sym whole) (bad_second a rest i first bad))

  pub once_joined : ((a : List ℕ) → First a → HasOneAtFront (Second a)) → HasOneAtFront W
  once_joined second a b xs ys wa wb e =
      let p = j.split a wa in
      let q = j.split b wb in
      let a₁ = p.0 in
      let a₂ = p.1.0 in
      let b₁ = q.0 in
      let b₂ = q.1.0 in
      let there = after_first a₁ b₁ b₂ (a₂ ++ xs) ys p.1.1.0 q.1.1.0 (sym (append_assoc a₁ a₂ xs) ∙ ap (λ l. l ++ xs) (sym p.1.1.2) ∙ e ∙ ap (λ l. l ++ ys) q.1.1.2) in
      let same = second a₁ p.1.1.0 a₂ b₂ xs ys p.1.1.1 (subst (λ (x : List ℕ). Second x b₂) (sym there.0) q.1.1.1) there.1 in
      p.1.1.2 ∙ ap (λ l. l ++ a₂) there.0 ∙ ap (λ l. b₁ ++ l) same ∙ sym q.1.1.2

-- bytes begin with a word, or have a fault
pub data Answer (W : List ℕ → Type 0) (bytes : List ℕ) : Type 0 where
  Whole : (a rest : List ℕ) → W a → bytes ≡ a ++ rest → Answer W bytes
  Fails : (f : FrameFault) → IsFaultOf W 0 bytes f → Answer W bytes

-- a fault is the same wherever the bytes stand
moved : (W : List ℕ → Type 0) (start : ℕ) (bytes : List ℕ) (f : FrameFault) → IsFaultOf W 0 bytes f → (g : FrameFault) × IsFaultOf W start bytes g
moved W start bytes Short cut = (Short, cut)
moved W start bytes (BadHead at) (i, is, bad) = (BadHead (start + i), (i, refl, bad))

pub answer_joined : (W First : List ℕ → Type 0) (Second : List ℕ → List ℕ → Type 0) → Joined W First Second → ((bytes : List ℕ) → Answer First bytes) → ((a : List ℕ) → First a → (bytes : List ℕ) → Answer (Second a) bytes) → (bytes : List ℕ) → Answer W bytes
answer_joined W First Second j first second bytes = by_first (first bytes)
  where
    by_second : (a rest : List ℕ) → First a → bytes ≡ a ++ rest → Answer (Second a) rest → Answer W bytes
    by_second a rest fa whole (Whole b more sb is) =
        Whole (a ++ b) more (j.join a b fa sb) (whole ∙ ap (λ l. a ++ l) is ∙ sym (append_assoc a b more))
    by_second a rest fa whole (Fails f fault) =
        let there = moved (Second a) (length a) rest f fault in
        Fails there.0 (fault_second W First Second j 0 (length a) a rest bytes there.0 fa (omega arith) whole there.1)

    by_first : Answer First bytes → Answer W bytes
    by_first (Whole a rest fa whole) = by_second a rest fa whole (second a fa rest)
    by_first (Fails f fault) = Fails f (fault_first W First Second j 0 bytes f fault)
