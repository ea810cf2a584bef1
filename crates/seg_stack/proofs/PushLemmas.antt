-- An activation that is pushed behind the innermost one, or at the start of the next segment.
use Rattle.std.proofs.Common.{◌≡◌, ℕ, zero, suc, ◌+◌, ◌*◌, ◌<◌, ◌≤◌, ℤ, pos, List, [], ◌∷◌, length, take, refl, sym, ap, ◌∙◌, subst, arith}
use Rattle.std.proofs.lemmas.List.{length-replicate}
use Rattle.target_code.specs.declared.activation.Activation.{Activation}
use Rattle.target_code.specs.Stack.{blank}
use Rattle.seg_stack.specs.Layout.{size_at, below_at, act_at, rest_words, rest_older, rest_end, frames_at, total, Lies, IsLaid}
use Rattle.seg_stack.proofs.LaidLemmas.{laid-take, frames-take}

pub nothing-before : {A : Type 0} (x : A) (xs : List A) → x ∷ xs ≡ [] → ⊥
nothing-before x xs e = let n : suc (length xs) ≡ 0 = ap length e in omega (arith, n)

rest_older-none : (older : List (List ℤ)) → older ≡ [] → rest_older older 0 ≡ []
rest_older-none [] e = refl
rest_older-none (o ∷ older) e = absurd (nothing-before o older e)

rest_end-none : (m : List ℤ) (older : List (List ℤ)) → older ≡ [] → rest_end m older 0 ≡ 0
rest_end-none m [] e = refl
rest_end-none m (o ∷ older) e = absurd (nothing-before o older e)

-- the segment m has a new activation with k slots at a place
pub record IsNew (m : List ℤ) (end f k at : ℕ) : Type 0 where
  pub act : act_at m end ≡ blank f k
  pub size : size_at m end ≡ k
  pub outside : below_at m end ≡ at
  pub few : k ≤ 128

new-lies : (m : List ℤ) (end f k at : ℕ) → IsNew m end f k at → end + (k + 4) ≤ 4096 → Lies m end (end + (k + 4))
new-lies m end f k at x h = record {
  size = x.size ∙ sym (length-replicate k (pos 0)) ∙ ap (λ (a : Activation). length a.slots) (sym x.act);
  ends = ap (λ n. end + (n + 4)) x.size;
  few = subst (λ n. n ≤ 128) (sym x.size) x.few;
  within = h;
}

-- the words of the activations with the new one
pub new-total : (f k : ℕ) (fs : List Activation) → total (blank f k ∷ fs) ≡ (k + 4) + total fs
unfolding total
new-total f k fs = ap (λ n. (n + 4) + total fs) (length-replicate k (pos 0))

pub full : (n : ℕ) (l : List ℤ) (older : List (List ℤ)) (at end : ℕ) → IsLaid n l older at end → 3964 * length older + end ≤ total (frames_at n l older at)
unfolding IsLaid frames_at total
full zero l older at end x = let e : length older ≡ 0 = ap length x.0 in omega (arith, e, x.1)
full (suc n) l older at end x = x.1

pub ends-within : (n : ℕ) (l : List ℤ) (older : List (List ℤ)) (at end : ℕ) → IsLaid n l older at end → end ≤ 4096
unfolding IsLaid
ends-within zero l older at end x = omega (arith, x.1)
ends-within (suc n) l older at end x = x.0.within

module _ (l m : List ℤ) (older : List (List ℤ)) (at f k : ℕ) where
  -- what lies outside the new activation
  outside-frames : (n end : ℕ) → IsLaid n l older at end → below_at m end ≡ at → take end m ≡ take end l
      → frames_at n (rest_words m older end) (rest_older older end) (below_at m end) ≡ frames_at n l older at
  unfolding IsLaid frames_at
  outside-frames zero end x e t = refl
  outside-frames (suc n) zero x e t = absurd (omega (arith, x.0.ends))
  outside-frames (suc n) (suc end) x e t =
      ap (λ (w : List ℤ). frames_at (suc n) w older (below_at m (suc end))) t
      ∙ ap (λ b. frames_at (suc n) (take (suc end) l) older b) e
      ∙ frames-take l older at (suc end) (suc end) (omega arith) (suc n) x

  outside-laid : (n end : ℕ) → IsLaid n l older at end → below_at m end ≡ at → take end m ≡ take end l
      → IsLaid n (rest_words m older end) (rest_older older end) (below_at m end) (rest_end m older end)
  unfolding IsLaid
  outside-laid zero zero x e t = (rest_older-none older x.0, rest_end-none m older x.0)
  outside-laid zero (suc end) x e t = absurd (omega (arith, x.1))
  outside-laid (suc n) zero x e t = absurd (omega (arith, x.0.ends))
  outside-laid (suc n) (suc end) x e t =
      subst (λ b. IsLaid (suc n) (take (suc end) m) older b (suc end)) (sym e)
      (subst (λ (w : List ℤ). IsLaid (suc n) w older at (suc end)) (sym t)
      (laid-take l older at (suc end) (suc end) (omega arith) (suc n) x))

  pub pushed-frames : (n end : ℕ) → IsLaid n l older at end → IsNew m end f k at → take end m ≡ take end l
      → frames_at (suc n) m older end ≡ blank f k ∷ frames_at n l older at
  unfolding frames_at
  pushed-frames n end x new t =
      ap (λ (a : Activation). a ∷ frames_at n (rest_words m older end) (rest_older older end) (below_at m end)) new.act
      ∙ ap (λ (fs : List Activation). blank f k ∷ fs) (outside-frames n end x new.outside t)

  pub pushed-laid : (n end : ℕ) → IsLaid n l older at end → IsNew m end f k at → take end m ≡ take end l → end + (k + 4) ≤ 4096
      → IsLaid (suc n) m older end (end + (k + 4))
  unfolding IsLaid
  pushed-laid n end x new t h =
      let grown : total (frames_at (suc n) m older end) ≡ (k + 4) + total (frames_at n l older at) = ap total (pushed-frames n end x new t) ∙ new-total f k (frames_at n l older at) in
      (new-lies m end f k at new h, omega (arith, grown, full n l older at end x), outside-laid n end x new.outside t)

  pub next-frames : (n : ℕ) → IsNew m 0 f k at → frames_at (suc n) m (l ∷ older) 0 ≡ blank f k ∷ frames_at n l older at
  unfolding frames_at
  next-frames n new =
      ap (λ (a : Activation). a ∷ frames_at n l older (below_at m 0)) new.act
      ∙ ap (λ b. blank f k ∷ frames_at n l older b) new.outside

  ends-there : (n end : ℕ) → IsLaid n l older at end → 0 < end → at + (size_at l at + 4) ≡ end
  unfolding IsLaid
  ends-there zero end x h = absurd (omega (arith, x.1, h))
  ends-there (suc n) end x h = x.0.ends

  pub next-laid : (n end : ℕ) → IsLaid n l older at end → IsNew m 0 f k at → 4096 < end + (k + 4) → IsLaid (suc n) m (l ∷ older) 0 (k + 4)
  unfolding IsLaid
  next-laid n end x new h =
      let grown : total (frames_at (suc n) m (l ∷ older) 0) ≡ (k + 4) + total (frames_at n l older at) = ap total (next-frames n new) ∙ new-total f k (frames_at n l older at) in
      let few = new.few in
      let e : rest_end m (l ∷ older) 0 ≡ end = ap (λ b. b + (size_at l b + 4)) new.outside ∙ ends-there n end x (omega (arith, h, few)) in
      let long : length (l ∷ older) ≡ length older + 1 = omega arith in
      let z : 0 + (k + 4) ≡ k + 4 = omega arith in (
        subst (λ y. Lies m 0 y) z (new-lies m 0 f k at new (omega (arith, few))),
        omega (arith, grown, long, h, few, full n l older at end x),
        subst (λ y. IsLaid n l older (below_at m 0) y) (sym e) (subst (λ b. IsLaid n l older b end) (sym new.outside) x),
      )
