-- Activations that follow one another in segments: what stays where one is pushed or popped.
use Rattle.std.proofs.Common.{◌≡◌, ℕ, zero, suc, ◌+◌, ◌-◌, ◌*◌, ◌<◌, ◌≤◌, ℤ, pos, List, [], ◌∷◌, length, take, drop, refl, sym, ap, ◌∙◌, subst, arith, w32}
use Rattle.std.specs.Int.{cast_unsigned}
use Rattle.std.proofs.lemmas.List.{get_or-take, drop-take}
use Rattle.target_code.specs.declared.activation.Activation.{Activation}
use Rattle.target_code.specs.Target.{top_of, below_of}
use Rattle.seg_stack.specs.Layout.{word_at, size_at, below_at, act_at, rest_words, rest_older, rest_end, frames_at, total, Lies, IsLaid}
use Rattle.seg_stack.proofs.LayoutLemmas.{take-take}

-- there are so many activations
pub frames-length : (n : ℕ) (w : List ℤ) (o : List (List ℤ)) (at : ℕ) → length (frames_at n w o at) ≡ n
unfolding frames_at
frames-length zero w o at = refl
frames-length (suc n) w o at = ap suc (frames-length n (rest_words w o at) (rest_older o at) (below_at w at))

-- the innermost activation
pub top-is : (n : ℕ) (w : List ℤ) (o : List (List ℤ)) (at : ℕ) → 0 < n → top_of (frames_at n w o at) ≡ act_at w at
unfolding frames_at
top-is zero w o at h = absurd (omega (arith, h))
top-is (suc n) w o at h = refl

-- each activation takes four words at least
pub total-least : (fs : List Activation) → 4 * length fs ≤ total fs
unfolding total
total-least [] = omega arith
total-least (a ∷ fs) = omega (arith, total-least fs)

-- two segments that say the same of an activation, but for the values of its slots
pub record Alike (l m : List ℤ) (older : List (List ℤ)) (at : ℕ) : Type 0 where
  pub long : length (act_at l at).slots ≡ length (act_at m at).slots
  pub size : size_at l at ≡ size_at m at
  pub below : below_at l at ≡ below_at m at
  pub rest : rest_words l older at ≡ rest_words m older at

rest_end-alike : (l m : List ℤ) (older : List (List ℤ)) (at : ℕ) → below_at l at ≡ below_at m at → rest_end l older at ≡ rest_end m older at
rest_end-alike l m older (suc at) e = refl
rest_end-alike l m (o ∷ older) zero e = ap (λ b. b + (size_at o b + 4)) e
rest_end-alike l m [] zero e = refl

module _ (n : ℕ) (l m : List ℤ) (older : List (List ℤ)) (at : ℕ) (a : Alike l m older at) where
  -- the activations outside are the same
  pub alike-rest : frames_at n (rest_words l older at) (rest_older older at) (below_at l at) ≡ frames_at n (rest_words m older at) (rest_older older at) (below_at m at)
  alike-rest =
      ap (λ (w : List ℤ). frames_at n w (rest_older older at) (below_at l at)) a.rest
      ∙ ap (λ b. frames_at n (rest_words m older at) (rest_older older at) b) a.below

  pub alike-below : below_of (frames_at (suc n) l older at) ≡ below_of (frames_at (suc n) m older at)
  unfolding frames_at
  alike-below = alike-rest

  -- they take as many words
  pub alike-total : total (frames_at (suc n) l older at) ≡ total (frames_at (suc n) m older at)
  unfolding frames_at total
  alike-total =
      ap (λ k. (k + 4) + total (frames_at n (rest_words l older at) (rest_older older at) (below_at l at))) a.long
      ∙ ap (λ (fs : List Activation). (length (act_at m at).slots + 4) + total fs) alike-rest

  alike-lies : (end : ℕ) → Lies l at end → Lies m at end
  alike-lies end x = record {
    size = sym a.size ∙ x.size ∙ a.long;
    ends = subst (λ k. at + (k + 4) ≡ end) a.size x.ends;
    few = subst (λ k. k ≤ 128) a.size x.few;
    within = x.within;
  }

  pub alike-laid : (end : ℕ) → IsLaid (suc n) l older at end → IsLaid (suc n) m older at end
  unfolding IsLaid
  alike-laid end x = (
    alike-lies end x.0,
    subst (λ t. 3964 * length older + end ≤ t) alike-total x.1,
    subst (λ e. IsLaid n (rest_words m older at) (rest_older older at) (below_at m at) e) (rest_end-alike l m older at a.below)
        (subst (λ b. IsLaid n (rest_words m older at) (rest_older older at) b (rest_end l older at)) a.below
        (subst (λ (w : List ℤ). IsLaid n w (rest_older older at) (below_at l at) (rest_end l older at)) a.rest x.2)),
  )

rest-take : (l : List ℤ) (older : List (List ℤ)) (at a : ℕ) → at ≤ a → rest_words (take a l) older at ≡ rest_words l older at
rest-take l older (suc at) a h = take-take (suc at) a l h
rest-take l (o ∷ older) zero a h = refl
rest-take l [] zero a h = refl

module _ (l : List ℤ) (older : List (List ℤ)) (at a : ℕ) where
  word-take : (i : ℕ) → i < a → word_at (take a l) i ≡ word_at l i
  word-take i h = ap (λ z. cast_unsigned w32 z) (get_or-take a l i (pos 0) h)

  slots-take : (n : ℕ) → at + (n + 4) ≤ a → take n (drop (at + 4) (take a l)) ≡ take n (drop (at + 4) l)
  slots-take n h =
      let e : (at + 4) + (a - (at + 4)) ≡ a = omega (arith, h) in
      ap (λ (w : List ℤ). take n w) (subst (λ k. drop (at + 4) (take k l) ≡ take (a - (at + 4)) (drop (at + 4) l)) e (drop-take (at + 4) (a - (at + 4)) l))
      ∙ take-take n (a - (at + 4)) (drop (at + 4) l) (omega (arith, h))

  pub act-take : at + (size_at l at + 4) ≤ a → act_at (take a l) at ≡ act_at l at
  act-take h =
      let e1 = word-take at (omega (arith, h)) in let e2 = word-take (at + 1) (omega (arith, h)) in let e3 = word-take (at + 2) (omega (arith, h)) in
      ap (λ k. record (act_at (take a l) at) { function = k }) e1
      ∙ ap (λ k. record (act_at (take a l) at) { function = word_at l at; pc = k }) e2
      ∙ ap (λ (k : List ℤ). record { function = word_at l at; pc = word_at l (at + 1); slots = k })
      (ap (λ k. take k (drop (at + 4) (take a l))) e3 ∙ slots-take (size_at l at) h)

  pub take-alike : at + (size_at l at + 4) ≤ a → Alike (take a l) l older at
  take-alike h = record {
    long = ap (λ (x : Activation). length x.slots) (act-take h);
    size = word-take (at + 2) (omega (arith, h));
    below = word-take (at + 3) (omega (arith, h));
    rest = rest-take l older at a (omega (arith, h));
  }

  pub size-take : at + 4 ≤ a → size_at (take a l) at ≡ size_at l at
  size-take h = word-take (at + 2) (omega (arith, h))

flip : {l m : List ℤ} {older : List (List ℤ)} {at : ℕ} → Alike l m older at → Alike m l older at
flip a = record { long = sym a.long; size = sym a.size; below = sym a.below; rest = sym a.rest }

module _ (l : List ℤ) (older : List (List ℤ)) (at end a : ℕ) (h : end ≤ a) where
  -- what lies before a place is there in the words before it
  pub laid-take : (n : ℕ) → IsLaid n l older at end → IsLaid n (take a l) older at end
  unfolding IsLaid
  laid-take zero x = x
  laid-take (suc n) x = alike-laid n l (take a l) older at (flip (take-alike l older at a (omega (arith, h, x.0.ends)))) end x

  fits : (n : ℕ) → IsLaid (suc n) (take a l) older at end → at + (size_at l at + 4) ≤ a
  unfolding IsLaid
  fits n x =
      let e = size-take l older at a (omega (arith, h, x.0.ends)) in omega (arith, h, x.0.ends, e)

  pub laid-whole : (n : ℕ) → IsLaid n (take a l) older at end → IsLaid n l older at end
  unfolding IsLaid
  laid-whole zero x = x
  laid-whole (suc n) x = alike-laid n (take a l) l older at (take-alike l older at a (fits n x)) end x

  frames-alike : (n : ℕ) → at + (size_at l at + 4) ≤ a → frames_at (suc n) (take a l) older at ≡ frames_at (suc n) l older at
  unfolding frames_at
  frames-alike n k =
      ap (λ (x : Activation). x ∷ frames_at n (rest_words (take a l) older at) (rest_older older at) (below_at (take a l) at)) (act-take l older at a k)
      ∙ ap (λ (fs : List Activation). act_at l at ∷ fs) (alike-rest n (take a l) l older at (take-alike l older at a k))

  pub frames-whole : (n : ℕ) → IsLaid n (take a l) older at end → frames_at n (take a l) older at ≡ frames_at n l older at
  unfolding frames_at
  frames-whole zero x = refl
  frames-whole (suc n) x = frames-alike n (fits n x)

  pub frames-take : (n : ℕ) → IsLaid n l older at end → frames_at n (take a l) older at ≡ frames_at n l older at
  frames-take n x = frames-whole n (laid-take n x)
