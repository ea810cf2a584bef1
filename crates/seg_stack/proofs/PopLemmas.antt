-- The activation outside the innermost one, and segments that are added.
use Rattle.std.proofs.Common.{◌≡◌, ℕ, zero, suc, ◌+◌, ◌-◌, ◌<◌, ◌≤◌, ℤ, List, [], ◌∷◌, ◌++◌, length, reverse, refl, sym, ap, ◌∙◌, subst, arith}
use Rattle.std.proofs.lemmas.List.{get_or_append_left, length-append, take-append-le}
use Rattle.target_code.specs.Stack.{words_of}
use Rattle.target_code.specs.Target.{below_of}
use Rattle.seg_stack.specs.Layout.{size_at, below_at, act_at, frames_at, total, IsLaid, nth, before, frames_in, IsStack}
use Rattle.seg_stack.proofs.LaidLemmas.{laid-whole, frames-whole}
use Rattle.seg_stack.proofs.StackLemmas.{before-length, before-more, innermost}

-- the activations outside the innermost one take the rest of the words
pub total-below : (n : ℕ) (w : List ℤ) (o : List (List ℤ)) (at : ℕ) → total (frames_at (suc n) w o at) ≡ words_of (act_at w at) + total (below_of (frames_at (suc n) w o at))
unfolding frames_at total
total-below n w o at = refl

-- in the same segment
pub popped-laid : (n : ℕ) (l : List ℤ) (older : List (List ℤ)) (at end : ℕ) → 0 < at → IsLaid (suc n) l older at end → IsLaid n l older (below_at l at) at
unfolding IsLaid
popped-laid n l older zero end h x = absurd (omega (arith, h))
popped-laid n l older (suc at) end h x = laid-whole l older (below_at l (suc at)) (suc at) (suc at) (omega arith) n x.2

pub popped-frames : (n : ℕ) (l : List ℤ) (older : List (List ℤ)) (at end : ℕ) → 0 < at → IsLaid (suc n) l older at end
    → frames_at n l older (below_at l at) ≡ below_of (frames_at (suc n) l older at)
unfolding IsLaid frames_at
popped-frames n l older zero end h x = absurd (omega (arith, h))
popped-frames n l older (suc at) end h x = sym (frames-whole l older (below_at l (suc at)) (suc at) (suc at) (omega arith) n x.2)

-- the last one
pub last-laid : (l w : List ℤ) (older : List (List ℤ)) (at end : ℕ) → IsLaid 1 l older at end → (at ≡ 0) × IsLaid 0 w [] 0 0
unfolding IsLaid
last-laid l w older (suc at) end x = let h = x.2.1 in absurd (omega (arith, h))
last-laid l w older zero end x = (refl, (refl, refl))

pub last-frames : (l w : List ℤ) (older : List (List ℤ)) (at : ℕ) → frames_at 0 w [] 0 ≡ below_of (frames_at 1 l older at)
unfolding frames_at
last-frames l w older at = refl

-- in the segment before
pub left-some : (n : ℕ) (l : List ℤ) (older : List (List ℤ)) (end : ℕ) → IsLaid (suc (suc n)) l older 0 end → 0 < length older
unfolding IsLaid
left-some n l [] end x = let h = x.2.0.ends in absurd (omega (arith, h))
left-some n l (o ∷ older) end x = omega arith

pub left-laid : (n : ℕ) (l o : List ℤ) (older : List (List ℤ)) (end : ℕ) → IsLaid (suc n) l (o ∷ older) 0 end
    → IsLaid n o older (below_at l 0) (below_at l 0 + (size_at o (below_at l 0) + 4))
unfolding IsLaid
left-laid n l o older end x = x.2

pub left-frames : (n : ℕ) (l o : List ℤ) (older : List (List ℤ)) → frames_at n o older (below_at l 0) ≡ below_of (frames_at (suc n) l (o ∷ older) 0)
unfolding frames_at
left-frames n l o older = refl

-- an activation begins low enough for its head
pub begins-low : (n : ℕ) (l : List ℤ) (older : List (List ℤ)) (at end : ℕ) → IsLaid n l older at end → 0 < n → at ≤ 4092
unfolding IsLaid
begins-low zero l older at end x h = absurd (omega (arith, h))
begins-low (suc n) l older at end x h = omega (arith, x.0.ends, x.0.within)

-- the innermost activation begins its segment
module _ (segs : List (List ℤ)) (s d end : ℕ) (there : s < length segs) where
  abbrev First : ℕ → Type 0
  First b = IsLaid (suc d) (nth segs s) (before segs s) b end

  pub left-below : (b : ℕ) → b ≡ 0 → 0 < d → First b → 0 < s
  left-below b e h x =
      let n = before-length segs s (omega (arith, there)) in
      let more = deeper d h (subst (λ y. First y) e x) in omega (arith, n, more)
    where
      deeper : (k : ℕ) → 0 < k → IsLaid (suc k) (nth segs s) (before segs s) 0 end → 0 < length (before segs s)
      deeper zero h x = absurd (omega (arith, h))
      deeper (suc k) h x = left-some k (nth segs s) (before segs s) end x

  split : 0 < s → before segs s ≡ nth segs (s - 1) ∷ before segs (s - 1)
  split h =
      let e : (s - 1) + 1 ≡ s = omega (arith, h) in
      ap (λ t. before segs t) (sym e) ∙ before-more segs (s - 1) (omega (arith, there))

  pub left-all : (b below : ℕ) → b ≡ 0 → 0 < s → below ≡ below_at (nth segs s) b → First b
      → IsLaid d (nth segs (s - 1)) (before segs (s - 1)) below (below + (size_at (nth segs (s - 1)) below + 4))
      × (frames_in segs (s - 1) below d ≡ below_of (frames_in segs s b (suc d)))
  left-all b below e h eb x =
      let o = nth segs (s - 1) in let older = before segs (s - 1) in
      let to : below_at (nth segs s) 0 ≡ below = ap (λ y. below_at (nth segs s) y) (sym e) ∙ sym eb in
      let laid = left-laid d (nth segs s) o older end (subst (λ (l : List (List ℤ)). IsLaid (suc d) (nth segs s) l 0 end) (split h) (subst (λ y. First y) e x)) in (
        subst (λ y. IsLaid d o older y (y + (size_at o y + 4))) to laid,
        ap (λ y. frames_at d o older y) (sym to) ∙ left-frames d (nth segs s) o older
            ∙ ap (λ (l : List (List ℤ)). below_of (frames_at (suc d) (nth segs s) l 0)) (sym (split h))
            ∙ ap (λ y. below_of (frames_in segs s y (suc d))) (sym e),
      )

pub begins-low' : (n : ℕ) (l : List ℤ) (older : List (List ℤ)) (at end : ℕ) → IsLaid n l older at end → 0 < end → at ≤ 4092
unfolding IsLaid
begins-low' zero l older at end x h = absurd (omega (arith, h, x.1))
begins-low' (suc n) l older at end x h = omega (arith, x.0.ends, x.0.within)

any-words : (l m : List ℤ) (older : List (List ℤ)) (b e : ℕ) → IsLaid zero l older b e → IsLaid zero m older b e
unfolding IsLaid
any-words l m older b e x = x

no-frames : (l m : List ℤ) (older : List (List ℤ)) (b : ℕ) → frames_at zero l older b ≡ frames_at zero m older b
unfolding frames_at
no-frames l m older b = refl

-- the stack with one more segment
module _ (segs : List (List ℤ)) (m : List ℤ) (s b e spare : ℕ) where
  abbrev more : List (List ℤ)
  more = segs ++ m ∷ []

  abbrev Grown : ℕ → Type 0
  Grown d = IsStack more s b e d (spare + 3964) × (frames_in more s b d ≡ frames_in segs s b d)

  grown-length : length more ≡ length segs + 1
  grown-length = length-append segs (m ∷ [])

  grown-of : (d : ℕ) → IsStack segs s b e d spare → length segs < 4333973 → frames_in more s b d ≡ frames_in segs s b d
      → IsLaid d (nth more s) (before more s) b e → Grown d
  grown-of d is h fr laid =
      let n = grown-length in let r = is.room in let here = is.here in
      let t : total (frames_in more s b d) ≡ total (frames_in segs s b d) = ap total fr in (
        record {
          laid = laid;
          here = omega (arith, here, n);
          low = is.low;
          room = omega (arith, t, r, n);
          few = omega (arith, h, n);
        },
        fr,
      )

  grown-before : s ≤ length segs → before more s ≡ before segs s
  grown-before h = ap (λ (l : List (List ℤ)). reverse l) (take-append-le s segs (m ∷ []) h)

  pub grown : (d : ℕ) → IsStack segs s b e d spare → length segs < 4333973 → Grown d
  grown zero is h =
      grown-of zero is h
      (no-frames (nth more s) (nth segs s) (before more s) b ∙ ap (λ (o : List (List ℤ)). frames_at 0 (nth segs s) o b) (grown-before is.here))
      (any-words (nth segs s) (nth more s) (before more s) b e (subst (λ (o : List (List ℤ)). IsLaid zero (nth segs s) o b e) (sym (grown-before is.here)) is.laid))
  grown (suc d) is h =
      let same : nth more s ≡ nth segs s = get_or_append_left segs (m ∷ []) [] s (innermost segs s b e (suc d) spare is (omega arith)).there in
      let old = grown-before is.here in
      grown-of (suc d) is h
      (ap (λ (w : List ℤ). frames_at (suc d) w (before more s) b) same ∙ ap (λ (o : List (List ℤ)). frames_at (suc d) (nth segs s) o b) old)
      (subst (λ (w : List ℤ). IsLaid (suc d) w (before more s) b e) (sym same) (subst (λ (o : List (List ℤ)). IsLaid (suc d) (nth segs s) o b e) (sym old) is.laid))

-- an empty stack
pub empty-stack : IsStack [] 0 0 0 0 0 × (frames_in [] 0 0 0 ≡ [])
unfolding IsLaid frames_at total
empty-stack = (record { laid = (refl, refl); here = omega arith; low = omega arith; room = omega arith; few = omega arith }, refl)

-- the activation in the segment before this one, with all that is known of it
pub record IsLeft (segs : List (List ℤ)) (s b below d : ℕ) : Type 0 where
  pub laid : IsLaid d (nth segs (s - 1)) (before segs (s - 1)) below (below + (size_at (nth segs (s - 1)) below + 4))
  pub frames : frames_in segs (s - 1) below d ≡ below_of (frames_in segs s b (suc d))
  pub there : s - 1 < length segs
  pub low : below ≤ 4092

pub left : (segs : List (List ℤ)) (s d end b below : ℕ) → s < length segs → b ≡ 0 → 0 < d → below ≡ below_at (nth segs s) b → IsLaid (suc d) (nth segs s) (before segs s) b end → IsLeft segs s b below d
left segs s d end b below there eb h e x =
    let some = left-below segs s d end there b eb h x in
    let both = left-all segs s d end there b below eb some e x in
    record {
      laid = both.0;
      frames = both.1;
      there = omega (arith, there);
      low = begins-low d (nth segs (s - 1)) (before segs (s - 1)) below (below + (size_at (nth segs (s - 1)) below + 4)) both.0 h;
    }

-- the stack without its innermost activation
pub popped-stack : (segs : List (List ℤ)) (s b e d spare n s' b' e' : ℕ) → IsStack segs s b e d spare → d ≡ suc n
    → IsLaid n (nth segs s') (before segs s') b' e' → frames_in segs s' b' n ≡ below_of (frames_in segs s b (suc n)) → s' ≤ length segs → b' ≤ 4092
    → IsStack segs s' b' e' n (spare + (e - b))
popped-stack segs s b e d spare n s' b' e' is ed laid fr here low =
    let x = innermost segs s b e d spare is (omega (arith, ed)) in
    let t = total-below n (nth segs s) (before segs s) b in
    let u : total (frames_in segs s b d) ≡ total (frames_in segs s b (suc n)) = ap (λ k. total (frames_in segs s b k)) ed in
    let v : total (frames_in segs s' b' n) ≡ total (below_of (frames_in segs s b (suc n))) = ap total fr in
    let r = is.room in
    record {
      laid = laid;
      here = here;
      low = low;
      room = omega (arith, t, u, v, r, x.lies.ends, x.lies.size);
      few = is.few;
    }
